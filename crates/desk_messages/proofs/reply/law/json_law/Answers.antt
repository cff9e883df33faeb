use Rattle.asks.proofs.ValueLemmas.{day-shown}
use Rattle.desk_messages.proofs.JsonLemmas.{list-json, page-json, record-json, tariff-json}
use Rattle.desk_messages.proofs.reply.law.json_law.Goals as goal

pub returns-clause-record : goal.returns-clause-record
returns-clause-record c = record-json

pub returns-clause-tariff : goal.returns-clause-tariff
returns-clause-tariff c = tariff-json (day-shown c.calendar_law.ensures.each_moment c.calendar_law.ensures.ranges)

pub returns-clause-list : goal.returns-clause-list
returns-clause-list c = list-json

pub returns-clause-page : goal.returns-clause-page
returns-clause-page c = page-json
