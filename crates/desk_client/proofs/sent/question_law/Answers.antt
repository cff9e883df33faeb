use Rattle.asks.proofs.ValueLemmas.{day-reads, day-shown}
use Rattle.desk_client.proofs.SentLemmas.{asks_none, is_sent}
use Rattle.desk_client.proofs.sent.question_law.Goals as goal

pub returns-clause-sent : goal.returns-clause-sent
returns-clause-sent c =
    is_sent (record {
      reads = day-reads c.calendar_law.ensures.each_moment c.day_law.ensures.shown c.day_law.ensures.whole;
      one_text = c.day_law.ensures.one_text;
      one_day = c.day_law.ensures.one_read;
      shown = day-shown c.calendar_law.ensures.each_moment c.calendar_law.ensures.ranges;
    })

pub returns-clause-outside : goal.returns-clause-outside
returns-clause-outside c = asks_none
