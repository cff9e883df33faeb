use Rattle.records.proofs.JsonLemmas.{record_read}
use Rattle.records.proofs.MemberLemmas.{one_record}
use Rattle.records.proofs.law.record_law.Goals as goal

pub returns-clause-one : goal.returns-clause-one
returns-clause-one c = one_record

pub returns-clause-json : goal.returns-clause-json
returns-clause-json c = record_read
