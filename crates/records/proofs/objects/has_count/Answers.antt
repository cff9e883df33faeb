use Rattle.serde_json.specs.View.{view}
use Rattle.records.proofs.ObjectLemmas.{count_is}
use Rattle.records.proofs.objects.has_count.Goals as goal

pub returns-in-Some : goal.returns-in-Some
returns-in-Some c =
    count_is (view c.args.value.now) c.in-Some.members.now.entries c.len.result c.args.count c.in-Some.ensures c.len.ensures.len
