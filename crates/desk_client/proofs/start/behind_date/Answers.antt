use Rattle.std.proofs.Common.{Some, None}
use Rattle.desk_client.proofs.DateLemmas.{dated_end, no_dated_end, no_end}
use Rattle.desk_client.proofs.start.behind_date.Goals as goal

pub returns-in-Some : goal.returns-in-Some
returns-in-Some c = (None, tt, c.in-Some.ensures {u = tt})

pub returns-in_default-behind : goal.returns-in_default-behind
returns-in_default-behind c = no_end c.args.text.now (c.in_default.ensures {u = tt}) (c.in_default-behind.ensures {u = tt})

pub returns-in-Some-behind_value : goal.returns-in-Some-behind_value
returns-in-Some-behind_value c =
    let found = c.in-Some-behind_value.ensures {u = tt} in (
      Some found.0,
      found.1,
      dated_end c.args.text.now c.in-Some-behind.value.now found.0 c.in-Some-behind_value.rest.now (c.in-Some-behind.ensures {u = tt}) found.2,
    )

pub returns-in-None : goal.returns-in-None
returns-in-None c =
    no_dated_end c.args.text.now c.in-Some-behind.value.now (c.in_default.ensures {u = tt}) (c.in-Some-behind.ensures {u = tt})
    (c.in-None.ensures {u = tt})
