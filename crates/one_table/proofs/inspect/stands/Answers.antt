use Rattle.std.proofs.Common.{rules, ◌≡◌, Some, slice_get, sym}
use Rattle.sqlite_schema.specs.Names.{table_named}
use Rattle.one_table.proofs.StandingLemmas.{stands_from, stands_when}
use Rattle.one_table.proofs.inspect.stands.Goals as goal

pub returns-in-Some-get : goal.returns-in-Some-get
returns-in-Some-get c =
    let s = c.args.schema.now in
    let t = c.args.table.now in
    let found = c.in-Some-get.found.now in
    let named : table_named s t.name ≡ Some c.in-Some.at = search rules in
    let listed : slice_get s.tables c.in-Some.at ≡ Some found = sym c.in-Some-get.ensures.value in
    let told = c.stands_at.ensures in (
      λ h. let it = told.0 h in (stands_from s found t c.in-Some.at named listed it, it.own_tree.plain),
      λ h. told.1 (stands_when s found t c.in-Some.at named listed h.0 h.1),
    )
