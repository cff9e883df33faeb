use Rattle.std.proofs.Common.{◌+◌, ◌≤◌, ◌^◌, List, [], arith, length}
use Rattle.office_rules.specs.declared.office.sale.Sale.{Sale}
use Rattle.audit_lists.proofs.totals.gathered_of.Goals as goal

pub returns : goal.returns
returns c =
    let none : List Sale = [] in
    let few : 0 + length c.args.sales.now ≤ 2 ^ 32 = omega (arith, c.requires) in
    c.in_ok-add_all.ensures none few c.new-gathered.ensures
