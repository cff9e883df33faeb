use Rattle.std.proofs.Common.{◌≡◌, ◌<◌, ◌^◌, ◌∙◌, ◌++◌, ◌∷◌, [], List, Some, ap, arith, length, subst, rules, sym, take}
use Rattle.std.specs.Prelude.{slice_get}
use Rattle.office_rules.specs.declared.office.sale.Sale.{Sale}
use Rattle.office_rules.specs.declared.office.shift.Shift.{Shift}
use Rattle.std.proofs.lemmas.Option.{slice_get_within}
use Rattle.audit_lists.specs.reached.Prices.{AreListed}
use Rattle.audit_lists.specs.reached.Walk.{IsWalked, TellsSale}
use Rattle.audit_lists.proofs.EachLemmas.{row_at}
use Rattle.audit_lists.proofs.ReachedLemmas.FaultLemmas.{tells_sale, told_on}
use Rattle.audit_lists.proofs.ReachedLemmas.PlausibleLemmas.{granted}
use Rattle.audit_lists.proofs.ReachedLemmas.WalkLemmas.{front_more}
use Rattle.audit_lists.proofs.reached.walk.test_sales.Goals as goal

pub returns-in_err-listed-clause-found : goal.returns-in_err-listed-clause-found
returns-in_err-listed-clause-found c =
    let r = c.args.rows.now in
    told_on (TellsSale r) c.from_residual.result c.in_err-listed.field-0.0 c.from_residual.ensures.1
    (tells_sale r c.in_err-listed.field-0.0 (search rules) c.in_err-listed.ensures.found)

pub sales-init : goal.sales-init
sales-init c o are = record {
  walked = c.new-walked.ensures o.shifts;
  before = λ i s low there. absurd (omega (arith, low));
}

pub returns-in-Some-clause-found : goal.returns-in-Some-clause-found
returns-in-Some-clause-found c o are =
    let at = c.sales.at in
    let s = c.index-sales-at.result in
    let front = c.sales.invariant o are in
    let listed = subst (AreListed o) (sym c.deref.ensures.value) (c.in_ok-listed.ensures.lists o are) in
    record {
      place = at;
      sale = s;
      broken = c.in-Some.rule;
      there = subst (λ (l : List Sale). slice_get l at ≡ Some s) (c.as_slice-sales.ensures.value ∙ are.members.sales)
          (row_at c.as_slice-sales.result.now at s c.sales-test.true c.index-sales-at.is);
      before = front.before;
      breaks = c.in-Some.ensures o at are.is (sym (c.as_slice-shifts.ensures.value ∙ are.members.shifts)) listed front.walked;
      named = c.found.ensures;
    }

pub sales-preserved : goal.sales-preserved
sales-preserved c o are =
    let at = c.sales.at in
    let s = c.index-sales-at.result in
    let front = c.sales.invariant o are in
    let listed = subst (AreListed o) (sym c.deref.ensures.value) (c.in_ok-listed.ensures.lists o are) in
    let shifts = c.as_slice-shifts.ensures.value ∙ are.members.shifts in
    front_more o are.is at s c.sales.walked c.add.new.self
    (subst (λ (l : List Sale). slice_get l at ≡ Some s) (c.as_slice-sales.ensures.value ∙ are.members.sales)
    (row_at c.as_slice-sales.result.now at s c.sales-test.true c.index-sales-at.is))
    front (granted o (take at o.sales) s (c.in-None.ensures o at are.is (sym shifts) listed front.walked))
    (subst (λ (l : List Shift). (earlier : List Sale) → length earlier < 2 ^ 32 → IsWalked l earlier c.sales.walked
    → IsWalked l (earlier ++ s ∷ []) c.add.new.self) shifts c.in_ok-add-in-None.ensures)

pub returns-clause-passes : goal.returns-clause-passes
returns-clause-passes c o are i s there =
    let within = slice_get_within o.sales i s there in
    let same = ap length (c.as_slice-sales.ensures.value ∙ are.members.sales) in
    (c.sales.invariant o are).before i s (omega (arith, within, same, c.sales-test.false)) there
