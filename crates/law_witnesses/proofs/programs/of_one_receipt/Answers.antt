use Rattle.std.proofs.Common.{◌≡◌, ◌∙◌, List, subst, sym}
use Rattle.std.specs.Prelude.{Contains}
use Rattle.std.proofs.lemmas.Bool.Decides.{Decides-eqb}
use Rattle.std.proofs.lemmas.Slice.Eq.{slice_eq-Decides}
use Rattle.office_rules.specs.declared.office.sale.Sale.{Sale}
use Rattle.vend_core.specs.Lists.{office_of}
use Rattle.law_witnesses.proofs.programs.of_one_receipt.Goals as goal

pub returns-then-eq : goal.returns-then-eq
returns-then-eq c =
    let o = office_of c.listed-lists.result in
    let one = c.in-Some.one in
    let other = c.in-Some-sale_at.other in
    let Has : Sale → List Sale → Type 0 = λ sale sales. Contains sales sale in
    let stands = subst (Has one) c.sales-sales.ensures (c.in-Some.ensures {u = tt}) in
    let stands_too = subst (Has other) c.sales-sales.ensures (c.in-Some-sale_at.ensures {u = tt}) in
    let test = slice_eq-Decides Decides-eqb c.as_slice.result.now c.as_slice-2.result.now c.eq.result c.eq.ensures in
    c.receipt_once.ensures.receipt o one other c.listed-lists.ensures stands stands_too
    (sym (c.in-Ok.ensures {u = tt}) ∙ sym c.as_slice.ensures.value ∙ test.0 c.if-eq.true ∙ c.as_slice-2.ensures.value ∙ c.in-Ok-receipt.ensures {u = tt})
