use Rattle.std.proofs.Common.{◌≡◌, ◌∙◌, List, Some, ap, arith, length, subst, sym}
use Rattle.std.specs.Prelude.{slice_get}
use Rattle.std.proofs.lemmas.Bool.{false≢true}
use Rattle.std.proofs.lemmas.Option.{slice_get_within}
use Rattle.vend_core.specs.Law.Reached.{IsWrittenBy}
use Rattle.office_rules.specs.Office.{IsSaleRow}
use Rattle.office_rules.specs.declared.office.sale.Sale.{Sale}
use Rattle.audit_lists.proofs.EachLemmas.{each_more, row_at}
use Rattle.audit_lists.proofs.ListLemmas.{all_at, all_from}
use Rattle.audit_lists.proofs.tokens.test_tokens.Goals as goal

pub returns-then-not-is_written-clause-found : goal.returns-then-not-is_written-clause-found
returns-then-not-is_written-clause-found g c o are =
    let at = c.sales.at in
    let s = c.index-sales-at.result in
    let there : slice_get o.sales at ≡ Some s =
    subst (λ (l : List Sale). slice_get l at ≡ Some s) (c.as_slice-sales.ensures.value ∙ are.members.sales)
    (row_at c.as_slice-sales.result.now at s c.sales-test.true c.index-sales-at.is) in
    let is = c.is_written.ensures o are (all_at (IsSaleRow o) o.sales are.is.sales at s there) in (
      at,
      s,
      record {
        there = there;
        before = c.sales.invariant o are;
        breaks = λ written. false≢true (sym c.if-not-is_written.true ∙ is.1 written);
      },
      c.found.ensures,
    )

pub sales-preserved : goal.sales-preserved
sales-preserved g c o are =
    let at = c.sales.at in
    let s = c.index-sales-at.result in
    let forward = g.T.BlockTransform.forwards c.args.transform.now in
    let there : slice_get o.sales at ≡ Some s =
    subst (λ (l : List Sale). slice_get l at ≡ Some s) (c.as_slice-sales.ensures.value ∙ are.members.sales)
    (row_at c.as_slice-sales.result.now at s c.sales-test.true c.index-sales-at.is) in
    let is = c.is_written.ensures o are (all_at (IsSaleRow o) o.sales are.is.sales at s there) in
    each_more (λ _ x. IsWrittenBy forward o x) o.sales at s there (is.0 c.if-not-is_written.false) (c.sales.invariant o are)

pub returns-clause-passes : goal.returns-clause-passes
returns-clause-passes g c o are =
    let forward = g.T.BlockTransform.forwards c.args.transform.now in
    let same = ap length (c.as_slice-sales.ensures.value ∙ are.members.sales) in
    all_from (IsWrittenBy forward o) o.sales
    (λ i s there. c.sales.invariant o are i s (let low = slice_get_within o.sales i s there in omega (arith, low, same, c.sales-test.false)) there)
