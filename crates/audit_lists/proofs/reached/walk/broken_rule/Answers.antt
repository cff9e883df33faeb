use Rattle.std.proofs.Common.{[], ◌∷◌, take}
use Rattle.std.proofs.lemmas.List.Elements.{All-nil}
use Rattle.audit_rows.specs.declared.finding.Rule.{Rule}
use Rattle.audit_rows.specs.declared.finding.Rule.TheVariants as rule
use Rattle.audit_lists.specs.reached.Finds.{Keeps}
use Rattle.audit_lists.proofs.ReachedLemmas.WalkLemmas.{few_taken, rows_taken, tids_taken}
use Rattle.audit_lists.proofs.reached.walk.broken_rule.Goals as goal

pub returns : goal.returns
returns c o at office shifts listed walked =
    let s = c.args.sale.now in
    let before = take at o.sales in
    let finds_0 = All-nil (λ (r : Rule). Keeps r o before s) in
    let finds_1 = c.first_of-broken.ensures [] o before s finds_0 (c.is_in_own_shift.ensures o office shifts) in
    let finds_2 = c.first_of-broken-2.ensures (rule.Operator ∷ []) o before s finds_1
    (c.is_in_open_shift.ensures o before c.args.walked.now.latest office walked.latest walked.lasts) in
    let finds_3 = c.first_of-broken-3.ensures (rule.Operator ∷ rule.Order ∷ []) o before s finds_2 (c.is_under_present_base.ensures before walked.gathered) in
    let finds_4 = c.first_of-broken-4.ensures (rule.Operator ∷ rule.Order ∷ rule.Base ∷ []) o before s finds_3
    (c.has_fresh_tid.ensures before walked.gathered (tids_taken o office at)) in
    let finds_5 = c.first_of-broken-5.ensures (rule.Operator ∷ rule.Order ∷ rule.Base ∷ rule.Identifier ∷ []) o before s finds_4
    (c.is_bought.ensures o before listed walked.gathered (few_taken o office at) (rows_taken o office at)) in
    c.first_of.ensures (rule.Operator ∷ rule.Order ∷ rule.Base ∷ rule.Identifier ∷ rule.Price ∷ []) o before s finds_5 c.is_of_class_zero.ensures
