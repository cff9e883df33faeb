-- Rows of a plausible office: none of them is found.
use Rattle.std.proofs.Common.{List, arith, inl, inr, take}
use Rattle.std.specs.Prelude.{All}
use Rattle.std.proofs.lemmas.List.Elements.{All-contains, All-from_recursion}
use Rattle.vend_core.specs.Law.Reached.{IsGrantedAfter, IsPlausible}
use Rattle.office_rules.specs.Office.{Office}
use Rattle.office_rules.specs.declared.office.sale.Sale.{Sale}
use Rattle.audit_rows.specs.declared.finding.Finding.{Finding}
use Rattle.audit_rows.specs.declared.finding.Rule.{Rule}
use Rattle.audit_rows.specs.declared.finding.Rule.TheVariants as rule
use Rattle.audit_lists.specs.reached.Finds.{FindsByRequests, Keeps, granting_rules}
use Rattle.audit_lists.proofs.ListLemmas.{contains_at}
use Rattle.audit_lists.proofs.ReachedLemmas.ShiftLemmas.{kept_pairs}

module _ (o : Office) (earlier : List Sale) (s : Sale) where
  -- a sale is granted exactly if it keeps each rule
  pub keeps_all : IsGrantedAfter o earlier s → All (λ r. Keeps r o earlier s) granting_rules
  keeps_all g = All-from_recursion (λ (r : Rule). Keeps r o earlier s) granting_rules (g.operator, (g.shift, (g.base, (g.tid, (g.bought, (g.digits, tt))))))

  -- a sale that keeps each rule is granted after those before it
  pub granted : All (λ r. Keeps r o earlier s) granting_rules → IsGrantedAfter o earlier s
  granted all = record {
    operator = all 0 rule.Token (omega arith);
    shift = all 1 rule.Token (omega arith);
    base = all 2 rule.Token (omega arith);
    tid = all 3 rule.Token (omega arith);
    bought = all 4 rule.Token (omega arith);
    digits = all 5 rule.Token (omega arith);
  }

-- nothing is found of an office that requests lead to
pub none_found : (o : Office) (f : Finding) → IsPlausible o → ¬ FindsByRequests o f
none_found o f plausible (inl first) = first.2.breaks (kept_pairs o.shifts plausible.shifts first.0 first.1 first.2.there)
none_found o f plausible (inr (kept, first)) =
    let b = first.breaks in
    b.breaks (All-contains (λ (r : Rule). Keeps r o (take first.place o.sales) first.sale) granting_rules first.broken
    (keeps_all o (take first.place o.sales) first.sale (plausible.sales first.place first.sale first.there))
    (contains_at granting_rules b.place first.broken b.there))
