-- The fresh identifier, and the one that a sale has.
use Rattle.std.proofs.Common.{◌≡◌, ◌≤◌, ℕ, List, Option, None, Some, Result, Ok, sym, ap, subst, ◌∙◌}
use Rattle.std.specs.Prelude.{◌&&◌, All, IfSome, bytes_eq, filter}
use Rattle.std.proofs.lemmas.List.Elements.{All-contains, All-filter, All-map}
use Rattle.sts_fields.specs.Base.{base_eq}
use Rattle.sts_fields.specs.Tid.{FreshOutcome, IsLast, fresh_after, last_tid, minute_of}
use Rattle.sts_fields.specs.declared.fault.TidFault.{TidFault}
use Rattle.sts_fields.proofs.TidLemmas.{fresh_after_is}
use Rattle.vend_core.specs.Law.Reached.{HasFreshTid, sales_alone}
use Rattle.office_rules.specs.Office.Lookup.{greatest_of, used}
use Rattle.office_rules.specs.declared.office.sale.Sale.{Sale}
use Rattle.office_rules.proofs.DecisionLemmas.NewSaleLemmas.{greatest_is_last}

-- after the same identifiers, in the same minute, there is one outcome
abbrev pub HaveOneOutcome : Type 0
HaveOneOutcome = (sold : List ℕ) (now : ℕ) (r s : Result ℕ TidFault) → FreshOutcome sold now r → FreshOutcome sold now s → r ≡ s

same_Ok : (r : Result ℕ TidFault) (a b : ℕ) → r ≡ Ok a → r ≡ Ok b → a ≡ b
same_Ok r a b e f = cc

-- the minute is that of the sale, and the identifier is the fresh one
module _ (one : HaveOneOutcome) (earlier : List Sale) (s : Sale) where
  abbrev sold : List ℕ
  sold = used (sales_alone earlier) s.meter s.base

  -- a sale with the identifier that comes after the greatest has a fresh one
  pub fresh_where : (minute : ℕ) → minute_of s.base s.moment ≡ Ok minute → (last : Option ℕ) → last
      ≡ greatest_of (used (sales_alone earlier) s.meter s.base) → fresh_after minute last ≡ Ok s.tid → HasFreshTid earlier s
  fresh_where minute is last greatest next = record {
    minute = minute;
    minute_is = is;
    fresh = subst (FreshOutcome sold minute) (ap (fresh_after minute) (sym greatest) ∙ next)
        (fresh_after_is sold minute (greatest_of sold) (greatest_is_last sold));
  }

  -- and a sale with a fresh one has the identifier that comes after the greatest
  pub next_where : (minute : ℕ) → minute_of s.base s.moment ≡ Ok minute → (last : Option ℕ) → last
      ≡ greatest_of (used (sales_alone earlier) s.meter s.base) → HasFreshTid earlier s → fresh_after minute last ≡ Ok s.tid
  next_where minute is last greatest has =
      let same : has.minute ≡ minute = same_Ok (minute_of s.base s.moment) has.minute minute has.minute_is is in
      ap (fresh_after minute) greatest ∙ one sold minute (fresh_after minute (greatest_of sold)) (Ok s.tid)
      (fresh_after_is sold minute (greatest_of sold) (greatest_is_last sold)) (subst (λ (m : ℕ). FreshOutcome sold m (Ok s.tid)) same has.fresh)

-- the last identifier is one of those that were sold
within_last : (ns : List ℕ) (last : Option ℕ) → IsLast ns last → All (λ u. u ≤ last_tid) ns → IfSome last (λ t. t ≤ last_tid)
within_last ns None is all = tt
within_last ns (Some t) is all = All-contains (λ u. u ≤ last_tid) ns t all is.0

-- the greatest identifier sold before is within the greatest there is, as all of them are
pub last_within : (earlier : List Sale) (s : Sale) (last : Option ℕ) → last ≡ greatest_of (used (sales_alone earlier) s.meter s.base)
    → All (λ (a : Sale). a.tid ≤ last_tid) earlier → IfSome last (λ t. t ≤ last_tid)
last_within earlier s last is all =
    let test = λ (a : Sale). bytes_eq a.meter s.meter && base_eq a.base s.base in
    let sold = used (sales_alone earlier) s.meter s.base in
    let each : All (λ (u : ℕ). u ≤ last_tid) sold = All-map (λ (u : ℕ). u ≤ last_tid) (λ (a : Sale). a.tid) (filter test earlier)
    (All-filter test (λ (a : Sale). a.tid ≤ last_tid) earlier all) in
    within_last sold last (subst (IsLast sold) (sym is) (greatest_is_last sold)) each
