-- Sales gone through in turn: what is known of those before, and what is found of one.
use Rattle.std.proofs.Common.{◌≡◌, ◌≤◌, ◌<◌, ◌+◌, ◌^◌, ℕ, List, [], ◌∷◌, ◌++◌, Some, length, take, max, refl, sym, ap, subst, add-one, ◌∙◌, arith}
use Rattle.std.specs.Prelude.{All, slice_get}
use Rattle.std.proofs.Math.Seq.{take-append_seam, take-suc}
use Rattle.std.proofs.lemmas.List.{get_or_append_left, length-append, length-take, take-append-le}
use Rattle.std.proofs.lemmas.List.Elements.{All-contains, All-push, All-take, All-weaker, Contains-append_left, Contains-push}
use Rattle.std.proofs.lemmas.Option.{get_or_from_slice_get, slice_get-get_or, slice_get_within}
use Rattle.sts_fields.specs.Tid.{last_tid}
use Rattle.vend_core.specs.Law.Reached.{IsGrantedAfter}
use Rattle.office_rules.specs.Office.{IsOffice, IsSaleRow, Office, greatest_count}
use Rattle.office_rules.specs.declared.office.sale.Sale.{Sale}
use Rattle.office_rules.proofs.OfficeLemmas.MapLemmas.{all_from_contains}
use Rattle.audit_rows.specs.declared.finding.Rule.{Rule}
use Rattle.audit_lists.specs.Ties.{EachBelow}
use Rattle.audit_lists.specs.declared.reached.walked.Walked.{Walked}
use Rattle.audit_lists.specs.reached.Finds.{BreaksFirst, Keeps}
use Rattle.audit_lists.specs.reached.Walk.{IsLatestOf, IsWalked}
use Rattle.audit_lists.proofs.EachLemmas.{each_more}

-- the greatest shift of the sales and one more
pub latest_more : (earlier : List Sale) (latest : ℕ) (s : Sale) → IsLatestOf earlier latest → IsLatestOf (earlier ++ s ∷ []) (max latest s.shift)
latest_more earlier latest s is n some = (
  λ all.
      let before = (is n some).0 (all_from_contains (λ (a : Sale). a.shift < n) earlier
      (λ a there. All-contains (λ (b : Sale). b.shift < n) (earlier ++ s ∷ []) a all (Contains-append_left earlier (s ∷ []) a there))) in
      let last = All-contains (λ (b : Sale). b.shift < n) (earlier ++ s ∷ []) s all (Contains-push earlier s) in
      omega (arith, before, last),
  λ less. All-push (λ (a : Sale). a.shift < n) earlier s ((is n some).1 (omega (arith, less))) (omega (arith, less)),
)

-- ---- the rules of a sale

kept_left : {X : Type 0} (xs ys : List X) (i : ℕ) (x : X) → slice_get xs i ≡ Some x → slice_get (xs ++ ys) i ≡ Some x
kept_left xs ys i x at =
    let within = slice_get_within xs i x at in
    slice_get-get_or (xs ++ ys) i x (let long = length-append xs ys in omega (arith, within, long))
    ∙ ap Some (get_or_append_left xs ys x i within ∙ get_or_from_slice_get xs i x x at)

last_there : {X : Type 0} (xs : List X) (x : X) → slice_get (xs ++ x ∷ []) (length xs) ≡ Some x
last_there [] x = refl
last_there (y ∷ ys) x = last_there ys x

module _ (rules : List Rule) (o : Office) (earlier : List Sale) (s : Sale) (rule : Rule) where
  -- the first that is broken stays so with one more
  pub breaks_still : (broken : Rule) → BreaksFirst rules o earlier s broken → BreaksFirst (rules ++ rule ∷ []) o earlier s broken
  breaks_still broken first =
      let within = slice_get_within rules first.place broken first.there in
      record {
        place = first.place;
        there = kept_left rules (rule ∷ []) first.place broken first.there;
        before = subst (All (λ r. Keeps r o earlier s)) (sym (take-append-le first.place rules (rule ∷ []) (omega (arith, within)))) first.before;
        breaks = first.breaks;
      }

  -- one more is the first, where those before are kept
  pub breaks_last : All (λ r. Keeps r o earlier s) rules → ¬ Keeps rule o earlier s → BreaksFirst (rules ++ rule ∷ []) o earlier s rule
  breaks_last all broken = record {
    place = length rules;
    there = last_there rules rule;
    before = subst (All (λ r. Keeps r o earlier s)) (sym (take-append_seam rules (rule ∷ []))) all;
    breaks = broken;
  }

-- ---- one sale more

-- what is known of a front of an office's sales
pub record IsFront (o : Office) (at : ℕ) (w : Walked) : Type 0 where
  pub walked : IsWalked o.shifts (take at o.sales) w
  pub before : EachBelow (λ i s. IsGrantedAfter o (take i o.sales) s) o.sales at

module _ (o : Office) (office : IsOffice o) (at : ℕ) where
  -- the sales before a place are no more than an office may have
  pub few_taken : length (take at o.sales) ≤ greatest_count
  few_taken = let few = office.sale_count in omega (arith, few, length-take at o.sales)

  -- the sales before a place are rows of the office
  pub rows_taken : All (IsSaleRow o) (take at o.sales)
  rows_taken = All-take (IsSaleRow o) at o.sales office.sales

  -- their identifiers are within the greatest there is
  pub tids_taken : All (λ (a : Sale). a.tid ≤ last_tid) (take at o.sales)
  tids_taken = All-weaker (IsSaleRow o) (λ (a : Sale). a.tid ≤ last_tid) (λ a row. row.tid) (take at o.sales) rows_taken

  -- one sale more that was granted is walked over
  pub front_more : (s : Sale) (w new : Walked) → slice_get o.sales at ≡ Some s → IsFront o at w → IsGrantedAfter o (take at o.sales) s
      → ((earlier : List Sale) → length earlier < 2 ^ 32 → IsWalked o.shifts earlier w → IsWalked o.shifts (earlier ++ s ∷ []) new) → IsFront o (at + 1) new
  front_more s w new there front granted adds =
      let within = slice_get_within o.sales at s there in
      let one : take (at + 1) o.sales ≡ take at o.sales ++ s ∷ [] =
      ap (λ (n : ℕ). take n o.sales) (add-one at) ∙ take-suc o.sales at s within
      ∙ ap (λ (x : Sale). take at o.sales ++ x ∷ []) (get_or_from_slice_get o.sales at s s there) in
      record {
        walked = subst (λ (l : List Sale). IsWalked o.shifts l new) (sym one) (adds (take at o.sales) (let few = few_taken in omega (arith, few)) front.walked);
        before = each_more (λ i x. IsGrantedAfter o (take i o.sales) x) o.sales at s there granted front.before;
      }
