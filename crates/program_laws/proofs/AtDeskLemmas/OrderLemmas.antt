-- The members of an office's page come after what was asked for, in order.
use Rattle.std.proofs.Common.{◌≡◌, ℕ, ◌<◌, true, List, [], ◌∷◌, map, take, get_or, refl, sym, subst, arith}
use Rattle.std.specs.Prelude.{All, AllPairs, IsSome, filter, nat_lt, unwrap_or}
use Rattle.std.proofs.lemmas.Bool.Decides.{nat_tests}
use Rattle.std.proofs.lemmas.List.{get_or-take, length-take}
use Rattle.std.proofs.lemmas.List.Elements.{All-head, All-take, All-weaker, filter_passes}
use Rattle.std.proofs.lemmas.List.Kept.{AllPairs-filter}
use Rattle.office_rules.specs.Office.{IsOffice, Office}
use Rattle.office_rules.specs.declared.office.sale.Sale.{Sale}
use Rattle.office_rules.specs.declared.office.shift.Shift.{Shift}
use Rattle.book_lists.specs.Pages.{ComesBefore, page_size}
use Rattle.book_facts.specs.Lookups.{listed_shift}
use Rattle.book_states.specs.declared.lookup.Found.{Found}
use Rattle.book_states.specs.declared.lookup.Found.TheVariants as found
use Rattle.book_states.specs.declared.lookup.ListedMeter.{ListedMeter}
use Rattle.book_states.specs.declared.lookup.ListedShift.{ListedShift}
use Rattle.book_states.specs.declared.lookup.ListedTariff.{ListedTariff}
use Rattle.asks.specs.declared.lookup.Lookup.{Lookup}
use Rattle.asks.specs.declared.lookup.Lookup.TheVariants as lookups
use Rattle.desk_client.specs.Tells.{as_told}
use Rattle.desk_commands.specs.PageOrder.{ComesAfter, Rise}
use Rattle.program_laws.proofs.AtDeskLemmas.PageLemmas.{FindsPage, page_as_told}
use Rattle.program_laws.proofs.AtDeskLemmas.PaperLemmas.{numbered_pairs, pairs_head, pairs_tail}

-- ---- pairs

module _ {X : Type 0} (R : X → X → Type 0) where
  pairs_take : (n : ℕ) (xs : List X) → AllPairs R xs → AllPairs R (take n xs)
  pairs_take n xs h i j d first within =
      let right : j < n = omega (arith, length-take n xs, within) in
      let left : i < n = omega (arith, first, right) in
      subst (λ a. R a (get_or (take n xs) j d)) (sym (get_or-take n xs i d left))
      (subst (λ b. R (get_or xs i d) b) (sym (get_or-take n xs j d right)) (h i j d first (omega (arith, length-take n xs, within))))

  -- keys that come after one, each before all later ones, rise
  keys_rise : (after : X) (keys : List X) → All (R after) keys → AllPairs R keys → Rise R after keys
  keys_rise after [] all pairs = tt
  keys_rise after (key ∷ keys) all pairs =
      (All-head (R after) key keys all, keys_rise key keys (pairs_head R key keys pairs) (pairs_tail R key keys pairs))

-- so do the numbers of members that were made of such
numbers_rise : {A B : Type 0} (number : A → ℕ) (f : A → B) (seen : B → ℕ) → ((x : A) → seen (f x) ≡ number x) → (after : ℕ) (xs : List A)
    → All (λ x. after < number x) xs → AllPairs (λ a b. number a < number b) xs → Rise (λ a b. a < b) after (map seen (map f xs))
numbers_rise number f seen same after [] all pairs = tt
numbers_rise number f seen same after (x ∷ xs) all pairs = (
  subst (λ n. after < n) (sym (same x)) (All-head (λ x. after < number x) x xs all),
  subst (λ n. Rise (λ a b. a < b) n (map seen (map f xs))) (sym (same x))
      (numbers_rise number f seen same (number x) xs (pairs_head (λ a b. number a < number b) x xs pairs)
      (pairs_tail (λ a b. number a < number b) x xs pairs)),
)

-- those of a page of the members after a number
page_rises : {A B : Type 0} (number : A → ℕ) (f : A → B) (seen : B → ℕ) → ((x : A) → seen (f x) ≡ number x) → (after : ℕ) (xs : List A)
    → AllPairs (λ a b. number a < number b) xs
    → Rise (λ a b. a < b) after (map seen (map f (take page_size (filter (λ x. nat_lt after (number x)) xs))))
page_rises number f seen same after xs pairs =
    let kept = filter (λ x. nat_lt after (number x)) xs in
    numbers_rise number f seen same after (take page_size kept)
    (All-weaker (λ x. nat_lt after (number x) ≡ true) (λ x. after < number x) (λ x e. grind (arith, nat_tests, e)) (take page_size kept)
    (All-take (λ x. nat_lt after (number x) ≡ true) page_size kept (filter_passes (λ x. nat_lt after (number x)) xs)))
    (pairs_take (λ a b. number a < number b) page_size kept (AllPairs-filter (λ a b. number a < number b) (λ x. nat_lt after (number x)) xs pairs))

-- ---- pages

-- the members of a page of an office, as they are told, come after what was asked for
pub page_after : (o : Office) → IsOffice o → (moment : ℕ) (list : Lookup) (page : Found) → FindsPage o moment list page
    → ComesAfter list (page_as_told page)
page_after o office moment (lookups.Tariffs after) (found.Tariffs page) is =
    keys_rise ComesBefore (unwrap_or after []) (map (λ (t : ListedTariff). t.name) page.items)
    (All-weaker (λ key. IsSome (o.tariffs key) × ComesBefore (unwrap_or after []) key) (ComesBefore (unwrap_or after [])) (λ key h. h.1) _ is.first.there) is.first.in_order
page_after o office moment (lookups.Meters after) (found.Meters page) is =
    keys_rise ComesBefore (unwrap_or after []) (map (λ (m : ListedMeter). m.number) page.items)
    (All-weaker (λ key. IsSome (o.meters key) × ComesBefore (unwrap_or after []) key) (ComesBefore (unwrap_or after [])) (λ key h. h.1) _ is.first.there) is.first.in_order
page_after o office moment (lookups.Shifts after) (found.Shifts page) is =
    subst (λ (items : List ListedShift). Rise (λ a b. a < b) after (map (λ (l : ListedShift). l.shift.number) items)) (sym is)
    (page_rises (λ (s : Shift). s.number) (listed_shift o) (λ (l : ListedShift). l.shift.number) (λ s. refl) after o.shifts
    (numbered_pairs (λ (s : Shift). s.number) o.shifts office.shift_numbers))
page_after o office moment (lookups.Sales after) (found.Sales page) is =
    subst (λ (items : List Sale). Rise (λ a b. a < b) after (map (λ (s : Sale). s.number) (map as_told items))) (sym is)
    (page_rises (λ (s : Sale). s.number) as_told (λ (s : Sale). s.number) (λ s. refl) after o.sales
    (numbered_pairs (λ (s : Sale). s.number) o.sales office.sale_numbers))
page_after o office moment list page is = absurd is
