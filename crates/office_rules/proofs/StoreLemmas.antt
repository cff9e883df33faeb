-- What a look-up finds among an office's rows, and how it changes by one sale.
pub mod LatestLemmas
pub mod MeetsLemmas
pub mod OrderLemmas
pub mod RowMeetsLemmas
pub mod SoldLemmas
pub mod SumLemmas
use Rattle.std.proofs.Common.{◌≡◌, ◌≢◌, ℕ, ◌-◌, ◌≤◌, ◌↔◌, inl, inr, Bool, true, false, List, [], ◌∷◌, Option, Some, None, refl, sym, ◌∙◌, ap, subst, arith}
use Rattle.std.specs.Prelude.{◌&&◌, ◌==◌, Contains, IsNone, bytes_eq, filter, find, is_none, slice_get}
use Rattle.std.proofs.lemmas.Bool.{false≢true}
use Rattle.std.proofs.lemmas.Bool.Decides.{Decides-eqb}
use Rattle.std.proofs.lemmas.List.Elements.{All-contains}
use Rattle.std.proofs.lemmas.Option.{get_or_from_slice_get, slice_get-get_or, slice_get_within}
use Rattle.std.proofs.lemmas.Slice.Eq.{bytes_eq-Decides}
use Rattle.sts_fields.specs.Tid.{IsLast}
use Rattle.sts_fields.specs.declared.base.Base.{Base}
use Rattle.sts_fields.specs.declared.base.Base.TheVariants.{Y1993, Y2014, Y2035}
use Rattle.sts_fields.specs.Base.{base_eq}
use Rattle.office_rules.specs.Office.Lookup.{greatest_of, open_shift, sale_of_ref, used}
use Rattle.office_rules.specs.Office.{AreNumbered, IsOffice, NotBothOpen, Office}
use Rattle.office_rules.specs.Law.Store.{IsLastSale, IsOpenShift, IsUnderRef}
use Rattle.office_rules.specs.declared.office.sale.Sale.{Sale}
use Rattle.office_rules.specs.declared.office.shift.Shift.{Shift}
use Rattle.office_rules.proofs.OfficeLemmas.MapLemmas.{all_from_contains}
use Rattle.office_rules.proofs.DecisionLemmas.NewSaleLemmas.{greatest_is_last}
use Rattle.office_rules.proofs.OfficeLemmas.{used_by}
use Rattle.office_rules.proofs.OfficeLemmas.RowLemmas.{both_true, contains_first, finds, found, found_none, kept_from, map_source, one_of_ref, parts_true, related, same_number}

-- the last identifier is one
last_is_one : (ns : List ℕ) (a b : Option ℕ) → IsLast ns a → IsLast ns b → a ≡ b
last_is_one ns None None x y = refl
last_is_one ns None (Some b) x y = absurd (omega (arith, (subst (λ ms. Contains ms b) x y.0).1))
last_is_one ns (Some a) None x y = absurd (omega (arith, (subst (λ ms. Contains ms a) y x.0).1))
last_is_one ns (Some a) (Some b) x y =
    let below : a ≤ b = All-contains (λ u. u ≤ b) ns a y.1 x.0 in
    let above : b ≤ a = All-contains (λ u. u ≤ a) ns b x.1 y.0 in
    ap (λ (k : ℕ). let o : Option ℕ = Some k in o) (omega arith)

-- the last of some identifiers is exactly the greatest of them
pub last_is_greatest : (ns : List ℕ) (last : Option ℕ) → IsLast ns last ↔ (last ≡ greatest_of ns)
last_is_greatest ns last = (
  λ is. last_is_one ns last (greatest_of ns) is (greatest_is_last ns),
  λ e. subst (λ l. IsLast ns l) (sym e) (greatest_is_last ns),
)

-- bases are one where their years are
same_base : (a b : Base) → base_eq a b ≡ true → a ≡ b
same_base Y1993 Y1993 e = refl
same_base Y1993 Y2014 e = cc
same_base Y1993 Y2035 e = cc
same_base Y2014 Y1993 e = cc
same_base Y2014 Y2014 e = refl
same_base Y2014 Y2035 e = cc
same_base Y2035 Y1993 e = cc
same_base Y2035 Y2014 e = cc
same_base Y2035 Y2035 e = refl

-- whether a sale is to a meter and under a base
abbrev pub is_to : List ℕ → Base → Sale → Bool
is_to number base s = bytes_eq s.meter number && base_eq s.base base

-- the sales behind the identifiers used
used_from : (o : Office) (number : List ℕ) (base : Base) (tid : ℕ)
    → Contains (used o number base) tid
    → (s : Sale) × Contains o.sales s × (s.meter ≡ number) × (s.base ≡ base) × (s.tid ≡ tid)
used_from o number base tid there =
    let at = map_source (λ (s : Sale). s.tid) (filter (is_to number base) o.sales) tid there in
    let from = kept_from (is_to number base) o.sales at.0 at.1 in
    let p = parts_true _ _ from.1 in
    (at.0, from.0, (bytes_eq-Decides _ _).0 p.0, same_base _ _ p.1, at.2)

-- the identifier of a meter's last sale under a base is the greatest one used
pub last_sale_is : (o : Office) (number : List ℕ) (base : Base) (s : Sale) → IsOffice o
    → IsLastSale o number base s → greatest_of (used o number base) ≡ Some s.tid
last_sale_is o number base s office is =
    sym ((last_is_greatest (used o number base) (Some s.tid)).0 (
      used_by o office s number base is.stands is.meter is.under,
      all_from_contains (λ u. u ≤ s.tid) (used o number base) (λ u there.
          let from = used_from o number base u there in
          let below = is.greatest from.0 from.1 from.2 from.3 in
          omega (arith, below, from.4)),
    ))

-- the greatest identifier used of a meter under a base is its last sale's
pub last_is_of_a_sale : (o : Office) (number : List ℕ) (base : Base) (tid : ℕ) → IsOffice o
    → greatest_of (used o number base) ≡ Some tid
    → (s : Sale) × IsLastSale o number base s × (s.tid ≡ tid)
last_is_of_a_sale o number base tid office e =
    let is = (last_is_greatest (used o number base) (Some tid)).1 (sym e) in
    let from = used_from o number base tid is.0 in (
      from.0,
      record {
        stands = from.1;
        meter = from.2;
        under = from.3;
        greatest = λ t there same_meter same_base.
            let below : t.tid ≤ tid = All-contains (λ u. u ≤ tid) (used o number base) t.tid is.1
            (used_by o office t number base there same_meter same_base) in
            omega (arith, below, from.4);
      },
      from.4,
    )

empty_if_none : (ns : List ℕ) → ((n : ℕ) → Contains ns n → ⊥) → ns ≡ []
empty_if_none [] none = refl
empty_if_none (n ∷ ns) none = absurd (none n (contains_first n ns))

-- no identifier is used where no sale is to the meter under the base
pub no_last_sale_is : (o : Office) (number : List ℕ) (base : Base)
    → ((s : Sale) → Contains o.sales s → s.meter ≡ number → s.base ≢ base)
    → greatest_of (used o number base) ≡ None
no_last_sale_is o number base none =
    ap greatest_of (empty_if_none (used o number base)
    (λ u there. let from = used_from o number base u there in none from.0 from.1 from.2 from.3))

-- a look-up finds a row exactly where the row stands and passes, if no two rows do; it finds none
-- where none does
module _ {X : Type 0} (p : X → Bool) (xs : List X) where
  finds_one : ((x y : X) → Contains xs x → Contains xs y → p x ≡ true → p y ≡ true → x ≡ y)
      → (x : X) → (find p xs ≡ Some x) ↔ (Contains xs x × (p x ≡ true))
  finds_one one x = (
    λ e. found p xs x e,
    λ is. finds p xs x is.0 is.1 (λ y there passes. one y x there is.0 passes is.1),
  )

  none_at : (o : Option X) → find p xs ≡ o → ((x : X) → Contains xs x → p x ≡ true → ⊥) → o ≡ None
  none_at None e none = refl
  none_at (Some x) e none = let is = found p xs x e in absurd (none x is.0 is.1)

  finds_none : (find p xs ≡ None) ↔ ((x : X) → Contains xs x → p x ≡ true → ⊥)
  finds_none = (
    λ e x there passes. false≢true
        (sym (All-contains (λ y. p y ≡ false) xs x (found_none p xs e) there) ∙ passes),
    λ none. none_at (find p xs) refl none,
  )

-- the open shift of an operator
open_shift_passes : (name : List ℕ) (s : Shift)
    → (bytes_eq s.operator name && is_none s.closed) ≡ true → (s.operator ≡ name) × IsNone s.closed
open_shift_passes name s e = let p = parts_true _ _ e in
    ((bytes_eq-Decides s.operator name).0 p.0, is_open s.closed p.1)
  where
    is_open : (closed : Option ℕ) → is_none closed ≡ true → IsNone closed
    is_open None e = refl
    is_open (Some secs) e = cc

passes_open_shift : (name : List ℕ) (s : Shift) → s.operator ≡ name → IsNone s.closed
    → (bytes_eq s.operator name && is_none s.closed) ≡ true
passes_open_shift name s operator opened =
    both_true _ _ ((bytes_eq-Decides s.operator name).1 operator) (is_open s.closed opened)
  where
    is_open : (closed : Option ℕ) → IsNone closed → is_none closed ≡ true
    is_open None e = refl
    is_open (Some secs) e = cc

abbrev is_open_of : List ℕ → Shift → Bool
is_open_of name s = bytes_eq s.operator name && is_none s.closed

one_open_shift : (o : Office) (name : List ℕ) (s t : Shift) → IsOffice o → Contains o.shifts s
    → Contains o.shifts t → is_open_of name s ≡ true → is_open_of name t ≡ true → s ≡ t
one_open_shift o name s t office s_there t_there s_passes t_passes =
    let s_is = open_shift_passes name s s_passes in
    let t_is = open_shift_passes name t t_passes in
    elim (related NotBothOpen o.shifts s t office.one_open s_there t_there) [
      | inl same ↦ same
      | inr (inl before) ↦ absurd (before s_is.1 t_is.1 (s_is.0 ∙ sym t_is.0))
      | inr (inr after) ↦ absurd (after t_is.1 s_is.1 (t_is.0 ∙ sym s_is.0))
    ]

-- the shift found for an operator is exactly the open one
pub open_shift_is : (o : Office) (name : List ℕ) (s : Shift) → IsOffice o
    → (open_shift o name ≡ Some s) ↔ IsOpenShift o name s
open_shift_is o name s office =
    let finds = finds_one (is_open_of name) o.shifts
    (λ x y x_there y_there x_passes y_passes. one_open_shift o name x y office x_there y_there
    x_passes y_passes) s in (
      λ e. let is = finds.0 e in let passes = open_shift_passes name s is.1 in
          record { stands = is.0; operator = passes.0; still_open = passes.1 },
      λ is. finds.1 (is.stands, passes_open_shift name s is.operator is.still_open),
    )

-- no shift is found for an operator exactly where none is open
pub no_open_shift_is : (o : Office) (name : List ℕ)
    → (open_shift o name ≡ None) ↔ ((s : Shift) → ¬ IsOpenShift o name s)
no_open_shift_is o name =
    let none = finds_none (is_open_of name) o.shifts in (
      λ e s is. none.0 e s is.stands (passes_open_shift name s is.operator is.still_open),
      λ no. none.1 (λ s there passes. let is = open_shift_passes name s passes in
          no s (record { stands = there; operator = is.0; still_open = is.1 })),
    )

-- rows by their numbers
module _ {X : Type 0} (number : X → ℕ) (xs : List X) where
  -- a row is found under a number exactly where it stands and has that number
  pub numbered_is : AreNumbered number xs → (n : ℕ) (x : X)
      → (find (λ y. number y == n) xs ≡ Some x) ↔ (Contains xs x × (number x ≡ n))
  numbered_is numbered n x =
      let finds = finds_one (λ y. number y == n) xs (λ a b a_there b_there a_passes b_passes.
      same_number number xs a b numbered a_there b_there
      ((Decides-eqb (number a) n).0 a_passes ∙ sym ((Decides-eqb (number b) n).0 b_passes)))
      x in (
        λ e. let is = finds.0 e in (is.0, (Decides-eqb (number x) n).0 is.1),
        λ is. finds.1 (is.0, (Decides-eqb (number x) n).1 is.1),
      )

  -- nothing is found under a number exactly where no row has it
  pub no_number_is : (n : ℕ)
      → (find (λ y. number y == n) xs ≡ None) ↔ ((x : X) → Contains xs x → number x ≢ n)
  no_number_is n =
      let none = finds_none (λ y. number y == n) xs in (
        λ e x there is. none.0 e x there ((Decides-eqb (number x) n).1 is),
        λ no. none.1 (λ x there passes. no x there ((Decides-eqb (number x) n).0 passes)),
      )

  row_at_place : AreNumbered number xs → (n : ℕ) (row : Option X) → slice_get xs (n - 1) ≡ row
      → 1 ≤ n → find (λ y. number y == n) xs ≡ row
  row_at_place numbered n (Some x) at from_one =
      let is = numbered (n - 1) x at in
      (numbered_is numbered n x).1 (
        (n - 1, slice_get_within xs (n - 1) x at, get_or_from_slice_get xs (n - 1) x x at),
        omega (arith, is),
      )
  row_at_place numbered n None at from_one =
      (no_number_is n).1 (λ x there is.
      let here : slice_get xs there.0 ≡ Some x = slice_get-get_or xs there.0 x there.1
      ∙ ap Some there.2 in
      let place : there.0 ≡ n - 1 = omega (arith, numbered there.0 x here) in
      let both = sym at ∙ ap (λ i. slice_get xs i) (sym place) ∙ here in cc)

  -- the row of a number is the one at that place in the list
  pub row_at : AreNumbered number xs → (n : ℕ) → 1 ≤ n
      → find (λ y. number y == n) xs ≡ slice_get xs (n - 1)
  row_at numbered n from_one = row_at_place numbered n (slice_get xs (n - 1)) refl from_one

-- the sale of a ref
abbrev is_under_ref : List ℕ → List ℕ → Sale → Bool
is_under_ref name order_ref s = bytes_eq s.operator name && bytes_eq s.order_ref order_ref

under_ref_passes : (name order_ref : List ℕ) (s : Sale) → is_under_ref name order_ref s ≡ true
    → (s.operator ≡ name) × (s.order_ref ≡ order_ref)
under_ref_passes name order_ref s e = let p = parts_true _ _ e in
    ((bytes_eq-Decides _ _).0 p.0, (bytes_eq-Decides _ _).0 p.1)

passes_under_ref : (name order_ref : List ℕ) (s : Sale) → s.operator ≡ name
    → s.order_ref ≡ order_ref → is_under_ref name order_ref s ≡ true
passes_under_ref name order_ref s operator under =
    both_true _ _ ((bytes_eq-Decides _ _).1 operator) ((bytes_eq-Decides _ _).1 under)

-- the sale found under an operator's ref is exactly the one made under it
pub sale_of_ref_is : (o : Office) (name order_ref : List ℕ) (s : Sale) → IsOffice o
    → (sale_of_ref o name order_ref ≡ Some s) ↔ IsUnderRef o name order_ref s
sale_of_ref_is o name order_ref s office =
    let finds = finds_one (is_under_ref name order_ref) o.sales
    (λ a b a_there b_there a_passes b_passes.
    let a_is = under_ref_passes name order_ref a a_passes in
    let b_is = under_ref_passes name order_ref b b_passes in
    one_of_ref o a b office a_there b_there (a_is.0 ∙ sym b_is.0) (a_is.1 ∙ sym b_is.1)) s in (
      λ e. let is = finds.0 e in let passes = under_ref_passes name order_ref s is.1 in
          record { stands = is.0; operator = passes.0; order_ref = passes.1 },
      λ is. finds.1 (is.stands, passes_under_ref name order_ref s is.operator is.order_ref),
    )

-- no sale is found under an operator's ref exactly where none was made under it
pub no_sale_of_ref_is : (o : Office) (name order_ref : List ℕ)
    → (sale_of_ref o name order_ref ≡ None) ↔ ((s : Sale) → ¬ IsUnderRef o name order_ref s)
no_sale_of_ref_is o name order_ref =
    let none = finds_none (is_under_ref name order_ref) o.sales in (
      λ e s is. none.0 e s is.stands (passes_under_ref name order_ref s is.operator is.order_ref),
      λ no. none.1 (λ s there passes. let is = under_ref_passes name order_ref s passes in
          no s (record { stands = there; operator = is.0; order_ref = is.1 })),
    )
