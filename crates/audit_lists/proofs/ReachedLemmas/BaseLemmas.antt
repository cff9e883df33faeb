-- The bases under which a meter was sold to before.
use Rattle.std.proofs.Common.{◌≡◌, ◌↔◌, ◌≤◌, ◌<◌, ℕ, Bool, true, List, [], ◌∷◌, Option, get_or, refl, sym, ap, ◌∙◌, arith, map}
use Rattle.std.specs.Prelude.{◌&&◌, ◌==◌, Contains, IsTrue, bytes_eq, filter, is_none}
use Rattle.std.proofs.lemmas.Bool.{false≢true}
use Rattle.std.proofs.lemmas.Bool.Decides.{nat_tests}
use Rattle.std.proofs.lemmas.List.Elements.{All-contains, Contains-get_or}
use Rattle.std.proofs.lemmas.Slice.Eq.{bytes_eq-Decides}
use Rattle.sts_fields.specs.Base.{base_eq, year_of}
use Rattle.sts_fields.specs.declared.base.Base.{Base}
use Rattle.sts_fields.specs.declared.base.Base.TheVariants.{Y1993, Y2014, Y2035}
use Rattle.vend_core.specs.Law.Reached.{IsUnderPresentBase}
use Rattle.office_rules.specs.Office.Lookup.{greatest_of}
use Rattle.office_rules.specs.declared.office.sale.Sale.{Sale}
use Rattle.office_rules.proofs.OfficeLemmas.RowLemmas.{both_true, contains_first, kept, kept_from, parts_true}
use Rattle.audit_lists.specs.reached.Walk.{IsNotAfter}

none_of : (xs : List Sale) → is_none (greatest_of (map (λ (s : Sale). s.tid) xs)) ≡ true → (x : Sale) → ¬ Contains xs x
none_of [] none x there = omega (arith, there.1)
none_of (y ∷ ys) none x there = false≢true none

none_where : (xs : List Sale) → ((x : Sale) → ¬ Contains xs x) → is_none (greatest_of (map (λ (s : Sale). s.tid) xs)) ≡ true
none_where [] none = refl
none_where (y ∷ ys) none = absurd (none y (contains_first y ys))

same_year : (m n : ℕ) → ((m == n) ≡ true) ↔ (m ≡ n)
same_year m n = grind (arith, nat_tests)

first_year : (b : Base) → 1993 ≤ year_of b
first_year Y1993 = omega arith
first_year Y2014 = omega arith
first_year Y2035 = omega arith

latest_year : (b : Base) (n : ℕ) → 1993 ≤ n → (year_of b ≡ 2014 → year_of b ≤ n) → (year_of b ≡ 2035 → year_of b ≤ n) → year_of b ≤ n
latest_year Y1993 n first second third = first
latest_year Y2014 n first second third = second refl
latest_year Y2035 n first second third = third refl

module _ (earlier : List Sale) (s : Sale) where
  -- a later one, under which no identifier is the last
  module _ (base : Base) (later : year_of s.base < year_of base) where
    abbrev is_sold : Sale → Bool
    is_sold a = bytes_eq a.meter s.meter && base_eq a.base base

    -- no sale to the meter was under a later base exactly if no identifier is found under it
    pub not_after_or : (last : Option ℕ) → last ≡ greatest_of (map (λ (a : Sale). a.tid) (filter is_sold earlier))
        → IsTrue (is_none last) ↔ IsNotAfter base earlier s
    not_after_or last is = (
      λ none i d within meter year.
          let a = get_or earlier i d in
          let sold = both_true (bytes_eq a.meter s.meter) (base_eq a.base base) ((bytes_eq-Decides a.meter s.meter).1 meter)
          ((same_year (year_of a.base) (year_of base)).1 year) in
          absurd (none_of (filter is_sold earlier) (ap is_none (sym is) ∙ none) a (kept is_sold earlier a (Contains-get_or earlier i d within) sold)),
      λ all. ap is_none is ∙ none_where (filter is_sold earlier) (λ a there.
          let from = kept_from is_sold earlier a there in
          let parts = parts_true (bytes_eq a.meter s.meter) (base_eq a.base base) from.1 in
          let year = (same_year (year_of a.base) (year_of base)).0 parts.1 in
          let low = All-contains (λ (b : Sale). b.meter ≡ s.meter → year_of b.base ≡ year_of base → year_of b.base ≤ year_of s.base)
          earlier a all from.0 ((bytes_eq-Decides a.meter s.meter).0 parts.0) year in
          omega (arith, low, later, year)),
    )

  -- the bases of two years decide
  pub under_present : IsNotAfter Y2014 earlier s → IsNotAfter Y2035 earlier s → IsUnderPresentBase earlier s
  under_present second third i d within meter = latest_year (get_or earlier i d).base (year_of s.base) (first_year s.base)
      (second i d within meter) (third i d within meter)

  -- where no sale before was under a later base than the sale's, none was under this one
  pub not_after_of : (base : Base) → IsUnderPresentBase earlier s → IsNotAfter base earlier s
  not_after_of base all i d within meter year = all i d within meter
