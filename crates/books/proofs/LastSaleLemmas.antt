-- The last sale to a meter by its identifiers is the last one by number.
use Rattle.std.proofs.Common.{◌≡◌, ◌&&◌, ◌==◌, ◌<◌, ◌≤◌, ℕ, true, List, [], ◌∷◌, Option, None, Some, filter, take, ap, arith, inl, inr, refl, sym, ◌∙◌}
use Rattle.std.specs.Prelude.{Contains, bytes_eq, slice_get}
use Rattle.std.specs.Option.{option_or}
use Rattle.std.proofs.lemmas.Bool.{cases_lt}
use Rattle.std.proofs.lemmas.Bool.Decides.{Decides-eqb}
use Rattle.std.proofs.lemmas.List.{get_or-take, length-take}
use Rattle.std.proofs.lemmas.List.Elements.{All-contains}
use Rattle.std.proofs.lemmas.Option.{slice_get-get_or}
use Rattle.std.proofs.lemmas.Slice.Eq.{bytes_eq-Decides}
use Rattle.sts_fields.specs.Base.{base_eq, year_of}
use Rattle.sts_fields.specs.declared.base.Base.{Base}
use Rattle.sts_fields.specs.declared.base.Base.TheVariants.{Y1993, Y2014, Y2035}
use Rattle.office_rules.proofs.DecisionLemmas.EditLemmas.{base_eq-refl}
use Rattle.office_rules.proofs.OfficeLemmas.RowLemmas.{both_true, contains_map, found, kept, parts_true}
use Rattle.vend_core.specs.Law.Reached.{IsPlausible, sales_alone}
use Rattle.office_rules.specs.Law.Store.{IsLastSale}
use Rattle.office_rules.specs.Office.{IsOffice, Office}
use Rattle.office_rules.specs.Office.Lookup.{greatest_of, used}
use Rattle.office_rules.specs.declared.office.sale.Sale.{Sale}
use Rattle.book_facts.proofs.LookupLemmas.{sale_there}
use Rattle.book_facts.specs.Lookups.{last_sale, last_under, sale_of_some_tid}
use Rattle.books.specs.Looking.{IsLastTo}

-- ---- bases

same_base : (a b : Base) → base_eq a b ≡ true → a ≡ b
same_base Y1993 Y1993 e = refl
same_base Y1993 Y2014 e = cc
same_base Y1993 Y2035 e = cc
same_base Y2014 Y1993 e = cc
same_base Y2014 Y2014 e = refl
same_base Y2014 Y2035 e = cc
same_base Y2035 Y1993 e = cc
same_base Y2035 Y2014 e = cc
same_base Y2035 Y2035 e = refl

same_year : (a b : Base) → year_of a ≡ year_of b → a ≡ b
same_year Y1993 Y1993 e = refl
same_year Y1993 Y2014 e = absurd (omega (arith, e))
same_year Y1993 Y2035 e = absurd (omega (arith, e))
same_year Y2014 Y1993 e = absurd (omega (arith, e))
same_year Y2014 Y2014 e = refl
same_year Y2014 Y2035 e = absurd (omega (arith, e))
same_year Y2035 Y1993 e = absurd (omega (arith, e))
same_year Y2035 Y2014 e = absurd (omega (arith, e))
same_year Y2035 Y2035 e = refl

-- ---- the sales under one base

used_by : (o : Office) (number : List ℕ) (base : Base) (s : Sale) → Contains o.sales s → s.meter ≡ number → s.base ≡ base → Contains (used o number base) s.tid
used_by o number base s there same_meter under =
    let test = λ (s : Sale). bytes_eq s.meter number && base_eq s.base base in
    let is_under : base_eq s.base base ≡ true = rw under (base_eq-refl base) in
    contains_map (λ (s : Sale). s.tid) (filter test o.sales) s
    (kept test o.sales s there (both_true _ _ ((bytes_eq-Decides s.meter number).1 same_meter) is_under))

none_greatest : (ns : List ℕ) (n : ℕ) → greatest_of ns ≡ None → Contains ns n → ⊥
none_greatest [] n none there = omega (arith, there.1)
none_greatest (m ∷ ns) n none there = absurd (let e = none in cc)

-- what is the greatest identifier is that of a sale
abbrev HasLast : Office → Type 0
HasLast o = (number : List ℕ) (base : Base) (tid : ℕ) → greatest_of (used o number base) ≡ Some tid → (s : Sale) × IsLastSale o number base s × (s.tid ≡ tid)

module _ (o : Office) (has_last : HasLast o) (number : List ℕ) where
  -- where something was sold under a base there is a last sale under it
  some_under : (base : Base) (t : Sale) → Contains o.sales t → t.meter ≡ number → t.base ≡ base → last_under o number base ≡ None → ⊥
  some_under base t there same_meter under none = by_greatest (greatest_of (used o number base)) refl none
    where
      by_greatest : (g : Option ℕ) → greatest_of (used o number base) ≡ g → sale_of_some_tid o number base g ≡ None → ⊥
      by_greatest None e none = none_greatest (used o number base) t.tid e (used_by o number base t there same_meter under)
      by_greatest (Some tid) e none = let at = has_last number base tid e in sale_there o number base tid at.0 at.1 at.2 none

  -- and it has the greatest identifier under it
  is_last : (base : Base) (s : Sale) → last_under o number base ≡ Some s → IsLastSale o number base s
  is_last base s is = by_greatest (greatest_of (used o number base)) refl is
    where
      by_greatest : (g : Option ℕ) → greatest_of (used o number base) ≡ g → sale_of_some_tid o number base g ≡ Some s → IsLastSale o number base s
      by_greatest None e is = absurd (let none = is in cc)
      by_greatest (Some tid) e is =
          let test = λ (t : Sale). bytes_eq t.meter number && (base_eq t.base base && (t.tid == tid)) in
          let at = has_last number base tid e in
          let here = found test o.sales s is in
          let parts = parts_true _ _ here.1 in
          let more = parts_true _ _ parts.1 in
          let tid_is : s.tid ≡ tid = (Decides-eqb s.tid tid).0 more.1 in
          record {
            stands = here.0;
            meter = (bytes_eq-Decides s.meter number).0 parts.0;
            under = same_base s.base base more.0;
            greatest = λ t there same_meter under.
                let below = at.1.greatest t there same_meter under in
                omega (arith, below, at.2, tid_is);
          }

  -- the last sale of all is the last one under its base, and none is under a later one
  record IsLatest (s : Sale) : Type 0 where
    base : Base
    last : IsLastSale o number base s
    none_later : (t : Sale) → Contains o.sales t → t.meter ≡ number → year_of t.base ≤ year_of base

  not_after_2035 : (base : Base) → year_of base ≤ year_of Y2035
  not_after_2035 Y1993 = omega arith
  not_after_2035 Y2014 = omega arith
  not_after_2035 Y2035 = omega arith

  not_after_2014 : (base : Base) → (base ≡ Y2035 → ⊥) → year_of base ≤ year_of Y2014
  not_after_2014 Y1993 none = omega arith
  not_after_2014 Y2014 none = omega arith
  not_after_2014 Y2035 none = absurd (none refl)

  not_after_1993 : (base : Base) → (base ≡ Y2035 → ⊥) → (base ≡ Y2014 → ⊥) → year_of base ≤ year_of Y1993
  not_after_1993 Y1993 later late = omega arith
  not_after_1993 Y2014 later late = absurd (late refl)
  not_after_1993 Y2035 later late = absurd (later refl)

  is_latest : (s : Sale) → last_sale o number ≡ Some s → IsLatest s
  is_latest s is = by_bases (last_under o number Y2035) (last_under o number Y2014) (last_under o number Y1993) refl refl refl is
    where
      by_bases : (x y z : Option Sale) → last_under o number Y2035 ≡ x → last_under o number Y2014 ≡ y → last_under o number Y1993 ≡ z
          → option_or x (option_or y z) ≡ Some s → IsLatest s
      by_bases (Some a) y z is_x is_y is_z e = record { base = Y2035; last = is_last Y2035 s (is_x ∙ e); none_later = λ t there same. not_after_2035 t.base }
      by_bases None (Some b) z is_x is_y is_z e = record {
        base = Y2014;
        last = is_last Y2014 s (is_y ∙ e);
        none_later = λ t there same. not_after_2014 t.base (λ under. some_under Y2035 t there same under is_x);
      }
      by_bases None None (Some c) is_x is_y is_z e = record {
        base = Y1993;
        last = is_last Y1993 s (is_z ∙ e);
        none_later = λ t there same. not_after_1993 t.base (λ under. some_under Y2035 t there same under is_x)
            (λ under. some_under Y2014 t there same under is_y);
      }
      by_bases None None None is_x is_y is_z e = absurd (let none = e in cc)

  -- where there is none, nothing was sold to the meter
  pub never_sold : last_sale o number ≡ None → (t : Sale) → Contains o.sales t → t.meter ≡ number → ⊥
  never_sold is t there same = by_bases (last_under o number Y2035) (last_under o number Y2014) (last_under o number Y1993) refl refl refl is
    where
      by_base : (base : Base) → t.base ≡ base → last_under o number Y2035 ≡ None → last_under o number Y2014 ≡ None → last_under o number Y1993 ≡ None → ⊥
      by_base Y1993 under x y z = some_under Y1993 t there same under z
      by_base Y2014 under x y z = some_under Y2014 t there same under y
      by_base Y2035 under x y z = some_under Y2035 t there same under x

      by_bases : (x y z : Option Sale) → last_under o number Y2035 ≡ x → last_under o number Y2014 ≡ y → last_under o number Y1993 ≡ z
          → option_or x (option_or y z) ≡ None → ⊥
      by_bases (Some a) y z is_x is_y is_z e = absurd (let none = e in cc)
      by_bases None (Some b) z is_x is_y is_z e = absurd (let none = e in cc)
      by_bases None None (Some c) is_x is_y is_z e = absurd (let none = e in cc)
      by_bases None None None is_x is_y is_z e = by_base t.base refl is_x is_y is_z

  module _ (office : IsOffice o) (plausible : IsPlausible o) where
    -- a sale after it would be under a later base, or have a greater identifier
    none_after : (s t : Sale) → IsLatest s → Contains o.sales t → t.meter ≡ number → s.number < t.number → ⊥
    none_after s t latest there same after =
        let i = there.0 in
        let j = latest.last.stands.0 in
        let at : slice_get o.sales i ≡ Some t = slice_get-get_or o.sales i t there.1 ∙ ap Some there.2 in
        let at_s : slice_get o.sales j ≡ Some s = slice_get-get_or o.sales j s latest.last.stands.1 ∙ ap Some latest.last.stands.2 in
        let t_is = office.sale_numbers i t at in
        let s_is = office.sale_numbers j s at_s in
        let before : j < i = omega (arith, t_is, s_is, after) in
        let earlier : Contains (take i o.sales) s = (
          j,
          omega (arith, before, latest.last.stands.1, length-take i o.sales),
          get_or-take i o.sales j s before ∙ latest.last.stands.2,
        ) in
        let granted = plausible.sales i t at in
        let same_meter : s.meter ≡ t.meter = latest.last.meter ∙ sym same in
        let up : year_of s.base ≤ year_of t.base = All-contains (λ (a : Sale). a.meter ≡ t.meter → year_of a.base ≤ year_of t.base)
        (take i o.sales) s granted.base earlier same_meter in
        let down : year_of t.base ≤ year_of latest.base = latest.none_later t there same in
        let under : s.base ≡ latest.base = latest.last.under in
        let one_base : t.base ≡ s.base = same_year t.base s.base (omega (arith, up, down, ap (λ (b : Base). year_of b) under)) in
        let taken : Contains (used (sales_alone (take i o.sales)) t.meter t.base) s.tid =
        used_by (sales_alone (take i o.sales)) t.meter t.base s earlier same_meter (sym one_base) in
        let rises : s.tid < t.tid = All-contains (λ (u : ℕ). u < t.tid) (used (sales_alone (take i o.sales)) t.meter t.base) s.tid
        granted.tid.fresh.0.may_sell.above_used taken in
        let falls : t.tid ≤ s.tid = latest.last.greatest t there same (one_base ∙ under) in
        omega (arith, rises, falls)

    -- what is found as the last sale to a meter has the greatest number of those to it
    pub last_by_number : (s : Sale) → last_sale o number ≡ Some s → IsLastTo o number s
    last_by_number s is =
        let latest = is_latest s is in
        record {
          stands = latest.last.stands;
          meter = latest.last.meter;
          last = λ t there same. elim (cases_lt s.number t.number) [
            | inl after ↦ absurd (none_after s t latest there same after)
            | inr not_after ↦ omega (arith, not_after)
          ];
        }
