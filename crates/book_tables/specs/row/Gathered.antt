-- What is kept in memory of the running totals of sales.
use Rattle.std.specs.Prelude.{◌≡◌, ◌<◌, ◌^◌, ℕ, List, Option, Some, All, map}
use Rattle.std.specs.BTreeMap.{BTreeMap, IsOrdered, get}
use Rattle.std.specs.Cmp.Lexicographic.{slice_cmp}
use Rattle.std.specs.Option.{option_map}
use Rattle.std.specs.Ordering.{nat_cmp, ordering_then}
use Rattle.std.specs.declared.cmp.Ordering.{Ordering}
use Rattle.sts_fields.specs.Base.{year_of}
use Rattle.sts_fields.specs.declared.base.Base.{Base}
use Rattle.office_rules.specs.Office.Lookup.{greatest_of}
use Rattle.office_rules.specs.declared.office.sale.Sale.{Sale}
use Rattle.book_tables.specs.Stands.{sales_in_month, sales_in_shift, sales_under, tenths_of}
use Rattle.book_tables.specs.Stands.{totals_of}
use Rattle.book_tables.specs.declared.row.totals.Totals.{Totals}
use Rattle.book_tables.specs.declared.row.gathered.Gathered.{Gathered}

-- the order of the places: the digits of a meter's number, and a year or a month
abbrev pub key_cmp : (List ℕ × ℕ) → (List ℕ × ℕ) → Ordering
key_cmp x y = ordering_then (slice_cmp nat_cmp x.0 y.0) (nat_cmp x.1 y.1)

-- where a row stands: that of a base under its year, and others under their own keys
abbrev pub base_place : (List ℕ × Base) → (List ℕ × ℕ)
base_place key = (key.0, year_of key.1)

abbrev pub own_place : {K : Type 0} → K → K
own_place key = key

-- a row stands at the place of each key under which a function has something, with its key and what
-- it has, and no other
pub record HoldsAt {Q K V : Type 0} (cmp : Q → Q → Ordering) (place : K → Q)
    (rows : BTreeMap Q (K × V)) (has : K → Option V) : Type 0 where
  pub ordered : IsOrdered cmp rows
  pub found : (key : K) → get cmp rows (place key) ≡ option_map (λ value. (key, value)) (has key)
  pub own : (at : Q) (row : K × V) → get cmp rows at ≡ Some row → at ≡ place row.0

-- the sums of a sale are numbers of 32 bits
abbrev pub IsOfWords : Sale → Type 0
IsOfWords s = (s.tenths < 2 ^ 32) × (s.price < 2 ^ 32)

-- a number of 64 bits can hold each of the totals
abbrev pub IsInWords : Totals → Type 0
IsInWords t = (t.sales < 2 ^ 64) × (t.tenths < 2 ^ 64) × (t.cash < 2 ^ 64)

-- what is held are the running totals of these sales
pub record IsGathered (sales : List Sale) (g : Gathered) : Type 0 where
  pub last_ids : HoldsAt key_cmp base_place g.last_ids
      (λ key. greatest_of (map (λ s. s.tid) (sales_under sales key)))
  pub month_tenths : HoldsAt key_cmp own_place g.month_tenths
      (λ key. tenths_of (sales_in_month sales key))
  pub shift_totals : HoldsAt nat_cmp own_place g.shift_totals
      (λ shift. totals_of (sales_in_shift sales shift))
  pub small : All IsOfWords sales
