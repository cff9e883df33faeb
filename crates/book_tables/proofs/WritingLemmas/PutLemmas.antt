-- What stands under a name where something was put, and the totals beside other rows.
use Rattle.std.proofs.Common.{◌≡◌, ◌≢◌, ℕ, ◌⊎◌, inl, inr, Bool, true, false, List, Option, Some, None, IsSome, refl, sym, ◌∙◌, ap, subst}
use Rattle.std.specs.Prelude.{◌&&◌, bytes_eq, if◌then◌else◌, map, pos}
use Rattle.std.proofs.lemmas.Bool.{false≢true}
use Rattle.std.proofs.lemmas.Option.{same_Some}
use Rattle.std.proofs.lemmas.Slice.Eq.{bytes_eq-Decides}
use Rattle.sts_fields.specs.declared.base.Base.{Base}
use Rattle.sqlite_keyed.specs.Keyed.{IsKeyedBy}
use Rattle.office_rules.specs.Office.Lookup.{greatest_of}
use Rattle.office_rules.specs.declared.office.sale.Sale.{Sale}
use Rattle.book_tables.specs.row.Rows.{Rows}
use Rattle.book_tables.specs.Stands.{AreRowsOf, AreTotalsOf, sales_in_month, sales_in_shift, sales_under, tenths_of, totals_of}
use Rattle.book_tables.specs.declared.row.totals.Totals.{Totals}

-- ---- the same totals, beside other rows

-- rows with the same tables of totals as others have the totals of the same sales
pub same_totals : (sales : List Sale) (a b : Rows) → a.last_ids ≡ b.last_ids → a.month_tenths ≡ b.month_tenths → a.shift_totals
    ≡ b.shift_totals → AreTotalsOf sales a → AreTotalsOf sales b
same_totals sales a b ids months shifts t = record {
  last_ids = subst (λ (l : List ((List ℕ × Base) × ℕ)). AreRowsOf l (λ key. greatest_of (map (λ s. s.tid) (sales_under sales key)))) ids t.last_ids;
  month_tenths = subst (λ (l : List ((List ℕ × ℕ) × ℕ)). AreRowsOf l (λ key. tenths_of (sales_in_month sales key))) months t.month_tenths;
  shift_totals = subst (λ (l : List (ℕ × Totals)). AreRowsOf l (λ shift. totals_of (sales_in_shift sales shift))) shifts t.shift_totals;
  by_shift = subst (λ (l : List (ℕ × Totals)). IsKeyedBy (λ (r : ℕ × Totals). pos r.0) l) shifts t.by_shift;
}

-- ---- what stands under a name where one was put

-- under the name itself stands what was put there
pub put_here : {A : Type 0} (b : Bool) (q name : List ℕ) (x : A) (there : Option A) → bytes_eq q name ≡ b → q ≡ name → (if b then Some x else there) ≡ Some x
put_here true q name x there is same = refl
put_here false q name x there is same = absurd (false≢true (sym is ∙ (bytes_eq-Decides q name).1 same))

-- under another name stands what stood there
pub put_elsewhere : {A : Type 0} (b : Bool) (q name : List ℕ) (x : A) (there : Option A) → bytes_eq q name ≡ b → q ≢ name
    → (if b then Some x else there) ≡ there
put_elsewhere true q name x there is apart = absurd (apart ((bytes_eq-Decides q name).0 is))
put_elsewhere false q name x there is apart = refl

-- what stands under a name was put there under this name, or stood there before
pub put_cases : {A : Type 0} (b : Bool) (q name : List ℕ) (x y : A) (there : Option A) → bytes_eq q name ≡ b
    → (if b then Some x else there) ≡ Some y → ((q ≡ name) × (x ≡ y)) ⊎ (there ≡ Some y)
put_cases true q name x y there is e = inl ((bytes_eq-Decides q name).0 is, same_Some x y e)
put_cases false q name x y there is e = inr e

-- where something stands, it is this
pub some_of : {A : Type 0} (o : Option A) → IsSome o → (x : A) × (o ≡ Some x)
some_of None some = absurd (false≢true some)
some_of (Some x) some = (x, refl)

-- and where this stands, something does
pub some_by : {A : Type 0} (o : Option A) (x : A) → o ≡ Some x → IsSome o
some_by o x e = subst (λ (v : Option _). IsSome v) (sym e) refl

-- where nothing stands, this does not
pub none_some : {A : Type 0} (o : Option A) (x : A) → o ≡ None → o ≡ Some x → ⊥
none_some o x none some = cc

-- a name under which something stands is not the free one
pub not_free : {A : Type 0} (look_up : List ℕ → Option A) (q name : List ℕ) (x : A) → look_up name ≡ None → look_up q ≡ Some x → q ≢ name
not_free look_up q name x free e same = none_some (look_up name) x free (sym (ap look_up same) ∙ e)

-- ---- two tests at once

-- where both at once pass, each does
pub both_are : (x y : Bool) → (x && y) ≡ true → (x ≡ true) × (y ≡ true)
both_are true y e = (refl, e)
both_are false y e = absurd (false≢true e)

-- and where each passes, both at once do
pub both_so : (x y : Bool) → x ≡ true → y ≡ true → (x && y) ≡ true
both_so x y p q = ap (λ b. b && y) p ∙ q
