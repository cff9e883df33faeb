-- Rows taken by an import, in maps under their names: what is looked up there is what the office
-- with the rows has.
use Rattle.std.proofs.Common.{◌≡◌, ℕ, Bool, true, false, List, [], ◌∷◌, ◌++◌, Option, Some, None, is_some, refl, sym, ◌∙◌, ap, arith, Bor, Ordering, Less, Equal, Greater}
use Rattle.std.specs.Prelude.{◌&&◌, ◌==◌, bytes_eq, cond, if◌then◌else◌}
use Rattle.std.specs.BTreeMap.{BTreeMap, Updates, get_by}
use Rattle.std.specs.Cmp.{unsigned_tied}
use Rattle.std.specs.Cmp.Lexicographic.{slice_cmp}
use Rattle.std.specs.Option.{option_copied, option_map, option_or}
use Rattle.std.specs.Ordering.{is_eq, nat_cmp, ordering_then}
use Rattle.std.proofs.lemmas.Bool.Decides.{nat_tests}
use Rattle.std.proofs.lemmas.Map.Text.{is_eq-slice_cmp}
use Rattle.std.proofs.lemmas.Slice.Eq.{bytes_eq-Decides}
use Rattle.office_rules.specs.Decision.{add_meter}
use Rattle.office_rules.specs.Decision.Edits.{with_row, with_rows}
use Rattle.office_rules.specs.Office.{Office}
use Rattle.office_decisions.specs.RowsTaken.{dated_under, under}
use Rattle.office_rules.specs.declared.office.meter.Meter.{Meter}
use Rattle.office_rules.specs.declared.office.row.Row.{Row}

-- what a look-up by a key gives is what is under its bytes
pub found_under : {A : Type 0} (m : BTreeMap (Bor (List ℕ)) (Bor A)) (key name : List ℕ) (r : Option (Bor (Bor A))) (x : Bor (Bor A))
    → option_copied r ≡ get_by (λ k. slice_cmp nat_cmp key k.now) m → key ≡ name → r ≡ Some x → under m name ≡ Some x.now.now
found_under {A} m key name r x value same is =
    ap (λ (k : List ℕ). under m k) (sym same) ∙ ap (λ (o : Option (Bor A)). option_map (λ y. y.now) o) (sym value ∙ ap option_copied is)

none_here : {A : Type 0} (o : Option (Bor A)) → is_some o ≡ false → option_map (λ x. x.now) o ≡ None
none_here None none = refl
none_here (Some x) none = cc

-- where a look-up by a key gives nothing, nothing is under its bytes
pub none_under : {A : Type 0} (m : BTreeMap (Bor (List ℕ)) (Bor A)) (key name : List ℕ)
    → is_some (get_by (λ k. slice_cmp nat_cmp key k.now) m) ≡ false → key ≡ name → under m name ≡ None
none_under m key name none same = ap (λ (k : List ℕ). under m k) (sym same) ∙ none_here (get_by (λ k. slice_cmp nat_cmp key k.now) m) none

-- a row more is put last
pub with_rows-push : (rows : List Row) (row : Row) (o : Office) → with_rows (rows ++ row ∷ []) o ≡ with_row row (with_rows rows o)
with_rows-push [] row o = refl
with_rows-push (first ∷ rest) row o = with_rows-push rest row (with_row first o)

-- what is under each name where one was put
put_here : {A : Type 0} (x : Bor A) (o : Option (Bor A)) (b c : Bool) → b ≡ c → option_map (λ (y : Bor A). y.now) (cond b (Some x) o)
    ≡ (if c then Some x.now else option_map (λ (y : Bor A). y.now) o)
put_here x o true true same = refl
put_here x o false false same = refl
put_here x o true false same = cc
put_here x o false true same = cc

bytes_eq-turned : (a b : List ℕ) (x y : Bool) → bytes_eq a b ≡ x → bytes_eq b a ≡ y → x ≡ y
bytes_eq-turned a b true true e f = refl
bytes_eq-turned a b false false e f = refl
bytes_eq-turned a b true false e f = sym ((bytes_eq-Decides b a).1 (sym ((bytes_eq-Decides a b).0 e))) ∙ f
bytes_eq-turned a b false true e f = sym e ∙ (bytes_eq-Decides a b).1 (sym ((bytes_eq-Decides b a).0 f))

-- a row put under a name is what is found there, and the other names keep theirs
pub put_under : {A : Type 0} (m n : BTreeMap (Bor (List ℕ)) (Bor A)) (key : Bor (List ℕ)) (x : Bor A) (name : List ℕ)
    → Updates (λ (a b : Bor (List ℕ)). slice_cmp nat_cmp a.now b.now) m n key (Some x) → key.now ≡ name
    → (q : List ℕ) → under n q ≡ (if bytes_eq q name then Some x.now else under m q)
put_under {A} m n key x name updates same q =
    let e = updates.0 (record { ref_ptr = (0, 0); now = q }) in
    ap (λ (o : Option (Bor A)). option_map (λ (y : Bor A). y.now) o) e
    ∙ put_here x (get_by (λ k. slice_cmp nat_cmp q k.now) m) _ (bytes_eq q name)
    (is_eq-slice_cmp key.now q ∙ ap (λ (k : List ℕ). bytes_eq k q) same ∙ bytes_eq-turned name q _ _ refl refl)

-- the same under a name and a day
pub found_dated : {A : Type 0} (m : BTreeMap (Bor (List ℕ) × ℕ) (Bor A)) (key name : List ℕ) (at day : ℕ) (r : Option (Bor (Bor A))) (x : Bor (Bor A))
    → option_copied r ≡ get_by (λ k. ordering_then (slice_cmp nat_cmp key k.0.now) (nat_cmp at k.1)) m → key ≡ name → at ≡ day → r ≡ Some x
    → dated_under m name day ≡ Some x.now.now
found_dated {A} m key name at day r x value same same_day is =
    ap (λ (k : List ℕ). dated_under m k day) (sym same) ∙ ap (dated_under m key) (sym same_day)
    ∙ ap (λ (o : Option (Bor A)). option_map (λ y. y.now) o) (sym value ∙ ap option_copied is)

both_equal : (a b : Ordering) → is_eq (ordering_then a b) ≡ (is_eq a && is_eq b)
both_equal Less b = refl
both_equal Equal b = refl
both_equal Greater b = refl

days_turned : (a b : ℕ) → (a == b) ≡ (b == a)
days_turned a b = grind (arith, nat_tests)

-- steps put under a name and a day are found there, and the others stay
pub put_dated : {A : Type 0} (m n : BTreeMap (Bor (List ℕ) × ℕ) (Bor A)) (key : Bor (List ℕ) × ℕ) (x : Bor A) (name : List ℕ) (day : ℕ)
    → Updates (λ (a b : Bor (List ℕ) × ℕ). ordering_then (slice_cmp nat_cmp a.0.now b.0.now) (nat_cmp a.1 b.1)) m n key (Some x)
    → key.0.now ≡ name → key.1 ≡ day
    → (q : List ℕ) (d : ℕ) → dated_under n q d ≡ (if bytes_eq q name && (d == day) then Some x.now else dated_under m q d)
put_dated {A} m n key x name day updates same same_day q d =
    let e = updates.0 (record { ref_ptr = (0, 0); now = q }, d) in
    let named = is_eq-slice_cmp key.0.now q ∙ ap (λ (k : List ℕ). bytes_eq k q) same ∙ bytes_eq-turned name q _ _ refl refl in
    let dated = unsigned_tied key.1 d ∙ ap (λ (k : ℕ). k == d) same_day ∙ days_turned day d in
    ap (λ (o : Option (Bor A)). option_map (λ (y : Bor A). y.now) o) e
    ∙ put_here x (get_by (λ k. ordering_then (slice_cmp nat_cmp q k.0.now) (nat_cmp d k.1)) m) _ (bytes_eq q name && (d == day))
    (both_equal (slice_cmp nat_cmp key.0.now q) (nat_cmp key.1 d) ∙ ap (λ (b : Bool). b && is_eq (nat_cmp key.1 d)) named
    ∙ ap (λ (b : Bool). bytes_eq q name && b) dated)

-- the office with rows has, under each name, what was put there, or what it had
or_put : {A : Type 0} (b : Bool) (x : A) (taken there then_there : Option A) → then_there ≡ option_or taken there
    → (if b then Some x else then_there) ≡ option_or (if b then Some x else taken) there
or_put true x taken there then_there found = refl
or_put false x taken there then_there found = found

-- with one row more put, a look-up still finds what was put or what the office had
pub found_put : {A : Type 0} (b : Bool) (x : A) (taken now there later : Option A) → later ≡ (if b then Some x else taken)
    → now ≡ option_or taken there → (if b then Some x else now) ≡ option_or later there
found_put {A} b x taken now there later put found =
    or_put b x taken there now found ∙ ap (λ (o : Option A). option_or o there) (sym put)

-- where nothing was put, nothing is there
pub or_none : {A : Type 0} (taken there : Option A) → option_or taken there ≡ None → there ≡ None
or_none None there e = e
or_none (Some x) there e = cc

-- whether there is a tariff counts only where there is no meter
pub same_meter_decision : (number : List ℕ) (m : Meter) (found there : Option Meter) (has has_tariff : Bool) → found ≡ there → (there ≡ None → has ≡ has_tariff)
    → add_meter number m found has ≡ add_meter number m there has_tariff
same_meter_decision number m found (Some k) has has_tariff same rest = ap (λ (o : Option Meter). add_meter number m o has) same
same_meter_decision number m found None has has_tariff same rest =
    ap (λ (o : Option Meter). add_meter number m o has) same ∙ ap (add_meter number m None) (rest refl)
