-- What the tests conclude from the law of records, at the number of a shift.
use Rattle.std.proofs.Common.{◌≡◌, ◌∙◌, ℕ, ◌^◌, ◌<◌, true, List, [], ◌∷◌, ◌++◌, Option, None, Some, codes, option_and_then, refl, ap, sym, subst, arith}
use Rattle.std.specs.Prelude.{IfSome}
use Rattle.std.specs.List.{AllByRecursion}
use Rattle.serde_json.specs.Data as json
use Rattle.serde_json.specs.Find.{as_number, as_u64, get}
use Rattle.serde_json.specs.Read.{read}
use Rattle.records.specs.Cell.{Held, number, IsPlain}
use Rattle.records.specs.Column.{IsNamed}
use Rattle.records.specs.Front.{IsFound}
use Rattle.records.specs.Json.{record_data, rise}
use Rattle.records.specs.Record.{Fits, record_text}

-- the clauses of the law
abbrev pub One : Type 0
One = (names : List (List ℕ)) (cells others : List Held) (rest more : List ℕ) → Fits names cells → Fits names others
    → record_text names cells ++ rest ≡ record_text names others ++ more → (cells ≡ others) × (rest ≡ more)

-- ... and that the text is JSON of the record's members
abbrev pub AsJson : Type 0
AsJson = (names : List (List ℕ)) (cells : List Held) → AllByRecursion IsPlain names → rise names ≡ true → Fits names cells
    → read (record_text names cells) ≡ Some (record_data names cells)

-- a record of one number
abbrev pub shift_names : List (List ℕ)
shift_names = codes "shift" ∷ []

-- its text
abbrev pub shift_text : ℕ → List ℕ
shift_text n = record_text shift_names (number n ∷ [])

fits : (n : ℕ) → n < 2 ^ 64 → Fits shift_names (number n ∷ [])
fits n small = record { named = refl; tellable = (small, tt) }

-- what was read of the text of a number is that number
pub told : One → (bytes : List ℕ) (n : ℕ) (r : Option (ℕ × Unit {0})) → n < 2 ^ 32 → bytes ≡ shift_text n
    → IsFound {A = ℕ × Unit {0}} (λ v. IsNamed {A = ℕ × Unit {0}} (λ w. (w.0 < 2 ^ 32) × Unit {0}) (λ w. number w.0 ∷ []) shift_names v
    × (bytes ≡ shift_text v.0)) r
    → r ≡ Some (n, tt)
told one bytes n None small e none = absurd (none (n, tt) (record { kept = (small, tt); named = refl }, e))
told one bytes n (Some v) small e found =
    let same = one shift_names (number v.0 ∷ []) (number n ∷ []) [] [] (fits v.0 (omega (arith, found.0.kept.0))) (fits n (omega (arith, small)))
    (ap (λ (t : List ℕ). t ++ []) (sym found.1 ∙ e)) in
    let cells : number v.0 ∷ [] ≡ number n ∷ [] = same.0 in
    let first : v.0 ≡ n = cc in
    ap (λ (m : ℕ). Some (m, tt)) first

-- so is what it has as JSON
pub as_json : AsJson → (bytes : List ℕ) (n : ℕ) (value member : json.Data) (r : Option ℕ) → n < 2 ^ 32 → bytes ≡ shift_text n → read bytes ≡ Some value
    → Some member ≡ get (codes "shift") value → r ≡ option_and_then as_u64 (as_number member) → IfSome r (λ k. k ≡ n)
as_json law bytes n value member r small e whole found is =
    let told_so : Some value ≡ Some (record_data shift_names (number n ∷ [])) =
    sym whole ∙ ap read e ∙ law shift_names (number n ∷ []) ((refl, (refl, (refl, (refl, (refl, tt))))), tt) refl (fits n (omega (arith, small))) in
    let object : value ≡ record_data shift_names (number n ∷ []) = cc in
    let here : Some member ≡ Some (json.number (json.unsigned n)) = found ∙ ap (get (codes "shift")) object in
    let numbered : member ≡ json.number (json.unsigned n) = cc in
    let answer : r ≡ Some n = is ∙ ap (λ (m : json.Data). option_and_then as_u64 (as_number m)) numbered in
    subst (λ (o : Option ℕ). IfSome o (λ k. k ≡ n)) (sym answer) refl
