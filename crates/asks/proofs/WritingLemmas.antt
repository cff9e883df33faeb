-- What is written of values.
use Rattle.std.proofs.Common.{◌≡◌, ◌∙◌, ℕ, ◌<◌, ◌≤◌, Bool, true, List, [], ◌∷◌, ◌++◌, Option, Some, None, Result, Ok, Err, length, get_or, map, refl, ap, sym, arith}
use Rattle.std.specs.Prelude.{OnOk, if◌then◌else◌, is_ok}
use Rattle.std.specs.Borrow.{Bor}
use Rattle.records.specs.Cell.{Held, cell_text, in_quotes}
use Rattle.records.specs.Record.{comma_if, members_text, now}
use Rattle.tariff.specs.declared.step.Step.{Step}
use Rattle.asks.specs.Body.{steps_cells}
use Rattle.asks.specs.Value.{cell_of}
use Rattle.asks.specs.declared.value.Value.{Value}

-- a text that was added is another that is the same
pub added : {A E : Type 0} (r : Result A E) (new old a b : List ℕ) → new ≡ (if is_ok r then old ++ a else old) → a ≡ b → OnOk r (new ≡ old ++ b)
added (Ok x) new old a b e same = e ∙ ap (λ (t : List ℕ). old ++ t) same
added (Err x) new old a b e same = tt

brace : (names : List (List ℕ)) → members_text true [] [] ≡ members_text true names []
brace [] = refl
brace (n ∷ names) = refl

-- the last member is the first of the names that are left
pub last_text : (later : Bool) (names : List (Bor (List ℕ))) (d : Bor (List ℕ)) (values : List Value) (cells : List Held) → 1 ≤ length names
    → length values < 1 → length cells ≤ 1
    → members_text later ((get_or names 0 d).now ∷ []) cells ≡ members_text later (map now names) (map cell_of values ++ cells)
last_text later [] d values cells some none one = absurd (omega (arith, some))
last_text later (n ∷ ns) d (v ∷ vs) cells some none one = absurd (omega (arith, none))
last_text later (n ∷ ns) d [] [] some none one = refl
last_text later (n ∷ ns) d [] (c ∷ []) some none one =
    ap (λ (m : List ℕ). comma_if later ++ (in_quotes n.now ++ (58 ∷ (cell_text c ++ m)))) (brace (map now ns))
last_text later (n ∷ ns) d [] (c ∷ e ∷ cells) some none one = absurd (omega (arith, one))

-- steps are one cell at most
pub one_cell : (steps : Option (Bor (List Step))) → length (steps_cells steps) ≤ 1
one_cell None = omega arith
one_cell (Some steps) = omega arith
