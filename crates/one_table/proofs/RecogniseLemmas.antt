-- Texts that are gone through one at a time.
use Rattle.std.proofs.Common.{◌≡◌, ◌↔◌, ℕ, zero, suc, ◌+◌, ◌<◌, List, [], ◌∷◌, Bor, map, drop, drop-cons, get_or, length, Ok, subst, ◌∙◌, arith}
use Rattle.std.specs.List.{AllByRecursion}
use Rattle.sqlite_resolve.specs.Compile.{table_defined_by}
use Rattle.sqlite_schema.specs.declared.schema.Table.{Table}
use Rattle.one_table.specs.Making.{AreDefined}

-- what holds of all that are left holds of all, once it holds of the next
pub each_left : {X : Type 0} (P : X → Type 0) (xs : List X) (i : ℕ) (d : X) (whole : Type 0) → i < length xs → P (get_or xs i d)
    → AllByRecursion P (drop i xs) ↔ whole → AllByRecursion P (drop (i + 1) xs) ↔ whole
each_left P xs i d whole low here left =
    let next : drop i xs ≡ get_or xs i d ∷ drop (i + 1) xs = drop-cons xs i d low ∙ (let e : suc i ≡ i + 1 = omega arith in rw e) in
    let split = subst (λ l. AllByRecursion P l ↔ whole) next left in
    (λ h. split.0 (here, h), λ h. (split.1 h).1)

-- each of the texts defines a table
pub defined_at : (texts : List (Bor (List ℕ))) (ts : List Table) (i : ℕ) (d : Bor (List ℕ)) → AreDefined (map (λ t. t.now) texts) ts
    → i < length texts → (t : Table) × (table_defined_by (get_or texts i d).now ≡ Ok t)
defined_at [] ts i d h low = absurd (omega arith)
defined_at (text ∷ texts) [] i d h low = absurd h
defined_at (text ∷ texts) (t ∷ ts) zero d h low = (t, h.0)
defined_at (text ∷ texts) (t ∷ ts) (suc i) d h low = defined_at texts ts i d h.1 (omega arith)
