-- What is read behind a part of a text is read of the whole text.
use Rattle.std.proofs.Common.{◌≡◌, ◌≢◌, ◌∙◌, ℕ, Bool, List, [], ◌∷◌, ◌++◌, Option, Some, None, ap, sym, append_assoc}
use Rattle.std.specs.Prelude.{MatchOption}
use Rattle.std.specs.Borrow.{Bor}
use Rattle.std.proofs.lemmas.List.{append_cancel_left}
use Rattle.records.specs.Cell.{Held, IsPlain, IsTellable, cell_text, held, in_quotes}
use Rattle.records.specs.Front.{BeginsWithStop}
use Rattle.records.specs.Record.{comma_if}
use Rattle.records.specs.declared.cell.Cell.{Cell}
use Rattle.records.proofs.FrontLemmas.{no_quoted}

-- a cell that is a text, by what stands behind its quotation mark
pub quoted_cell : (whole quoted : List ℕ) (r : Option (Cell × Bor (List ℕ))) → whole ≡ 34 ∷ quoted
    → MatchOption r ((bytes rest : List ℕ) → IsPlain bytes → BeginsWithStop rest → quoted ≢ bytes ++ (34 ∷ rest))
    (λ found. IsTellable (held found.0) × BeginsWithStop found.1.now × (34 ∷ quoted ≡ cell_text (held found.0) ++ found.1.now))
    → MatchOption r ((cell : Held) (rest : List ℕ) → IsTellable cell → BeginsWithStop rest → whole ≢ cell_text cell ++ rest)
    (λ found. IsTellable (held found.0) × BeginsWithStop found.1.now × (whole ≡ cell_text (held found.0) ++ found.1.now))
quoted_cell whole quoted (Some found) is h = (h.0, h.1, is ∙ h.2)
quoted_cell whole quoted None is h = λ cell rest tellable begins e. no_quoted quoted h cell rest tellable begins (sym is ∙ e)

-- a name and its colon, behind a comma where members stand before, and then the rest
abbrev pub behind_named : Bool → List ℕ → List ℕ → List ℕ
behind_named later name rest = comma_if later ++ (in_quotes name ++ (58 ∷ rest))

-- lists that are the same with a head each are the same behind it
pub tails : (a b : ℕ) (x y : List ℕ) → a ∷ x ≡ b ∷ y → x ≡ y
tails a b x y e = cc

regrouped : (later : Bool) (name rest : List ℕ) → behind_named later name rest ≡ comma_if later ++ (34 ∷ (name ++ (34 ∷ 58 ∷ rest)))
regrouped later name rest = ap (λ (b : List ℕ). comma_if later ++ (34 ∷ b)) (append_assoc name (34 ∷ []) (58 ∷ rest))

-- one name has one rest
pub one_rest : (later : Bool) (name rest more : List ℕ) → behind_named later name rest ≡ behind_named later name more → rest ≡ more
one_rest later name rest more e =
    let marks = append_cancel_left (comma_if later) (in_quotes name ++ (58 ∷ rest)) (in_quotes name ++ (58 ∷ more)) e in
    tails 58 58 rest more (append_cancel_left (in_quotes name) (58 ∷ rest) (58 ∷ more) marks)

-- a name that is read mark by mark
pub name_found : (later : Bool) (name whole quoted named rest : List ℕ) (r : Option (Bor (List ℕ))) → whole ≡ comma_if later ++ quoted → quoted ≡ 34 ∷ named
    → named ≡ name ++ rest → MatchOption r ((more : List ℕ) → rest ≢ 34 ∷ 58 ∷ more) (λ more. rest ≡ 34 ∷ 58 ∷ more.now)
    → MatchOption r ((more : List ℕ) → whole ≢ behind_named later name more) (λ more. whole ≡ behind_named later name more.now)
name_found later name whole quoted named rest (Some more) e f g h =
    e ∙ ap (λ (b : List ℕ). comma_if later ++ b) (f ∙ ap (λ (b : List ℕ). 34 ∷ b) (g ∙ ap (λ (b : List ℕ). name ++ b) h)) ∙ sym (regrouped later name more.now)
name_found later name whole quoted named rest None e f g h = λ more is.
    let front : quoted ≡ 34 ∷ (name ++ (34 ∷ 58 ∷ more)) =
    append_cancel_left (comma_if later) quoted (34 ∷ (name ++ (34 ∷ 58 ∷ more))) (sym e ∙ is ∙ regrouped later name more) in
    let mark : named ≡ name ++ (34 ∷ 58 ∷ more) = tails 34 34 named (name ++ (34 ∷ 58 ∷ more)) (sym f ∙ front) in
    h more (append_cancel_left name rest (34 ∷ 58 ∷ more) (sym g ∙ mark))

-- a cell behind its name
pub named_cell : (later : Bool) (name whole rest : List ℕ) (r : Option (Cell × Bor (List ℕ))) → whole ≡ behind_named later name rest
    → MatchOption r ((cell : Held) (more : List ℕ) → IsTellable cell → BeginsWithStop more → rest ≢ cell_text cell ++ more)
    (λ found. IsTellable (held found.0) × BeginsWithStop found.1.now × (rest ≡ cell_text (held found.0) ++ found.1.now))
    → MatchOption r ((cell : Held) (more : List ℕ) → IsTellable cell → BeginsWithStop more → whole ≢ behind_named later name (cell_text cell ++ more))
    (λ found. IsTellable (held found.0) × BeginsWithStop found.1.now × (whole ≡ behind_named later name (cell_text (held found.0) ++ found.1.now)))
named_cell later name whole rest (Some found) is h = (h.0, h.1, is ∙ ap (behind_named later name) h.2)
named_cell later name whole rest None is h = λ cell more tellable begins e.
    h cell more tellable begins (one_rest later name rest (cell_text cell ++ more) (sym is ∙ e))
