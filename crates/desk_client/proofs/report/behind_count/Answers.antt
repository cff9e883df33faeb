use Rattle.std.proofs.Common.{◌≡◌, ◌≢◌, ◌∙◌, ℕ, List, ◌∷◌, ◌++◌, Option, Some, None, ap, sym}
use Rattle.std.specs.Prelude.{MatchOption, decimal}
use Rattle.std.specs.Borrow.{Bor}
use Rattle.std.proofs.lemmas.List.{append_cancel_left}
use Rattle.desk_client.proofs.report.behind_count.Goals as goal

-- what follows the word and the number, where the end of their line follows next
behind_line : (text word digits first second : List ℕ) (r : Option (Bor (List ℕ))) → text ≡ word ++ first → first ≡ digits ++ second
    → MatchOption r ((rest : List ℕ) → second ≢ 10 ∷ rest) (λ rest. second ≡ 10 ∷ rest.now)
    → MatchOption r ((rest : List ℕ) → text ≢ word ++ (digits ++ 10 ∷ rest)) (λ rest. text ≡ word ++ (digits ++ 10 ∷ rest.now))
behind_line text word digits first second (Some rest) a b found =
    a ∙ ap (λ (t : List ℕ). word ++ t) (b ∙ ap (λ (t : List ℕ). digits ++ t) found)
behind_line text word digits first second None a b none = λ rest is.
    none rest (append_cancel_left digits second (10 ∷ rest) (sym b ∙ append_cancel_left word first (digits ++ 10 ∷ rest) (sym a ∙ is)))

pub returns-in_default-behind : goal.returns-in_default-behind
returns-in_default-behind c = λ rest is.
    let digits : c.as_bytes.result.now ≡ decimal c.args.number = c.as_bytes.ensures.value ∙ c.format.ensures.text in
    let first = append_cancel_left c.args.word.now c.in-Some.behind_word.now (decimal c.args.number ++ 10 ∷ rest) (sym c.in-Some.ensures ∙ is) in
    c.in_default-behind.ensures (10 ∷ rest) (first ∙ ap (λ (d : List ℕ). d ++ 10 ∷ rest) (sym digits))

pub returns : goal.returns
returns c =
    let digits : c.as_bytes.result.now ≡ decimal c.args.number = c.as_bytes.ensures.value ∙ c.format.ensures.text in
    behind_line c.args.text.now c.args.word.now (decimal c.args.number) c.in-Some.behind_word.now c.in-Some-behind.behind_number.now c.behind-3.result
    c.in-Some.ensures (c.in-Some-behind.ensures ∙ ap (λ (d : List ℕ). d ++ c.in-Some-behind.behind_number.now) digits) c.behind-3.ensures
