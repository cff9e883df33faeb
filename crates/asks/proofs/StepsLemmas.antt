-- The text of steps, step by step.
use Rattle.std.proofs.Common.{◌≡◌, ◌∙◌, ℕ, ◌+◌, ◌<◌, ◌≤◌, Bool, true, false, List, [], ◌∷◌, ◌++◌, drop, get_or, length, refl, ap, sym, append_assoc}
use Rattle.std.specs.Prelude.{if◌then◌else◌}
use Rattle.std.proofs.lemmas.List.{append-nil, drop_all, drop_more}
use Rattle.tariff.specs.StepsText.{step_text, steps_text}
use Rattle.tariff.specs.declared.step.Step.{Step}

-- a part and its separator, between what was there and what is still to come
between : (old separator part rest with_separator with_part whole : List ℕ) → with_separator ≡ old ++ separator → with_part ≡ with_separator ++ part
    → old ++ (separator ++ (part ++ rest)) ≡ whole → with_part ++ rest ≡ whole
between old separator part rest with_separator with_part whole e f is =
    ap (λ front. front ++ rest) (f ∙ ap (λ front. front ++ part) e)
    ∙ append_assoc (old ++ separator) part rest
    ∙ append_assoc old separator (part ++ rest)
    ∙ is

-- what is still to be added to the text of steps
abbrev pub steps_rest : Bool → List Step → List ℕ
steps_rest false steps = steps_text steps
steps_rest true [] = []
steps_rest true (s ∷ steps) = 59 ∷ steps_text (s ∷ steps)

steps_rest-cons : (later : Bool) (s : Step) (steps : List Step)
    → steps_rest later (s ∷ steps) ≡ (if later then 59 ∷ [] else []) ++ (step_text s ++ steps_rest true steps)
steps_rest-cons false s [] = sym (append-nil (step_text s))
steps_rest-cons false s (t ∷ steps) = refl
steps_rest-cons true s [] = ap (λ (text : List ℕ). 59 ∷ text) (sym (append-nil (step_text s)))
steps_rest-cons true s (t ∷ steps) = refl

steps_rest-nil : (later : Bool) → steps_rest later [] ≡ []
steps_rest-nil false = refl
steps_rest-nil true = refl

-- a step is added
pub step_more : (later : Bool) (steps : List Step) (i : ℕ) (d : Step) (old a b whole : List ℕ) → i < length steps
    → a ≡ old ++ (if later then 59 ∷ [] else []) → b ≡ a ++ step_text (get_or steps i d)
    → old ++ steps_rest later (drop i steps) ≡ whole → b ++ steps_rest true (drop (i + 1) steps) ≡ whole
step_more later steps i d old a b whole inside e f is =
    let s = get_or steps i d in
    let more = drop (i + 1) steps in
    between old (if later then 59 ∷ [] else []) (step_text s) (steps_rest true more) a b whole e f
    (ap (λ text. old ++ text) (sym (steps_rest-cons later s more)) ∙ sym (ap (λ ys. old ++ steps_rest later ys) (drop_more steps i d inside)) ∙ is)

-- the same of other steps that are these
pub rest_at : (later : Bool) (steps others : List Step) (i : ℕ) (old whole : List ℕ) → others ≡ steps
    → old ++ steps_rest later (drop i steps) ≡ whole → old ++ steps_rest later (drop i others) ≡ whole
rest_at later steps others i old whole same is = ap (λ ys. old ++ steps_rest later (drop i ys)) same ∙ is

-- behind the last step nothing is to be added, so the text is whole
pub steps_done : (later : Bool) (steps : List Step) (i : ℕ) (old whole : List ℕ) → length steps ≤ i
    → old ++ steps_rest later (drop i steps) ≡ whole → old ≡ whole
steps_done later steps i old whole past is =
    sym (append-nil old) ∙ ap (λ text. old ++ text) (sym (steps_rest-nil later))
    ∙ sym (ap (λ ys. old ++ steps_rest later ys) (drop_all i steps past)) ∙ is
