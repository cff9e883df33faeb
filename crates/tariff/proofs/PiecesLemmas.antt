-- A text of steps is cut at its semicolons into the texts of the steps, and is joined from them.
use Rattle.std.proofs.Common.{◌≡◌, ◌≢◌, ℕ, zero, suc, ◌+◌, ◌^◌, ◌<◌, ◌≤◌, eqb, min, Option, Some, None, List, [], ◌∷◌, ◌++◌, length, get_or, take, set, map, sym, ◌∙◌, ap, refl, subst, lit<, arith}
use Rattle.std.specs.Prelude.{All, IfSome, IsUtf8, decimal}
use Rattle.std.specs.List.{join_with_byte, slice_split}
use Rattle.std.proofs.lemmas.List.{get_or_default, length-append, length-map, length-set, map-append, take-append-le, take_all, take_more_set}
use Rattle.std.proofs.lemmas.List.Elements.{All-head, All-map, All-push, All-tail, All-weaker}
use Rattle.std.proofs.lemmas.Fmt.{IsAscii-decimal}
use Rattle.std.proofs.lemmas.Str.{IsUtf8-append, IsUtf8-from_ascii, IsUtf8-nil}
use Rattle.std.proofs.lemmas.List.Splits.{join_with_byte-slice_split, length-slice_split, slice_split_at, slice_split_none}
use Rattle.tariff.specs.declared.step.Step.{Step}
use Rattle.tariff.specs.Pieces.{AreFirst}
use Rattle.tariff.specs.StepsText.{IsStepsText, IsWritable, end_text, step_text, steps_text}
use Rattle.tariff.proofs.TextLemmas.{Lacks, Lacks-step_text, eqb_self, same_step}

-- parts that lack the byte they are joined with are the parts at which it cuts
split_joined : (c : ℕ) (parts : List (List ℕ)) → 1 ≤ length parts → All (Lacks c) parts
    → slice_split (λ b. eqb b c) (join_with_byte c parts) ≡ parts
split_joined c [] some lacks = absurd (omega arith)
split_joined c (x ∷ []) some lacks =
    slice_split_none (λ b. eqb b c) x (All-head (Lacks c) x [] lacks)
split_joined c (x ∷ y ∷ more) some lacks =
    slice_split_at (λ b. eqb b c) x c (join_with_byte c (y ∷ more))
    (All-head (Lacks c) x (y ∷ more) lacks) (eqb_self c)
    ∙ ap (λ parts. x ∷ parts)
    (split_joined c (y ∷ more) (omega arith) (All-tail (Lacks c) x (y ∷ more) lacks))

-- the pieces of a text
abbrev pub pieces_of : List ℕ → List (List ℕ)
pieces_of text = slice_split (λ b. eqb b 59) text

-- a text of steps is cut into the texts of its steps
pub pieces_from_text : (text : List ℕ) (steps : List Step) → IsStepsText text steps → pieces_of text
    ≡ map step_text steps
pieces_from_text text steps t =
    let lacks = All-map (Lacks 59) step_text steps (All-weaker IsWritable (λ s. Lacks 59 (step_text s))
    (λ s w. Lacks-step_text s 59 w (omega arith)) steps t.writable) in
    ap pieces_of t.written
    ∙ split_joined 59 (map step_text steps)
    (omega (arith, length-map steps step_text, t.some)) lacks

-- a text that is cut into the texts of some steps is the text of these
pub text_from_pieces : (text : List ℕ) (steps : List Step) → All IsWritable steps → pieces_of text
    ≡ map step_text steps → IsStepsText text steps
text_from_pieces text steps w e = record {
  some = omega (
    arith,
    ap length e,
    length-map steps step_text,
    length-slice_split
        (λ b. eqb b 59) text,
  );
  writable = w;
  written = sym (join_with_byte-slice_split 59 text) ∙ ap (join_with_byte 59) e;
}

-- steps with the same texts are the same
same_steps : (steps others : List Step) → All IsWritable steps → All IsWritable others
    → map step_text steps ≡ map step_text others → steps ≡ others
same_steps [] [] v w e = refl
same_steps [] (t ∷ others) v w e = cc
same_steps (s ∷ steps) [] v w e = cc
same_steps (s ∷ steps) (t ∷ others) v w e =
    let first : step_text s ≡ step_text t = cc in
    let rest : map step_text steps ≡ map step_text others = cc in
    let head = same_step (step_text t) s t (All-head IsWritable s steps v) (All-head IsWritable t others w) (sym first) refl in
    let tail =
    same_steps steps others (All-tail IsWritable s steps v) (All-tail IsWritable t others w) rest in
    ap (λ x. x ∷ steps) head ∙ ap (λ xs. t ∷ xs) tail

-- a text is that of one list of steps
pub one_list : (text : List ℕ) (steps others : List Step) → IsStepsText text steps
    → IsStepsText text others → steps ≡ others
one_list text steps others t u =
    same_steps steps others t.writable u.writable (sym (pieces_from_text text steps t)
    ∙ pieces_from_text text others u)

-- a step is put at its place among the first eight
pub are_first_put : (steps first : List Step) (n : ℕ) (s : Step) → length first ≡ 8 → n < 8
    → AreFirst steps first n → AreFirst (steps ++ s ∷ []) (set first n s) (min 8 n + 1)
are_first_put steps first n s eight room a =
    let more = length-append steps (s ∷ []) in
    let count : length steps ≡ n = omega (arith, a.count) in
    let from : min n 8 ≡ n = omega arith in
    let at : min (min 8 n + 1) 8 ≡ n + 1 = omega arith in
    let front : take n first ≡ steps =
    subst (λ (k : ℕ). take k first ≡ take 8 steps) from a.begins ∙ take_all 8 steps (omega arith) in
    record {
      count = omega (arith, more);
      begins =
          rw (at, take_more_set first n s (omega arith), front) (sym (take_all 8 (steps
          ++ s ∷ []) (omega (arith, more))));
    }

-- a step past the first eight is only counted
pub are_first_count : (steps first : List Step) (n : ℕ) (s : Step) → 8 ≤ n → AreFirst steps first n
    → AreFirst (steps ++ s ∷ []) first (min 8 n + 1)
are_first_count steps first n s full a =
    let more = length-append steps (s ∷ []) in
    let from : min n 8 ≡ 8 = omega arith in
    let at : min (min 8 n + 1) 8 ≡ 8 = omega arith in
    let front : take 8 first ≡ take 8 steps =
    subst (λ (k : ℕ). take k first ≡ take 8 steps) from a.begins in
    record {
      count = omega (arith, more, a.count);
      begins = rw (at, take-append-le 8 steps (s ∷ []) (omega (arith, a.count))) front;
    }

-- up to eight steps are all there
pub are_first_all : (steps first : List Step) (n : ℕ) → n ≤ 8 → AreFirst steps first n
    → take n first ≡ steps
are_first_all steps first n few a =
    let from : min n 8 ≡ n = omega arith in
    subst (λ (k : ℕ). take k first ≡ take 8 steps) from a.begins
    ∙ take_all 8 steps (omega (arith, a.count))

IsUtf8-byte : (c : ℕ) → c < 128 → IsUtf8 (c ∷ [])
IsUtf8-byte c small = IsUtf8-from_ascii (c ∷ []) (ascii_byte c small)
  where
    ascii_byte : (c : ℕ) → c < 128 → (i : ℕ) → get_or (c ∷ []) i 0 < 128
    ascii_byte c small zero = small
    ascii_byte c small (suc i) = lit< tt

IsUtf8-decimal : (n : ℕ) → n < 2 ^ 64 → IsUtf8 (decimal n)
IsUtf8-decimal n small = IsUtf8-from_ascii (decimal n) (IsAscii-decimal n small)

IsUtf8-end_text : (ends : Option ℕ) → IfSome ends (λ e. e < 2 ^ 32) → IsUtf8 (end_text ends)
IsUtf8-end_text None small = IsUtf8-nil
IsUtf8-end_text (Some e) small = IsUtf8-decimal e (omega arith)

IsUtf8-step_text : (s : Step) → IsWritable s → IsUtf8 (step_text s)
IsUtf8-step_text s w =
    IsUtf8-append (end_text s.ends) (58 ∷ decimal s.price) (IsUtf8-end_text s.ends w.0)
    (IsUtf8-append (58 ∷ []) (decimal s.price) (IsUtf8-byte 58 (lit< tt))
    (IsUtf8-decimal s.price (omega (arith, w.1))))

IsUtf8-steps_text : (steps : List Step) → All IsWritable steps → IsUtf8 (steps_text steps)
IsUtf8-steps_text [] w = IsUtf8-nil
IsUtf8-steps_text (s ∷ []) w = IsUtf8-step_text s (All-head IsWritable s [] w)
IsUtf8-steps_text (s ∷ t ∷ more) w =
    IsUtf8-append (step_text s) (59 ∷ steps_text (t ∷ more))
    (IsUtf8-step_text s (All-head IsWritable s (t ∷ more) w))
    (IsUtf8-append (59 ∷ []) (steps_text (t ∷ more)) (IsUtf8-byte 59 (lit< tt))
    (IsUtf8-steps_text (t ∷ more) (All-tail IsWritable s (t ∷ more) w)))

-- a text of steps is UTF-8
pub IsUtf8-text : (text : List ℕ) (steps : List Step) → IsStepsText text steps → IsUtf8 text
IsUtf8-text text steps t = subst IsUtf8 (sym t.written) (IsUtf8-steps_text steps t.writable)

-- what a loop over the pieces has read: steps whose texts these are, the first eight of them, and
-- how many
pub record AreRead (texts : List (List ℕ)) (first : List Step) (n : ℕ) : Type 0 where
  pub steps : List Step
  pub writable : All IsWritable steps
  pub texts_are : texts ≡ map step_text steps
  pub are_first : AreFirst steps first n
  pub eight : length first ≡ 8

get_or-map : (f : Step → List ℕ) (steps : List Step) (i : ℕ) (d : Step)
    → get_or (map f steps) i (f d) ≡ f (get_or steps i d)
get_or-map f [] i d = refl
get_or-map f (s ∷ steps) zero d = refl
get_or-map f (s ∷ steps) (suc i) d = get_or-map f steps i d

-- a piece that is no step's text makes the whole text no text of steps
pub no_piece : (text piece : List ℕ) (i : ℕ)
    → (i < length (pieces_of text)) × (piece ≡ get_or (pieces_of text) i piece)
    → ((s : Step) → IsWritable s → piece ≢ step_text s) → (steps : List Step)
    → ¬ IsStepsText text steps
no_piece text piece i at none steps t =
    let d : Step = record { ends = None; price = 0 } in
    let pieces = pieces_from_text text steps t in
    let there : i < length steps =
    omega (arith, at.0, ap length pieces, length-map steps step_text) in
    none (get_or steps i d) (t.writable i d there)
    (at.1 ∙ get_or_default (pieces_of text) i piece (step_text d) at.0
    ∙ ap (λ ps. get_or ps i (step_text d)) pieces ∙ get_or-map step_text steps i d)

-- one of the first eight pieces is read, and its step is put at its place
pub are_read_put : (texts : List (List ℕ)) (first : List Step) (n : ℕ) (s : Step) → IsWritable s
    → n < 8 → AreRead texts first n
    → AreRead (texts ++ step_text s ∷ []) (set first n s) (min 8 n + 1)
are_read_put texts first n s w room r = record {
  steps = r.steps ++ s ∷ [];
  writable = All-push IsWritable r.steps s r.writable w;
  texts_are =
      ap (λ ts. ts ++ step_text s ∷ []) r.texts_are ∙ sym (map-append step_text r.steps (s ∷ []));
  are_first = are_first_put r.steps first n s r.eight room r.are_first;
  eight = length-set first n s ∙ r.eight;
}

-- a piece past the first eight is read, and its step is only counted
pub are_read_count : (texts : List (List ℕ)) (first : List Step) (n : ℕ) (s : Step) → IsWritable s
    → 8 ≤ n → AreRead texts first n → AreRead (texts ++ step_text s ∷ []) first (min 8 n + 1)
are_read_count texts first n s w full r = record {
  steps = r.steps ++ s ∷ [];
  writable = All-push IsWritable r.steps s r.writable w;
  texts_are =
      ap (λ ts. ts ++ step_text s ∷ []) r.texts_are ∙ sym (map-append step_text r.steps (s ∷ []));
  are_first = are_first_count r.steps first n s full r.are_first;
  eight = r.eight;
}

-- what was read of all pieces of a text is what the text is written from
pub text_from_read : (text : List ℕ) (texts : List (List ℕ)) (first : List Step) (n : ℕ) → texts
    ≡ pieces_of text → AreRead texts first n
    → (steps : List Step) × IsStepsText text steps × AreFirst steps first n
text_from_read text texts first n all r =
    (r.steps, text_from_pieces text r.steps r.writable (sym all ∙ r.texts_are), r.are_first)
