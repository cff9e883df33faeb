-- Where no head begins an input, whatever follows it.
use Rattle.std.proofs.Common.{◌≡◌, ℕ, ◌<◌, ◌≤◌, List, ◌++◌, length, take, drop, ap, sym, ◌∙◌, arith}
use Rattle.std.proofs.Math.Seq.{take-append_seam}
use Rattle.std.proofs.lemmas.List.{take-append-le, take-append-drop}
use Rattle.httparse.specs.Grammar.{HasNoRequest, print_request}
use Rattle.httparse.specs.Spans.{IsRequestOf}
use Rattle.httparse.specs.declared.spans.HeaderSpan.{HeaderSpan}
use Rattle.httparse.specs.declared.spans.RequestSpans.{RequestSpans}
use Rattle.httparse.proofs.GrammarLemmas.{request_prefix_free}
use Rattle.conversation.specs.message.Heads.{NeverHasHead, longest_head}

-- a front that is no longer than the input is the input's own
pub front_within : (input more front rest : List ℕ) → input ++ more ≡ front ++ rest
    → length front ≤ length input → input ≡ front ++ drop (length front) input
front_within input more front rest e h =
    let same : take (length front) input ≡ front =
    sym (take-append-le (length front) input more h) ∙ ap (take (length front)) e ∙ take-append_seam front rest in
    sym (take-append-drop (length front) input) ∙ ap (λ bytes. bytes ++ drop (length front) input) same

-- a head that is too long is the only one
pub never_of_long : (input : List ℕ) (fields : List HeaderSpan) (spans : RequestSpans)
    → IsRequestOf input fields spans → longest_head < spans.len → NeverHasHead input
never_of_long input fields spans found long more other rest begins =
    let same = (request_prefix_free input more found.0 other _ rest found.1.reads begins.reads).0 in
    let e = ap (λ h. length (print_request h)) same in
    omega (arith, e, begins.bytes, found.1.len)

-- the longest head would have come
pub never_of_full : (input : List ℕ) → HasNoRequest input → longest_head ≤ length input → NeverHasHead input
never_of_full input none full more head rest begins =
    let within : length (print_request head) ≤ length input = omega (arith, begins.bytes) in
    none head _ (begins.reads.0, front_within input more (print_request head) rest begins.reads.1 within)
