-- A text that is written in parts.
use Rattle.std.proofs.Common.{◌∙◌, ℕ, ◌+◌, List, ◌++◌, take, drop, Option, Some, None, ap, sym, append_assoc}
use Rattle.std.proofs.Math.Seq.{take-add}
use Rattle.std.specs.Io.KnownBytes.{Appends}

-- a further part of a text, behind its first n bytes
pub Appends-part : (old mid new : Option (List ℕ)) (text : List ℕ) (n m : ℕ)
    → Appends old mid (take n text) → Appends mid new (take m (drop n text)) → Appends old new (take (n + m) text)
Appends-part None mid new text n m p q = tt
Appends-part (Some xs) None new text n m p q = absurd p
Appends-part (Some xs) (Some ys) None text n m p q = absurd q
Appends-part (Some xs) (Some ys) (Some zs) text n m p q =
    q ∙ ap (λ bytes. bytes ++ take m (drop n text)) p ∙ append_assoc xs (take n text) (take m (drop n text))
    ∙ ap (λ bytes. xs ++ bytes) (sym (take-add n m text))
