-- What is awaited of an input.
use Rattle.std.specs.Prelude.{◌≡◌, ℕ, ◌+◌, Bool, false, List, ◌++◌, length, Option, IfSome}
use Rattle.conversation.specs.declared.wants.Wants.{Wants}
use Rattle.conversation.specs.declared.wants.Wants.TheVariants.{Head, Body}
use Rattle.conversation.specs.message.Heads.{AwaitsHead, longest_head}
use Rattle.conversation.specs.message.Messages.{LacksBody}

-- how many bytes may be asked for
abbrev pub count_of : Wants → ℕ
count_of (Head count) = count
count_of (Body count told) = count

-- an interim reply was written for what is awaited
abbrev pub told_of : Wants → Bool
told_of (Head count) = false
told_of (Body count told) = told

-- what is awaited where this is left of an input: an interim reply was written for a message that
-- lacks its body exactly if it expects one
abbrev pub IsAwaited : List ℕ → Wants → Type 0
IsAwaited rest (Head count) = AwaitsHead rest × (length rest + count ≡ longest_head)
IsAwaited rest (Body count told) = LacksBody rest count told

-- where this was awaited of what is left, and so many bytes came behind that, the answer, if there
-- is one, is awaited then
abbrev pub StaysAwaited : Wants → ℕ → Option Wants → Type 0
StaysAwaited wants count result =
    (rest bytes : List ℕ) → IsAwaited rest wants → length bytes ≡ count
    → IfSome result (λ left. IsAwaited (rest ++ bytes) left)
