-- The answers of a clock.
use Rattle.std.specs.Prelude.{◌≡◌, ℕ, ◌<◌, ◌≤◌, ℤ, pos, negsuc, List, [], ◌∷◌, Option, None, Some}
use Rattle.std.specs.Prelude.{⊤}
use Rattle.conversation.specs.declared.clock.Script.{Script}

-- the clock gave its first answer, and keeps the last one
abbrev pub Gives : Option (List ℤ) → ℤ → Option (List ℤ) → Type 0
Gives None now new = ⊤
Gives (Some []) now new = ⊥
Gives (Some (first ∷ [])) now new = (now ≡ first) × (new ≡ Some (first ∷ []))
Gives (Some (first ∷ second ∷ others)) now new = (now ≡ first) × (new ≡ Some (second ∷ others))

-- the answers of a script, in order
abbrev pub script_answers : Script → List ℤ
script_answers script = script.first ∷ script.others.now

-- what a machine's clock answers that can't be read, -2^63: no moment of the office
abbrev pub unread : ℤ
unread = negsuc 9223372036854775807

-- what a machine's clock answers, by the whole seconds since 1970 that it was given
abbrev pub IsAnswerFor : Option ℕ → ℤ → Type 0
IsAnswerFor None now = now ≡ unread
IsAnswerFor (Some seconds) now =
    (seconds < 9223372036854775808 → now ≡ pos seconds)
    × (9223372036854775808 ≤ seconds → now ≡ unread)
