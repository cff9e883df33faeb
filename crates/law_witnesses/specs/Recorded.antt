-- Uses as a line records them.
use Rattle.std.specs.Prelude.{◌≤◌, ℕ, Bool, true, false, List, [], ◌∷◌, map, Result, Ok, Err, ⊤}
use Rattle.either.specs.declared.Either.{Either}
use Rattle.either.specs.declared.Either.TheVariants.{Left, Right}
use Rattle.http_server.specs.declared.log.Log.{Log}
use Rattle.conversation.specs.Uses.{Passed, Use, asked, failed, interrupted, least_read, moved}
use Rattle.conversation.specs.Uses.{sent}

-- bytes that were noted
abbrev pub Noted : Type 0
Noted = Log ℕ Unit

abbrev pub bytes_in : Noted → List ℕ
bytes_in noted = map (λ b. b.0) noted.items

-- what came of a use: these bytes moved, or none did, since it was interrupted or failed
abbrev pub passed_in : Result Noted Bool → Passed
passed_in (Ok bytes) = moved (bytes_in bytes)
passed_in (Err true) = interrupted
passed_in (Err false) = failed

-- a read for so many bytes, or a write of these, and what came of it
abbrev pub use_in : Either ℕ Noted → Passed → Use
use_in (Left count) passed = asked count passed
use_in (Right bytes) passed = sent (bytes_in bytes) passed

-- the uses that were recorded, in order
abbrev pub uses_in : Log (Either ℕ Noted) (Result Noted Bool) → List Use
uses_in made = map (λ one. use_in one.0 (passed_in one.1)) made.items

-- the first of these uses, if there is one, is a read of at most 1024 bytes: nothing was written
-- before it
abbrev pub BeginWithRead : List Use → Type 0
BeginWithRead [] = ⊤
BeginWithRead (asked count passed ∷ uses) = count ≤ least_read
BeginWithRead (sent offered passed ∷ uses) = ⊥
