-- How a conversation uses its reader and its writer, in order, and which use may follow which.
use Rattle.std.specs.Prelude.{◌≡◌, ◌⊎◌, ℕ, ◌+◌, ◌≤◌, Bool, true, false, List, [], ◌∷◌, ◌++◌, length}
use Rattle.std.specs.Prelude.{◌*◌, ◌<◌, drop, max, min, take, if◌then◌else◌, Option, None, Some, Result}
use Rattle.std.specs.Prelude.{Ok, Err, ⊤}
use Rattle.std.specs.List.{AllByRecursion, flat_map}
use Rattle.std.specs.Io.KnownBytes.{Appends, Consumes}
use Rattle.std.specs.IoError.{error_kind}
use Rattle.std.specs.declared.io.Error.{Error}
use Rattle.std.specs.declared.io.ErrorKind.{ErrorKind}
use Rattle.std.specs.declared.io.ErrorKind.TheVariants.{Interrupted}
use Rattle.conversation.specs.declared.end.End.{End}
use Rattle.conversation.specs.declared.end.End.TheVariants.{Closed, BadMessage, ReadFault}
use Rattle.conversation.specs.declared.end.End.TheVariants.{WriteFault, Memory}
use Rattle.conversation.specs.declared.message.message_fault.MessageFault.{MessageFault}
use Rattle.conversation.specs.declared.wants.Wants.{Wants}
use Rattle.conversation.specs.Conversation.{IsNextText, Progress, interim_for}
use Rattle.conversation.specs.Exchanges.{MessageExchange, Timed, timed}
use Rattle.conversation.specs.message.Framing.{longest_body}
use Rattle.conversation.specs.message.Heads.{longest_head}
use Rattle.conversation.specs.Wants.{count_of, told_of, IsAwaited}

-- What came of one read or one write: bytes moved, none at the end of an input or where a writer
-- takes no more; or none, for the system interrupted it; or none, for it failed.
pub data Passed : Type 0 where
  moved : List ℕ → Passed
  interrupted : Passed
  failed : Passed

-- this kind of error says that nothing happened but that the system interrupted the call
abbrev pub interrupts : ErrorKind → Bool
interrupts Interrupted = true
interrupts _ = false

-- what came of a read into this buffer, or of a write of it
abbrev pub passed_of : List ℕ → Result ℕ Error → Passed
passed_of buffer (Ok count) = moved (take count buffer)
passed_of buffer (Err error) = if interrupts (error_kind error) then interrupted else failed

-- a read that asked for so many bytes, or a write that offered these, with what came of it
pub data Use : Type 0 where
  asked : ℕ → Passed → Use
  sent : List ℕ → Passed → Use

abbrev pub bytes_in : Passed → List ℕ
bytes_in (moved bytes) = bytes
bytes_in interrupted = []
bytes_in failed = []

-- the bytes that came by a use
abbrev pub came_by : Use → List ℕ
came_by (asked count passed) = bytes_in passed
came_by (sent offered passed) = []

-- the bytes that the writer took by a use
abbrev pub taken_by : Use → List ℕ
taken_by (asked count passed) = []
taken_by (sent offered passed) = bytes_in passed

-- all that was read
abbrev pub received : List Use → List ℕ
received uses = flat_map came_by uses

-- all that was written
abbrev pub written : List Use → List ℕ
written uses = flat_map taken_by uses

-- uses that are told grow by these, in order
abbrev pub Grows : Option (List Use) → Option (List Use) → List Use → Type 0
Grows None new uses = ⊤
Grows (Some told) None uses = ⊥
Grows (Some told) (Some tells) uses = tells ≡ told ++ uses

-- bytes moved, or the call was interrupted and may be made again
abbrev pub GoesOn : Passed → Type 0
GoesOn (moved []) = ⊥
GoesOn (moved (byte ∷ bytes)) = ⊤
GoesOn interrupted = ⊤
GoesOn failed = ⊥

-- no byte moved, though the call was not interrupted: an end, a failure, or a writer that takes no
-- more
abbrev pub Stops : Passed → Type 0
Stops passed = ¬ GoesOn passed

-- nothing failed by this use
abbrev pub IsSoundUse : Use → Type 0
IsSoundUse (asked count (moved bytes)) = ⊤
IsSoundUse (asked count interrupted) = ⊤
IsSoundUse (asked count failed) = ⊥
IsSoundUse (sent offered passed) = GoesOn passed

abbrev pub AreSound : List Use → Type 0
AreSound uses = AllByRecursion IsSoundUse uses

-- nor did the input end
abbrev pub IsOpen : Use → Type 0
IsOpen (asked count passed) = GoesOn passed
IsOpen (sent offered passed) = GoesOn passed

abbrev pub AreOpen : List Use → Type 0
AreOpen uses = AllByRecursion IsOpen uses

-- the least and the most bytes that one read may ask for, however few or many came before it
abbrev pub least_read : ℕ
least_read = 1024

abbrev pub greatest_read : ℕ
greatest_read = 65536

-- for how many bytes at the most the next read asks behind one that brought so many: for twice as
-- many, within those bounds
abbrev pub window_for : ℕ → ℕ
window_for count = min greatest_read (max least_read (count * 2))

-- for how many behind these uses, where it was for so many before them: the last read that brought
-- bytes tells it
abbrev pub window_behind : ℕ → List Use → ℕ
window_behind window [] = window
window_behind window (asked count (moved bytes) ∷ uses) =
    window_behind (window_for (length bytes)) uses
window_behind window (asked count interrupted ∷ uses) = window_behind window uses
window_behind window (asked count failed ∷ uses) = window_behind window uses
window_behind window (sent offered passed ∷ uses) = window_behind window uses

-- the most bytes of an input that are held at any time: those of the longest message
abbrev pub longest_message : ℕ
longest_message = longest_head + longest_body

-- Where these bytes were read and those written, so many more may be asked for: the replies to all
-- whole messages were written, none of them ends the conversation, and what is left is a beginning
-- of one more, to which the interim reply was written, if its head is there and expects one. No
-- more is asked for than the longest head still lacks, or its body.
pub record MayAsk
    {O : Type 0} (step : O → MessageExchange → O → Type 0) (old : Timed O)
    (read wrote : List ℕ) (count : ℕ) : Type 0 where
  pub rest : List ℕ
  pub mid : Timed O
  pub text : List ℕ
  pub answered : Progress (timed step) read rest old text mid
  pub wants : Wants
  pub awaited : IsAwaited rest wants
  pub said : wrote ≡ text ++ interim_for (told_of wants)
  pub within : count ≤ count_of wants
  pub held : length rest + count ≤ longest_message

-- this is all that is left of a text, of which so much was written behind another one
abbrev pub IsLeftOf : (front text wrote offered : List ℕ) → Type 0
IsLeftOf front text wrote offered = (part : ℕ) × (part < length text)
    × (wrote ≡ front ++ take part text) × (offered ≡ drop part text)

-- Where these bytes were read and those written, this may be offered: all that is left of the next
-- text that is written for them, and not a part of that.
pub record MayOffer
    {O : Type 0} (step : O → MessageExchange → O → Type 0) (refusal : MessageFault → List ℕ)
    (old : Timed O) (read wrote offered : List ℕ) : Type 0 where
  pub rest : List ℕ
  pub whole : List ℕ
  pub mid : Timed O
  pub answered : Progress (timed step) read rest old whole mid
  pub next : List ℕ
  pub new : Timed O
  pub is_next : IsNextText (timed step) refusal rest mid next new
  pub left : IsLeftOf whole next wrote offered

-- This use may follow those: a read where nothing failed and the input has not ended, which asks
-- for no more than the read before it allows, and by which no more comes than it asked for; and a
-- write where nothing failed, which offers all that is left of a text.
abbrev pub MayFollow : {O : Type 0} → (O → MessageExchange → O → Type 0)
    → (MessageFault → List ℕ) → Timed O → List Use → Use → Type 0
MayFollow step refusal old before (asked count passed) =
    AreOpen before × MayAsk step old (received before) (written before) count
    × (count ≤ window_behind least_read before) × (length (bytes_in passed) ≤ count)
MayFollow step refusal old before (sent offered passed) =
    AreSound before × MayOffer step refusal old (received before) (written before) offered

-- each of these uses may follow those before it
abbrev pub AreInTurn : {O : Type 0} → (O → MessageExchange → O → Type 0)
    → (MessageFault → List ℕ) → Timed O → List Use → List Use → Type 0
AreInTurn step refusal old before [] = ⊤
AreInTurn step refusal old before (one ∷ others) =
    MayFollow step refusal old before one
    × AreInTurn step refusal old (before ++ one ∷ []) others

-- By these uses all was read and written that was: each asked for no more than it may, after the
-- replies to all that came before had been written, or offered all that was left of a text, and
-- none followed an end.
pub record IsPaced
    {O : Type 0} (step : O → MessageExchange → O → Type 0) (refusal : MessageFault → List ℕ)
    (old : Timed O) (unread left held holds : Option (List ℕ)) (uses : List Use) : Type 0 where
  pub in_turn : AreInTurn step refusal old [] uses
  pub reads : Consumes unread left (received uses)
  pub writes : Appends held holds (written uses)

-- this was the last use
abbrev pub UsesEndWith : List Use → Use → Type 0
UsesEndWith uses last = (before : List Use) × (uses ≡ before ++ last ∷ [])

-- how many of the uses are reads
abbrev pub reads_in : List Use → ℕ
reads_in [] = 0
reads_in (asked count passed ∷ uses) = reads_in uses + 1
reads_in (sent offered passed ∷ uses) = reads_in uses

-- and how many are writes
abbrev pub writes_in : List Use → ℕ
writes_in [] = 0
writes_in (asked count passed ∷ uses) = writes_in uses
writes_in (sent offered passed ∷ uses) = writes_in uses + 1

-- the most reads of one run, and the most tries of one write: 2^64 - 1
abbrev pub most_tries : ℕ
most_tries = 18446744073709551615

-- By these uses writing ends: the last of them is a write that failed or took no byte, and was not
-- interrupted; or none failed, and so many were made that no more are.
abbrev pub EndsWriting : List Use → Type 0
EndsWriting uses =
    ((offered : List ℕ) × (passed : Passed) × Stops passed × UsesEndWith uses (sent offered passed))
    ⊎ (AreSound uses × (most_tries ≤ writes_in uses))

-- By these uses a run ends so: with a read fault where the last of them is a read that failed and
-- was not interrupted, or where one read more would be number 2^64; with a write fault where
-- writing ends; and else where nothing failed.
abbrev pub EndsBy : End → List Use → Type 0
EndsBy ReadFault uses =
    ((count : ℕ) × UsesEndWith uses (asked count failed))
    ⊎ (AreOpen uses × (reads_in uses ≡ most_tries))
EndsBy WriteFault uses = EndsWriting uses
EndsBy Closed uses = AreSound uses
EndsBy BadMessage uses = AreSound uses
EndsBy Memory uses = AreSound uses
