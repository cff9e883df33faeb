-- What reading and writing do to what a reader has left and a writer holds, and which uses that
-- were, where this is known.
use Rattle.std.specs.Prelude.{◌≡◌, ◌⊎◌, ℕ, ◌<◌, ◌≤◌, ⊤, List, [], ◌∷◌, ◌++◌, length, take, Option}
use Rattle.std.specs.Prelude.{Some, None, Result, Ok, Err}
use Rattle.std.specs.Io.KnownBytes.{Appends, Consumes, IsAtEnd, Keeps}
use Rattle.conversation.specs.declared.end.End.{End}
use Rattle.conversation.specs.declared.end.End.TheVariants.{Closed, BadMessage, ReadFault}
use Rattle.conversation.specs.declared.end.End.TheVariants.{WriteFault, Memory}
use Rattle.conversation.specs.Uses.{Use, asked, sent, Passed, moved, interrupted, failed, AreOpen}
use Rattle.conversation.specs.Uses.{EndsWriting, GoesOn, Grows, IsLeftOf, Stops, bytes_in}
use Rattle.conversation.specs.Uses.{window_for, written}

-- the bytes that a writer holds, and the uses that a line tells
abbrev pub Output : Type 0
Output = Option (List ℕ) × Option (List Use)

-- writes were made, and none after one that failed
abbrev pub AreSends : List Use → Type 0
AreSends [] = ⊤
AreSends (asked count passed ∷ uses) = ⊥
AreSends (sent offered passed ∷ uses) =
    (GoesOn passed × AreSends uses) ⊎ (Stops passed × (uses ≡ []))

-- what a write may offer where this was written before
abbrev pub Offer : Type 1
Offer = (wrote offered : List ℕ) → Type 0

-- behind what was written before each write offers what it may
abbrev pub AreOffers : Offer → (wrote : List ℕ) → List Use → Type 0
AreOffers May wrote [] = ⊤
AreOffers May wrote (asked count passed ∷ uses) = AreOffers May wrote uses
AreOffers May wrote (sent offered passed ∷ uses) =
    May wrote offered × AreOffers May (wrote ++ bytes_in passed) uses

-- a text of which nothing was written is offered whole
abbrev pub IsOffered : (text : List ℕ) → Offer
IsOffered text wrote offered = (wrote ≡ []) × (offered ≡ text)

-- all that is left of the first of two texts is offered, or where that was written, of the second
abbrev pub IsLeftOfEither : (first second : List ℕ) → Offer
IsLeftOfEither first second wrote offered =
    IsLeftOf [] first wrote offered ⊎ IsLeftOf first second wrote offered

-- nothing is offered
abbrev pub IsNothing : Offer
IsNothing wrote offered = ⊥

-- the writer took this text, by such uses, of which each offered what it may
pub record Writes (May : Offer) (old new : Output) (text : List ℕ) : Type 0 where
  pub uses : List Use
  pub told : Grows old.1 new.1 uses
  pub sends : AreSends uses
  pub offers : AreOffers May [] uses
  pub text_is : text ≡ written uses
  pub holds : Appends old.0 new.0 text

-- the same, by uses that were all whole
pub record WritesWhole (May : Offer) (old new : Output) (text : List ℕ) : Type 0 where
  pub writes : Writes May old new text
  pub open_still : AreOpen writes.uses

-- writes after which a run ends so: a write fault ends writing, and no other end comes of a write
-- that failed
abbrev pub SendsEnd : End → List Use → Type 0
SendsEnd ReadFault uses = ⊥
SendsEnd WriteFault uses = EndsWriting uses
SendsEnd Closed uses = AreOpen uses
SendsEnd BadMessage uses = AreOpen uses
SendsEnd Memory uses = AreOpen uses

-- the writer took this text, by uses after which a run ends so
pub record WritesLast (end : End) (May : Offer) (old new : Output) (text : List ℕ) : Type 0 where
  pub writes : Writes May old new text
  pub ends : SendsEnd end writes.uses

-- the writer took a beginning of the text, and not all of it
abbrev pub IsBeginning : Offer → Output → Output → List ℕ → Type 0
IsBeginning May old new text =
    (part : ℕ) × (part < length text) × WritesLast WriteFault May old new (take part text)

-- the text was written whole, or the writer failed after a beginning of it
abbrev pub IsOutputSent : {A : Type 0} → Offer → Output → Output → List ℕ → Result A End
    → Type 0
IsOutputSent May old new text (Ok _) = WritesWhole May old new text
IsOutputSent May old new text (Err WriteFault) = IsBeginning May old new text
IsOutputSent May old new text (Err end) = ⊥

-- so many bytes stand at the front of what was read, none only at the end; or nothing was read
abbrev pub ReadsAt : {E : Type 0} → Option (List ℕ) → Option (List ℕ) → List ℕ → Result ℕ E → Type 0
ReadsAt old new bytes (Ok count) = Consumes old new (take count bytes) × (count ≡ 0 → IsAtEnd new)
ReadsAt old new bytes (Err _) = Keeps old new

-- one read was made, which asked for no more than was wanted, and by which no more came than that
abbrev pub AsksOnce : Option (List Use) → Option (List Use) → ℕ → Passed → Type 0
AsksOnce told tells wanted passed =
    (count : ℕ) × (count ≤ wanted) × (length (bytes_in passed) ≤ count)
    × Grows told tells (asked count passed ∷ [])

-- bytes were read behind what was there, none only at the end of the input; or the read was
-- interrupted, and nothing was read; or nothing was, for that end
abbrev pub IsInputRead : (told tells : Option (List Use)) → Option (List ℕ) → Option (List ℕ)
    → (wanted : ℕ) → List ℕ → List ℕ → Result (Option ℕ) End → Type 0
IsInputRead told tells old new wanted before after (Ok (Some count)) =
    (bytes : List ℕ) × (length bytes ≡ count) × (after ≡ before ++ bytes)
    × Consumes old new bytes × (count ≡ 0 → IsAtEnd new) × AsksOnce told tells wanted (moved bytes)
IsInputRead told tells old new wanted before after (Ok None) =
    Keeps old new × (after ≡ before) × AsksOnce told tells wanted interrupted
IsInputRead told tells old new wanted before after (Err ReadFault) =
    Keeps old new × (after ≡ before) × AsksOnce told tells wanted failed
IsInputRead told tells old new wanted before after (Err Memory) =
    Keeps old new × (after ≡ before) × Grows told tells []
IsInputRead told tells old new wanted before after (Err end) = ⊥

-- for how many bytes the next read asks at the most, where it was for so many before this one
abbrev pub next_window : (window : ℕ) → Result (Option ℕ) End → ℕ
next_window window (Ok (Some count)) = window_for count
next_window window (Ok None) = window
next_window window (Err end) = window

-- the writer took some bytes of a text; or writing ended, and it took none
abbrev pub IsPart : Output → Output → List ℕ → Result ℕ End → Type 0
IsPart old new text (Ok count) = (0 < count) × (count ≤ length text)
    × WritesWhole (IsOffered text) old new (take count text)
IsPart old new text (Err WriteFault) = WritesLast WriteFault (IsOffered text) old new []
IsPart old new text (Err end) = ⊥
