-- Uses of a reader and a writer, one after another.
use Rattle.std.proofs.Common.{◌≡◌, ◌≢◌, ℕ, zero, suc, ◌+◌, ◌<◌, ◌≤◌, ◌↔◌, inl, inr, Bool, true, false, IsTrue, if◌then◌else◌, Result, Ok, Err, List, [], ◌∷◌, ◌++◌, length, Option, None, Some, refl, ap, sym, subst, subst₂, ◌∙◌, append_assoc, append-nil, arith, take, drop}
use Rattle.std.proofs.Math.Seq.{take-add, take-append_seam, drop-append_seam}
use Rattle.std.proofs.lemmas.List.{length-append, take-append-le}
use Rattle.std.proofs.lemmas.Bool.{false≢true}
use Rattle.std.specs.IoError.{error_kind}
use Rattle.std.specs.declared.io.Error.{Error}
use Rattle.std.specs.declared.io.ErrorKind.{ErrorKind}
use Rattle.std.specs.declared.io.ErrorKind.TheVariants.{Interrupted}
use Rattle.std.proofs.KnownBytes.{Appends-kept, Appends-nil, Appends-trans}
use Rattle.std.proofs.lemmas.Grind.{flat_map-append}
use Rattle.std.specs.Io.KnownBytes.{Appends, Keeps}
use Rattle.conversation.specs.declared.end.End.{End}
use Rattle.conversation.specs.declared.end.End.TheVariants.{Closed, BadMessage, ReadFault, WriteFault, Memory}
use Rattle.conversation.specs.Ends.{AreOffers, AreSends, IsLeftOfEither, IsOffered, IsPart, IsOutputSent, Offer, Output, SendsEnd, Writes, WritesLast, WritesWhole}
use Rattle.conversation.specs.declared.message.message_fault.MessageFault.{MessageFault}
use Rattle.conversation.specs.Exchanges.{Timed}
use Rattle.conversation.specs.Uses.{Use, asked, sent, Passed, moved, interrupted, failed, AreInTurn, AreOpen, AreSound, EndsBy, UsesEndWith, EndsWriting, GoesOn, Grows, IsLeftOf, IsOpen, IsSoundUse, MayOffer, Stops, bytes_in, came_by, interrupts, most_tries, passed_of, reads_in, received, taken_by, window_behind, window_for, writes_in, written}
use Rattle.conversation.proofs.ProgressLemmas.{Step}

-- with no use more, what is told stays
pub Grows-nil : (a : Option (List Use)) → Grows a a []
Grows-nil None = tt
Grows-nil (Some told) = sym (append-nil told)

-- uses that are told grow by some, and then by others
pub Grows-trans : (a b c : Option (List Use)) (xs ys : List Use) → Grows a b xs → Grows b c ys → Grows a c (xs ++ ys)
Grows-trans None b c xs ys p q = tt
Grows-trans (Some x) None c xs ys p q = absurd p
Grows-trans (Some x) (Some y) None xs ys p q = absurd q
Grows-trans (Some x) (Some y) (Some z) xs ys p q = q ∙ ap (λ l. l ++ ys) p ∙ append_assoc x xs ys

-- what came by some uses and then by others came by all of them
pub received-append : (xs ys : List Use) → received (xs ++ ys) ≡ received xs ++ received ys
received-append = flat_map-append came_by

-- what was written by some uses and then by others was written by all of them
pub written-append : (xs ys : List Use) → written (xs ++ ys) ≡ written xs ++ written ys
written-append = flat_map-append taken_by

-- uses that neither failed nor ended the input, and such ones after them, are such
pub AreOpen-append : (xs ys : List Use) → AreOpen xs → AreOpen ys → AreOpen (xs ++ ys)
AreOpen-append [] ys p q = q
AreOpen-append (x ∷ xs) ys p q = (p.0, AreOpen-append xs ys p.1 q)

-- uses by which nothing failed, and such ones after them, are such
pub AreSound-append : (xs ys : List Use) → AreSound xs → AreSound ys → AreSound (xs ++ ys)
AreSound-append [] ys p q = q
AreSound-append (x ∷ xs) ys p q = (p.0, AreSound-append xs ys p.1 q)

open_sound : (x : Use) → IsOpen x → IsSoundUse x
open_sound (asked count (moved bytes)) p = tt
open_sound (asked count interrupted) p = tt
open_sound (asked count failed) p = absurd p
open_sound (sent offered passed) p = p

-- nothing failed by uses that neither failed nor ended the input
pub are_sound : (xs : List Use) → AreOpen xs → AreSound xs
are_sound [] p = tt
are_sound (x ∷ xs) p = (open_sound x p.0, are_sound xs p.1)

AreSends-append : (xs ys : List Use) → AreSends xs → AreOpen xs → AreSends ys → AreSends (xs ++ ys)
AreSends-append [] ys p o q = q
AreSends-append (asked count passed ∷ xs) ys p o q = absurd p
AreSends-append (sent offered passed ∷ xs) ys (inl (on, p)) o q = inl (on, AreSends-append xs ys p o.1 q)
AreSends-append (sent offered passed ∷ xs) ys (inr (stops, none)) o q = absurd (stops o.0)

-- nothing comes by writes
pub sends_receive : (xs : List Use) → AreSends xs → received xs ≡ []
sends_receive [] p = refl
sends_receive (asked count passed ∷ xs) p = absurd p
sends_receive (sent offered passed ∷ xs) (inl (on, p)) = sends_receive xs p
sends_receive (sent offered passed ∷ xs) (inr (stops, none)) = ap received none

-- the reads of some uses and of others add up
pub reads_in-append : (xs ys : List Use) → reads_in (xs ++ ys) ≡ reads_in xs + reads_in ys
reads_in-append [] ys = omega arith
reads_in-append (asked count passed ∷ xs) ys = omega (arith, reads_in-append xs ys)
reads_in-append (sent offered passed ∷ xs) ys = reads_in-append xs ys

writes_in-append : (xs ys : List Use) → writes_in (xs ++ ys) ≡ writes_in xs + writes_in ys
writes_in-append [] ys = omega arith
writes_in-append (asked count passed ∷ xs) ys = writes_in-append xs ys
writes_in-append (sent offered passed ∷ xs) ys = omega (arith, writes_in-append xs ys)

-- what is asked for behind some uses and then others is asked for behind all of them
pub window_behind-append : (window : ℕ) (xs ys : List Use) → window_behind window (xs ++ ys) ≡ window_behind (window_behind window xs) ys
window_behind-append window [] ys = refl
window_behind-append window (asked count (moved bytes) ∷ xs) ys = window_behind-append (window_for (length bytes)) xs ys
window_behind-append window (asked count interrupted ∷ xs) ys = window_behind-append window xs ys
window_behind-append window (asked count failed ∷ xs) ys = window_behind-append window xs ys
window_behind-append window (sent offered passed ∷ xs) ys = window_behind-append window xs ys

-- writes change nothing of it
pub sends_keep_window : (window : ℕ) (xs : List Use) → AreSends xs → window_behind window xs ≡ window
sends_keep_window window [] p = refl
sends_keep_window window (asked count passed ∷ xs) p = absurd p
sends_keep_window window (sent offered passed ∷ xs) (inl (on, p)) = sends_keep_window window xs p
sends_keep_window window (sent offered passed ∷ xs) (inr (stops, none)) = ap (window_behind window) none

-- none of the uses that write is a read
pub sends_read_none : (xs : List Use) → AreSends xs → reads_in xs ≡ 0
sends_read_none [] p = refl
sends_read_none (asked count passed ∷ xs) p = absurd p
sends_read_none (sent offered passed ∷ xs) (inl (on, p)) = sends_read_none xs p
sends_read_none (sent offered passed ∷ xs) (inr (stops, none)) = ap reads_in none

ends_with_after : (xs ys : List Use) (last : Use) → UsesEndWith ys last → UsesEndWith (xs ++ ys) last
ends_with_after xs ys last (before, is) =
    (xs ++ before, ap (λ l. xs ++ l) is ∙ sym (append_assoc xs before (last ∷ [])))

ends_writing_after : (xs ys : List Use) → AreSound xs → EndsWriting ys → EndsWriting (xs ++ ys)
ends_writing_after xs ys o (inl (offered, passed, stops, last)) =
    inl (offered, passed, stops, ends_with_after xs ys (sent offered passed) last)
ends_writing_after xs ys o (inr (sound, many)) =
    inr (AreSound-append xs ys o sound, omega (arith, many, writes_in-append xs ys))

sends_end_after : (end : End) (xs ys : List Use) → AreOpen xs → SendsEnd end ys → SendsEnd end (xs ++ ys)
sends_end_after ReadFault xs ys o p = absurd p
sends_end_after WriteFault xs ys o p = ends_writing_after xs ys (are_sound xs o) p
sends_end_after Closed xs ys o p = AreOpen-append xs ys o p
sends_end_after BadMessage xs ys o p = AreOpen-append xs ys o p
sends_end_after Memory xs ys o p = AreOpen-append xs ys o p

-- texts end a run as they say, where nothing had failed
pub ends_by : (end : End) (xs ys : List Use) → AreSound xs → SendsEnd end ys → EndsBy end (xs ++ ys)
ends_by ReadFault xs ys o p = absurd p
ends_by WriteFault xs ys o p = ends_writing_after xs ys o p
ends_by Closed xs ys o p = AreSound-append xs ys o (are_sound ys p)
ends_by BadMessage xs ys o p = AreSound-append xs ys o (are_sound ys p)
ends_by Memory xs ys o p = AreSound-append xs ys o (are_sound ys p)

-- uses in turn, and more uses in turn after them, are in turn
pub AreInTurn-append : {O : Type 0} (step : Step O) (refusal : MessageFault → List ℕ) (old : Timed O) (before xs ys : List Use)
    → AreInTurn step refusal old before xs → AreInTurn step refusal old (before ++ xs) ys → AreInTurn step refusal old before (xs ++ ys)
AreInTurn-append step refusal old before [] ys p q = subst (λ l. AreInTurn step refusal old l ys) (append-nil before) q
AreInTurn-append step refusal old before (x ∷ xs) ys p q = (
  p.0,
  AreInTurn-append step refusal old (before ++ x ∷ []) xs ys p.1
      (subst (λ l. AreInTurn step refusal old l ys) (sym (append_assoc before (x ∷ []) xs)) q),
)

-- behind a write nothing more came
no_more_came : (before : List Use) (offered : List ℕ) (passed : Passed) → received before ≡ received (before ++ sent offered passed ∷ [])
no_more_came before offered passed = sym (received-append before (sent offered passed ∷ []) ∙ append-nil (received before))

-- and what it moved was written
one_more_written : (before : List Use) (offered : List ℕ) (passed : Passed)
    → written before ++ bytes_in passed ≡ written (before ++ sent offered passed ∷ [])
one_more_written before offered passed =
    ap (λ l. written before ++ l) (sym (append-nil (bytes_in passed))) ∙ sym (written-append before (sent offered passed ∷ []))

-- writes are in turn where nothing failed before, and each offers what it may
pub sends_in_turn : {O : Type 0} (step : Step O) (refusal : MessageFault → List ℕ) (old : Timed O) (before xs : List Use) → AreSound before
    → AreSends xs → AreOffers (MayOffer step refusal old (received before)) (written before) xs → AreInTurn step refusal old before xs
sends_in_turn step refusal old before [] o p may = tt
sends_in_turn step refusal old before (asked count passed ∷ xs) o p may = absurd p
sends_in_turn step refusal old before (sent offered passed ∷ xs) o (inl (on, p)) may =
    let later = before ++ sent offered passed ∷ [] in (
      (o, may.0),
      sends_in_turn step refusal old later xs (AreSound-append before (sent offered passed ∷ []) o (on, tt)) p
          (subst₂ (λ (read wrote : List ℕ). AreOffers (MayOffer step refusal old read) wrote xs)
          (no_more_came before offered passed) (one_more_written before offered passed) may.1),
    )
sends_in_turn step refusal old before (sent offered passed ∷ xs) o (inr (stops, none)) may =
    ((o, may.0), subst (λ l. AreInTurn step refusal old (before ++ sent offered passed ∷ []) l) (sym none) tt)

-- ---- what writes offer

-- what is offered by some uses and what by others behind them is offered by all of them
pub AreOffers-append : (May : Offer) (wrote : List ℕ) (xs ys : List Use) → AreOffers May wrote xs → AreOffers May (wrote ++ written xs) ys
    → AreOffers May wrote (xs ++ ys)
AreOffers-append May wrote [] ys p q = subst (λ l. AreOffers May l ys) (append-nil wrote) q
AreOffers-append May wrote (asked count passed ∷ xs) ys p q = AreOffers-append May wrote xs ys p q
AreOffers-append May wrote (sent offered passed ∷ xs) ys p q = (
  p.0,
  AreOffers-append May (wrote ++ bytes_in passed) xs ys p.1
      (subst (λ l. AreOffers May l ys) (sym (append_assoc wrote (bytes_in passed) (written xs))) q),
)

-- what may be offered behind some text may be so behind a longer one
abbrev pub Behind : (front : List ℕ) → Offer → Offer → Type 0
Behind front May Can = (wrote offered : List ℕ) → May wrote offered → Can (front ++ wrote) offered

-- and so may what uses offer
pub offers_behind : (front : List ℕ) (May Can : Offer) → Behind front May Can → (wrote : List ℕ) (xs : List Use) → AreOffers May wrote xs
    → AreOffers Can (front ++ wrote) xs
offers_behind front May Can can wrote [] p = tt
offers_behind front May Can can wrote (asked count passed ∷ xs) p = offers_behind front May Can can wrote xs p
offers_behind front May Can can wrote (sent offered passed ∷ xs) p = (
  can wrote offered p.0,
  subst (λ l. AreOffers Can l xs) (sym (append_assoc front wrote (bytes_in passed))) (offers_behind front May Can can (wrote ++ bytes_in passed) xs p.1),
)

-- the empty text is written whole by no use at all
pub whole_none : {May : Offer} (a : Output) → WritesWhole May a a []
whole_none a = record {
  writes = record { uses = []; told = Grows-nil a.1; sends = tt; offers = tt; text_is = refl; holds = Appends-nil a.0 };
  open_still = tt;
}

-- what was written by writes that offer what they may was written by ones that offer what is wider
pub writes_wider : (May Can : Offer) (a b : Output) (text : List ℕ) → Behind [] May Can → Writes May a b text → Writes Can a b text
writes_wider May Can a b text can w = record {
  uses = w.uses;
  told = w.told;
  sends = w.sends;
  offers = offers_behind [] May Can can [] w.uses w.offers;
  text_is = w.text_is;
  holds = w.holds;
}

-- the same of a text that was written whole
pub whole_wider : (May Can : Offer) (a b : Output) (text : List ℕ) → Behind [] May Can → WritesWhole May a b text → WritesWhole Can a b text
unfolding writes_wider
whole_wider May Can a b text can w = record { writes = writes_wider May Can a b text can w.writes; open_still = w.open_still }

-- and of one where writing ends
pub last_wider : (end : End) (May Can : Offer) (a b : Output) (text : List ℕ) → Behind [] May Can → WritesLast end May a b text
    → WritesLast end Can a b text
unfolding writes_wider
last_wider end May Can a b text can w = record { writes = writes_wider May Can a b text can w.writes; ends = w.ends }

-- a text written whole, and what was written of one after it, are written together
pub writes_after : (May Then : Offer) (a b c : Output) (first second : List ℕ) → Behind first Then May → WritesWhole May a b first
    → Writes Then b c second → Writes May a c (first ++ second)
writes_after May Then a b c first second can x y = record {
  uses = x.writes.uses ++ y.uses;
  told = Grows-trans a.1 b.1 c.1 _ _ x.writes.told y.told;
  sends = AreSends-append _ _ x.writes.sends x.open_still y.sends;
  offers = AreOffers-append May [] x.writes.uses y.uses x.writes.offers
      (subst (λ l. AreOffers May l y.uses) (append-nil first ∙ x.writes.text_is) (offers_behind first Then May can [] y.uses y.offers));
  text_is =
      ap (λ bytes. bytes ++ second) x.writes.text_is ∙ ap (λ bytes. written x.writes.uses ++ bytes) y.text_is
      ∙ sym (written-append x.writes.uses y.uses);
  holds = Appends-trans a.0 b.0 c.0 first second x.writes.holds y.holds;
}

-- the same where writing the second one ends
pub last_after : (end : End) (May Then : Offer) (a b c : Output) (first second : List ℕ) → Behind first Then May → WritesWhole May a b first
    → WritesLast end Then b c second → WritesLast end May a c (first ++ second)
unfolding writes_after
last_after end May Then a b c first second can x y = record {
  writes = writes_after May Then a b c first second can x y.writes;
  ends = sends_end_after end x.writes.uses y.writes.uses x.open_still y.ends;
}

-- two texts of which each was written whole are written whole together
pub whole_after : (May Then : Offer) (a b c : Output) (first second : List ℕ) → Behind first Then May → WritesWhole May a b first
    → WritesWhole Then b c second → WritesWhole May a c (first ++ second)
unfolding writes_after
whole_after May Then a b c first second can x y = record {
  writes = writes_after May Then a b c first second can x y.writes;
  open_still = AreOpen-append x.writes.uses y.writes.uses x.open_still y.open_still;
}

-- a write by which bytes were taken, or that was interrupted
pub some_taken : (a b : Output) (text : List ℕ) (passed : Passed) → Grows a.1 b.1 (sent text passed ∷ []) → Appends a.0 b.0 (bytes_in passed)
    → GoesOn passed → WritesWhole (IsOffered text) a b (bytes_in passed)
some_taken a b text passed told holds on = record {
  writes = record {
    uses = sent text passed ∷ [];
    told = told;
    sends = inl (on, tt);
    offers = ((refl, refl), tt);
    text_is = sym (append-nil (bytes_in passed));
    holds = holds;
  };
  open_still = (on, tt);
}

-- a write by which none was, and that was not
pub none_taken : (a b : Output) (text : List ℕ) (passed : Passed) → Grows a.1 b.1 (sent text passed ∷ []) → Appends a.0 b.0 (bytes_in passed)
    → Stops passed → WritesLast WriteFault (IsOffered text) a b (bytes_in passed)
none_taken a b text passed told holds stops = record {
  writes = record {
    uses = sent text passed ∷ [];
    told = told;
    sends = inr (stops, refl);
    offers = ((refl, refl), tt);
    text_is = sym (append-nil (bytes_in passed));
    holds = holds;
  };
  ends = inl (text, passed, stops, ([], refl));
}

-- what is left of a text behind its first n bytes is offered whole where those were written
offers_rest : (text rest : List ℕ) (n : ℕ) → n < length text → rest ≡ drop n text → Behind (take n text) (IsOffered rest) (IsLeftOf [] text)
offers_rest text rest n short is wrote offered (none, whole) =
    (n, short, ap (λ bytes. take n text ++ bytes) none ∙ append-nil (take n text), whole ∙ is)

-- a further part of a text, behind its first n bytes
pub whole_part : (a b c : Output) (text rest : List ℕ) (n m : ℕ) → n < length text → rest ≡ drop n text
    → WritesWhole (IsLeftOf [] text) a b (take n text)
    → WritesWhole (IsOffered rest) b c (take m rest) → WritesWhole (IsLeftOf [] text) a c (take (n + m) text)
whole_part a b c text rest n m short is x y =
    subst (λ bytes. WritesWhole (IsLeftOf [] text) a c bytes) (ap (λ bytes. take n text ++ take m bytes) is ∙ sym (take-add n m text))
    (whole_after (IsLeftOf [] text) (IsOffered rest) a b c (take n text) (take m rest) (offers_rest text rest n short is) x y)

-- where writing ends behind the first n bytes of a text
pub sent_before : (A : Type 0) (a b c : Output) (text rest : List ℕ) (n : ℕ) (end : End) → n < length text → rest ≡ drop n text
    → WritesWhole (IsLeftOf [] text) a b (take n text)
    → IsPart b c rest (Err end) → IsOutputSent {A = A} (IsLeftOf [] text) a c text (Err end)
sent_before A a b c text rest n Closed short same x is = absurd is
sent_before A a b c text rest n BadMessage short same x is = absurd is
sent_before A a b c text rest n ReadFault short same x is = absurd is
sent_before A a b c text rest n WriteFault short same x is = (
  n,
  short,
  subst (λ bytes. WritesLast WriteFault (IsLeftOf [] text) a c bytes) (append-nil (take n text))
      (last_after WriteFault (IsLeftOf [] text) (IsOffered rest) a b c (take n text) [] (offers_rest text rest n short same) x is),
)
sent_before A a b c text rest n Memory short same x is = absurd is

-- a text with a beginning of the next one is a beginning of both
pub take_behind : (front text : List ℕ) (part : ℕ) → take (length front + part) (front ++ text) ≡ front ++ take part text
take_behind front text part =
    take-add (length front) part (front ++ text)
    ∙ ap (λ bytes. bytes ++ take part (drop (length front) (front ++ text))) (take-append_seam front text)
    ∙ ap (λ bytes. front ++ take part bytes) (drop-append_seam front text)

-- what is left of the first of two texts is so of either
offers_first : (first second : List ℕ) → Behind [] (IsLeftOf [] first) (IsLeftOfEither first second)
offers_first first second wrote offered left = inl left

-- and what is left of the second one, behind the first
offers_second : (first second : List ℕ) → Behind first (IsLeftOf [] second) (IsLeftOfEither first second)
offers_second first second wrote offered (part, short, is, rest) = inr (part, short, ap (λ bytes. first ++ bytes) is, rest)

-- a text that was written whole, and one that was handed over behind it, were so together
pub sent_behind : {A : Type 0} (a b c : Output) (first second : List ℕ) (r : Result A End) → WritesWhole (IsLeftOf [] first) a b first
    → IsOutputSent (IsLeftOf [] second) b c second r → IsOutputSent (IsLeftOfEither first second) a c (first ++ second) r
sent_behind a b c first second (Ok done) x is =
    whole_after (IsLeftOfEither first second) (IsLeftOf [] second) a b c first second (offers_second first second)
    (whole_wider (IsLeftOf [] first) (IsLeftOfEither first second) a b first (offers_first first second) x) is
sent_behind a b c first second (Err Closed) x is = absurd is
sent_behind a b c first second (Err BadMessage) x is = absurd is
sent_behind a b c first second (Err ReadFault) x is = absurd is
sent_behind a b c first second (Err Memory) x is = absurd is
sent_behind a b c first second (Err WriteFault) x (part, short, last) = (
  length first + part,
  omega (arith, short, length-append first second),
  subst (λ bytes. WritesLast WriteFault (IsLeftOfEither first second) a c bytes) (sym (take_behind first second part))
      (last_after WriteFault (IsLeftOfEither first second) (IsLeftOf [] second) a b c first (take part second) (offers_second first second)
      (whole_wider (IsLeftOf [] first) (IsLeftOfEither first second) a b first (offers_first first second) x) last),
)

-- where the first text was not written whole, both were not
pub sent_neither : (A B : Type 0) (a b : Output) (first second : List ℕ) (end : End) → IsOutputSent {A = A} (IsLeftOf [] first) a b first (Err end)
    → IsOutputSent {A = B} (IsLeftOfEither first second) a b (first ++ second) (Err end)
sent_neither A B a b first second Closed is = absurd is
sent_neither A B a b first second BadMessage is = absurd is
sent_neither A B a b first second ReadFault is = absurd is
sent_neither A B a b first second Memory is = absurd is
sent_neither A B a b first second WriteFault (part, short, last) = (
  part,
  omega (arith, short, length-append first second),
  subst (λ bytes. WritesLast WriteFault (IsLeftOfEither first second) a b bytes) (sym (take-append-le part first second (omega (arith, short))))
      (last_wider WriteFault (IsLeftOf [] first) (IsLeftOfEither first second) a b _ (offers_first first second) last),
)

-- so many writes of which each was interrupted
pub record AreInterrupted (text : List ℕ) (a b : Output) (count : ℕ) : Type 0 where
  pub whole : WritesWhole (IsOffered text) a b []
  pub counted : writes_in whole.writes.uses ≡ count

-- where no write was made, none was interrupted
pub interrupted_none : (text : List ℕ) (a : Output) → AreInterrupted text a a 0
unfolding whole_none
interrupted_none text a = record { whole = whole_none a; counted = refl }

-- what is offered where nothing was written is so behind nothing
offers_still : (text : List ℕ) → Behind [] (IsOffered text) (IsOffered text)
offers_still text wrote offered is = is

-- a further write behind ones that were interrupted
pub whole_then : (text : List ℕ) (a b c : Output) (count : ℕ) (bytes : List ℕ) → AreInterrupted text a b count
    → WritesWhole (IsOffered text) b c bytes → WritesWhole (IsOffered text) a c bytes
whole_then text a b c count bytes x one =
    whole_after (IsOffered text) (IsOffered text) a b c [] bytes (offers_still text) x.whole one

-- the same where it ends writing
pub last_then : (text : List ℕ) (a b c : Output) (count : ℕ) (bytes : List ℕ) → AreInterrupted text a b count
    → WritesLast WriteFault (IsOffered text) b c bytes → WritesLast WriteFault (IsOffered text) a c bytes
last_then text a b c count bytes x one =
    last_after WriteFault (IsOffered text) (IsOffered text) a b c [] bytes (offers_still text) x.whole one

-- one more write that was interrupted counts as one more
pub interrupted_again : (text : List ℕ) (a b c : Output) (count : ℕ) → AreInterrupted text a b count
    → Grows b.1 c.1 (sent text interrupted ∷ []) → Keeps b.0 c.0 → AreInterrupted text a c (count + 1)
unfolding writes_after whole_after some_taken
interrupted_again text a b c count x told keeps =
    let one = some_taken b c text interrupted told (Appends-kept b.0 b.0 c.0 [] (Appends-nil b.0) keeps) tt in
    record {
      whole = whole_after (IsOffered text) (IsOffered text) a b c [] [] (offers_still text) x.whole one;
      counted = omega (arith, writes_in-append x.whole.writes.uses (sent text interrupted ∷ []), x.counted);
    }

-- none is left to be made
pub interrupted_out : (text : List ℕ) (a b : Output) (count : ℕ) → most_tries ≤ count → AreInterrupted text a b count
    → WritesLast WriteFault (IsOffered text) a b []
interrupted_out text a b count all x = record {
  writes = x.whole.writes;
  ends = inr (are_sound _ x.whole.open_still, omega (arith, all, x.counted));
}

-- ---- what a read or a write gave

not_interrupted : (kind : ErrorKind) → kind ≢ Interrupted → interrupts kind ≡ false
not_interrupted Interrupted other = absurd (other refl)
not_interrupted _ other = refl

-- what passed by a call that was interrupted, or failed, as a test of its error said
pub passed_by : (buffer : List ℕ) (error : Error) (test : Bool) → (IsTrue test ↔ (error_kind error ≡ Interrupted))
    → passed_of buffer (Err error) ≡ (if test then interrupted else failed)
passed_by buffer error true is = ap (λ kind. if interrupts kind then interrupted else failed) (is.0 refl)
passed_by buffer error false is = ap (λ b. if b then interrupted else failed) (not_interrupted (error_kind error) (λ kind. false≢true (is.1 kind)))

-- a call that moved some bytes of a text goes on
pub some_go_on : (n : ℕ) (text : List ℕ) → ¬ (n ≡ 0) → 0 < length text → GoesOn (moved (take n text))
some_go_on zero text some long = absurd (some refl)
some_go_on (suc n) [] some long = omega (arith, long)
some_go_on (suc n) (byte ∷ bytes) some long = tt

-- a call that moved no byte of a text stops
pub none_stops : (n : ℕ) (text : List ℕ) → n ≡ 0 → Stops (moved (take n text))
none_stops n text none on = subst (λ k. GoesOn (moved (take k text))) none on
