-- A run, read by read.
use Rattle.std.proofs.Common.{◌≡◌, ℕ, ◌+◌, ◌≤◌, inl, inr, suc, Bool, min, List, [], ◌∷◌, ◌++◌, length, Option, None, Some, Ok, Err, refl, ap, sym, subst, subst₂, ◌∙◌, arith, append_assoc, append-nil, lit<}
use Rattle.std.proofs.lemmas.List.{length-append}
use Rattle.std.specs.Io.KnownBytes.{Appends, Consumes}
use Rattle.std.proofs.KnownBytes.{Appends-nil, Appends-trans, Consumes-kept, Consumes-nil, Consumes-trans}
use Rattle.httparse.specs.Grammar.{print_request}
use Rattle.conversation.specs.declared.end.End.{End}
use Rattle.conversation.specs.declared.end.End.TheVariants.{Closed, BadMessage, ReadFault, WriteFault, Memory}
use Rattle.conversation.specs.declared.message.message_fault.MessageFault.{MessageFault}
use Rattle.conversation.specs.declared.message.message_fault.MessageFault.TheVariants as faults
use Rattle.conversation.specs.declared.wants.Wants.{Wants}
use Rattle.conversation.specs.declared.wants.Wants.TheVariants.{Head, Body}
use Rattle.conversation.specs.Conversation.{Conversation, Progress, interim_for}
use Rattle.conversation.specs.Ends.{AreOffers, AsksOnce, IsInputRead, Offer, Output, Writes, WritesLast, WritesWhole}
use Rattle.conversation.specs.Exchanges.{Timed, timed}
use Rattle.conversation.specs.message.Heads.{longest_head}
use Rattle.conversation.specs.message.Messages.{ended, failed as failing, EndsAs, broken, finished}
use Rattle.conversation.specs.Parts.{EndsHere, IsOver, MayOfferBehind}
use Rattle.conversation.specs.Run.{IsRun}
use Rattle.conversation.specs.Uses.{AreOpen, AreSound, EndsBy, Grows, IsOpen, IsPaced, MayAsk, MayOffer, Passed, Use, asked, bytes_in, failed, interrupted, least_read, longest_message, moved, reads_in, received, window_behind, window_for, written}
use Rattle.conversation.specs.Wants.{count_of, told_of, IsAwaited}
use Rattle.conversation.proofs.InterimLemmas.{IsTold-append, awaited_told}
use Rattle.conversation.proofs.EndLemmas.{Written, WrittenBytes, all_left, left_of, nothing_ends, told_here}
use Rattle.conversation.proofs.MessageLemmas.{framed_fits, some_head, some_head_is}
use Rattle.conversation.proofs.OfferLemmas.{offers_after}
use Rattle.conversation.proofs.UsesLemmas.{AreInTurn-append, AreOpen-append, AreSound-append, Behind, are_sound, ends_by, Grows-nil, Grows-trans, offers_behind, reads_in-append, received-append, sends_in_turn, sends_keep_window, sends_read_none, sends_receive, window_behind-append, written-append}
use Rattle.conversation.proofs.ProgressLemmas.{Step, progress-append, progress_trans, conversation_after}
use Rattle.conversation.proofs.ReadingLemmas.{no_empty_head}

-- at first a head is awaited, of which nothing is there
pub awaits_nothing : IsAwaited [] (Head longest_head)
awaits_nothing = (
  record {
    none = no_empty_head;
    short = lit< tt;
    begun = inl (print_request some_head, some_head, (some_head_is, sym (append-nil (print_request some_head))));
  },
  refl,
)

-- what is left and what is awaited of it is at most the longest message
pub awaited_fits : (rest : List ℕ) (w : Wants) → IsAwaited rest w → length rest + count_of w ≤ longest_message
awaited_fits rest (Head count) (head, all) = omega (arith, all)
awaited_fits rest (Body count told) body =
    let whole = ap length body.begins.reads.1 in
    omega (arith, whole, length-append (print_request body.head) body.body, body.begins.bytes, body.lacks, framed_fits body.head body.framing body.framed)

awaited_broken : (rest : List ℕ) (w : Wants) → IsAwaited rest w → EndsAs failing rest (broken (told_of w))
awaited_broken rest (Head count) (head, all) = inl (head.none, head.short, refl)
awaited_broken rest (Body count told) body = inr (count, body)

-- Of what was read all whole messages were answered, and this is left and awaited; that and the
-- interim reply to the message that is left are all that was written.
pub record Answered
    {O : Type 0} (step : Step O) (old : Timed O) (read wrote rest : List ℕ) (w : Wants) (new : Timed O) : Type 0 where
  pub whole : List ℕ
  pub progress : Progress (timed step) read rest old whole new
  pub awaited : IsAwaited rest w
  pub said : wrote ≡ whole ++ interim_for (told_of w)

-- where the input ended and nothing is left of it
pub nothing_over : (rest : List ℕ) (w : Wants) (count : ℕ) → w ≡ Head count → rest ≡ [] → EndsAs ended rest (finished (told_of w))
nothing_over rest w count is none = inl (none, ap told_of is)

-- where it ended within a body
pub body_over : (rest : List ℕ) (w : Wants) (missing : ℕ) (told : Bool) → w ≡ Body missing told → IsAwaited rest w
    → EndsAs ended rest (finished (told_of w))
body_over rest w missing told is awaited =
    subst (λ v. EndsAs ended rest (finished (told_of v))) (sym is) (inr (missing, subst (IsAwaited rest) is awaited))

-- a reader that failed where this was left and awaited
pub failed_run : {O : Type 0} (step : Step O) (refusal : MessageFault → List ℕ) (old new : Timed O) (unread left held holds : Option (List ℕ))
    (taken rest text : List ℕ) (w : Wants) → Consumes unread left taken → Appends held holds text
    → Answered step old taken text rest w new → IsRun step refusal old new unread left held holds ReadFault
failed_run step refusal old new unread left held holds taken rest text w c written p =
    let told : Bool = told_of w in
    let nothing : Conversation (timed step) refusal failing rest new (interim_for told) (broken told) new =
    record { exchanges = []; messages = awaited_broken rest w p.awaited; served = refl; text_is = refl } in
    let all = conversation_after (timed step) refusal failing taken rest old new new p.whole (interim_for told) (broken told) p.progress nothing in (
      taken,
      c,
      told,
      record {
        text = text;
        written = written;
        conversation = subst (λ bytes. Conversation (timed step) refusal failing taken old bytes (broken told) new) (sym p.said) all;
      },
    )

-- a read that failed, or had no room
pub read_run : {O : Type 0} (step : Step O) (refusal : MessageFault → List ℕ) (old new : Timed O) (told tells : Option (List Use))
    (a b c held holds : Option (List ℕ))
    (wanted : ℕ) (taken rest after text : List ℕ) (w : Wants) (end : End) → Consumes a b taken → IsInputRead told tells b c wanted rest after (Err end)
    → Appends held holds text → Answered step old taken text rest w new → IsRun step refusal old new a c held holds end
read_run step refusal old new told tells a b c held holds wanted taken rest after text w Closed before is written p = absurd is
read_run step refusal old new told tells a b c held holds wanted taken rest after text w BadMessage before is written p = absurd is
read_run step refusal old new told tells a b c held holds wanted taken rest after text w WriteFault before is written p = absurd is
read_run step refusal old new told tells a b c held holds wanted taken rest after text w ReadFault before (k, same, asks) written p =
    failed_run step refusal old new a c held holds taken rest text w (Consumes-kept a b c taken before k) written p
read_run step refusal old new told tells a b c held holds wanted taken rest after text w Memory before (k, same, none) written p =
    let all = all_left a c taken (Consumes-kept a b c taken before k) in
    let gone_on = progress-append (timed step) taken rest (left_of c) old new p.whole p.progress in (
      _,
      all,
      text,
      written,
      record {
        rest = _;
        mid = new;
        whole = p.whole;
        before = gone_on;
        told = told_of w;
        expects = IsTold-append rest (left_of c) (told_of w) (awaited_told rest w p.awaited);
        text_is = p.said;
        after = inl refl;
      },
    )

-- the end of the input, where this was left of it, behind the interim reply where that was written
pub over_end : {O : Type 0} (step : Step O) (refusal : MessageFault → List ℕ) (told : Bool) (old : Timed O) (held holds : Output)
    (rest : List ℕ) (end : End) → IsOver refusal told rest held holds end
    → Written end (MayOfferBehind step refusal (interim_for told) old rest) held holds
    (λ text. EndsHere step refusal old (interim_for told ++ text) old rest end)
over_end step refusal told old held holds rest Closed (is, none) = (
  [],
  nothing_ends Closed step refusal (interim_for told) old rest held holds none none.open_still,
  (told, record { exchanges = []; messages = is; served = refl; text_is = append-nil (interim_for told) }),
)
over_end step refusal told old held holds rest BadMessage (untold, is, refuses) =
    subst (λ b. Written BadMessage (MayOfferBehind step refusal (interim_for b) old rest) held holds
    (λ text. EndsHere step refusal old (interim_for b ++ text) old rest BadMessage)) (sym untold)
    (told_here step refusal old held holds rest faults.Head BadMessage is refuses)
over_end step refusal told old held holds rest WriteFault (untold, is, refuses) =
    subst (λ b. Written WriteFault (MayOfferBehind step refusal (interim_for b) old rest) held holds
    (λ text. EndsHere step refusal old (interim_for b ++ text) old rest WriteFault)) (sym untold)
    (told_here step refusal old held holds rest faults.Head WriteFault is refuses)
over_end step refusal told old held holds rest Memory (untold, is, refuses) =
    subst (λ b. Written Memory (MayOfferBehind step refusal (interim_for b) old rest) held holds
    (λ text. EndsHere step refusal old (interim_for b ++ text) old rest Memory)) (sym untold)
    (told_here step refusal old held holds rest faults.Head Memory is refuses)
over_end step refusal told old held holds rest ReadFault (untold, is, refuses) = absurd refuses

-- a text that was written, by its bytes alone
pub bytes_of : (end : End) (May : Offer) (a b : Output) (Ends : List ℕ → Type 0) → Written end May a b Ends → WrittenBytes a.0 b.0 Ends
bytes_of end May a b Ends (text, last, ends) = (text, last.writes.holds, ends)

-- what was answered before a read is answered of all that was read after it
pub after_read : {O : Type 0} (step : Step O) (old new : Timed O) (a b c : Option (List ℕ)) (taken rest after bytes text : List ℕ)
    → Consumes a b taken → Progress (timed step) taken rest old text new → Consumes b c bytes → after ≡ rest ++ bytes
    → Consumes a c (taken ++ bytes) × Progress (timed step) (taken ++ bytes) after old text new
after_read step old new a b c taken rest after bytes text before p read is = (
  Consumes-trans a b c taken bytes before read,
  subst (λ left. Progress (timed step) (taken ++ bytes) left old text new) (sym is) (progress-append (timed step) taken rest bytes old new text p),
)

-- ---- the uses of a run

-- By these uses all was read and written so far, each in turn.
pub record Used
    {O : Type 0} (step : Step O) (refusal : MessageFault → List ℕ) (old : Timed O) (told tells : Option (List Use)) (unread left held holds : Option (List ℕ)) (uses : List Use) : Type 0 where
  pub told_are : Grows told tells uses
  pub paced : IsPaced step refusal old unread left held holds uses

-- before any use nothing was read, written or told
pub used_none : {O : Type 0} (step : Step O) (refusal : MessageFault → List ℕ) (old : Timed O) (told : Option (List Use)) (unread held : Option (List ℕ))
    → Used step refusal old told told unread unread held held []
used_none step refusal old told unread held =
    record { told_are = Grows-nil told; paced = record { in_turn = tt; reads = Consumes-nil unread; writes = Appends-nil held } }

-- so many bytes may be asked for where this is awaited, behind these uses
abbrev pub MayWant : ℕ → Wants → List Use → Type 0
MayWant wanted w uses = (wanted ≤ count_of w) × (wanted ≤ window_behind least_read uses)

-- the least of what is awaited and of what was asked for at the most
pub may_want : (count window : ℕ) (w : Wants) (uses : List Use) → count ≡ count_of w → window ≡ window_behind least_read uses
    → MayWant (min count window) w uses
may_want count window w uses all is = (omega (arith, all), omega (arith, is))

-- a read that was made where this was left and awaited
pub used_read : {O : Type 0} (step : Step O) (refusal : MessageFault → List ℕ) (old new : Timed O) (told mid tells : Option (List Use))
    (unread left now held holds : Option (List ℕ)) (uses : List Use)
    (rest : List ℕ) (w : Wants) (wanted : ℕ) (passed : Passed) → MayWant wanted w uses → Used step refusal old told mid unread left held holds uses → AreOpen uses
    → Answered step old (received uses) (written uses) rest w new → (asks : AsksOnce mid tells wanted passed)
    → Consumes left now (bytes_in passed) → Used step refusal old told tells unread now held holds (uses ++ asked asks.0 passed ∷ [])
used_read step refusal old new told mid tells unread left now held holds uses rest w wanted passed all used opened answered
    (count, least, fits_in, grows) reads =
    let within : count ≤ count_of w = omega (arith, least, all.0) in
    let windowed : count ≤ window_behind least_read uses = omega (arith, least, all.1) in
    let more : List Use = asked count passed ∷ [] in
    let fits = awaited_fits rest w answered.awaited in
    let one : received more ≡ bytes_in passed = append-nil (bytes_in passed) in
    let may : MayAsk step old (received uses) (written uses) count =
    record {
      rest = rest;
      mid = new;
      text = answered.whole;
      answered = answered.progress;
      wants = w;
      awaited = answered.awaited;
      said = answered.said;
      within = within;
      held = omega (arith, fits, within);
    } in
    record {
      told_are = Grows-trans told mid tells uses more used.told_are grows;
      paced = record {
        in_turn = AreInTurn-append step refusal old [] uses more used.paced.in_turn ((opened, may, windowed, fits_in), tt);
        reads = subst (λ bytes. Consumes unread now bytes) (ap (λ bytes. received uses ++ bytes) (sym one) ∙ sym (received-append uses more))
            (Consumes-trans unread left now (received uses) (bytes_in passed) used.paced.reads reads);
        writes = subst (λ bytes. Appends held holds bytes) (sym (append-nil (written uses)) ∙ sym (written-append uses more)) used.paced.writes;
      };
    }

-- texts that were handed over where nothing had failed, and of which all was offered that was left
pub used_sends : {O : Type 0} (step : Step O) (refusal : MessageFault → List ℕ) (old : Timed O) (told mid tells : Option (List Use))
    (unread left held holds now : Option (List ℕ)) (uses : List Use)
    (text : List ℕ) (May : Offer) → Behind (written uses) May (MayOffer step refusal old (received uses))
    → Used step refusal old told mid unread left held holds uses → AreSound uses → (w : Writes May (holds, mid) (now, tells) text)
    → Used step refusal old told tells unread left held now (uses ++ w.uses)
used_sends step refusal old told mid tells unread left held holds now uses text May can used sound w = record {
  told_are = Grows-trans told mid tells uses w.uses used.told_are w.told;
  paced = record {
    in_turn =
        let may = offers_behind (written uses) May (MayOffer step refusal old (received uses)) can [] w.uses w.offers in
        AreInTurn-append step refusal old [] uses w.uses used.paced.in_turn (sends_in_turn step refusal old uses w.uses sound w.sends
        (subst (λ l. AreOffers (MayOffer step refusal old (received uses)) l w.uses) (append-nil (written uses)) may));
    reads = subst (λ bytes. Consumes unread left bytes)
        (sym (append-nil (received uses)) ∙ ap (λ bytes. received uses ++ bytes) (sym (sends_receive w.uses w.sends)) ∙ sym (received-append uses w.uses))
        used.paced.reads;
    writes = subst (λ bytes. Appends held now bytes)
        (ap (λ bytes. written uses ++ bytes) w.text_is ∙ sym (written-append uses w.uses))
        (Appends-trans held holds now (written uses) text used.paced.writes w.holds);
  };
}

-- a read by which bytes came
came_open : (asks count : ℕ) (bytes : List ℕ) → length bytes ≡ count → ¬ (count ≡ 0) → IsOpen (asked asks (moved bytes))
came_open asks count [] long some = absurd (some (sym long))
came_open asks count (byte ∷ bytes) long some = tt

-- what `run` says of its uses
abbrev pub Paced : {O : Type 0} → Step O → (MessageFault → List ℕ) → Timed O → (told tells : Option (List Use)) → (unread left held holds : Option (List ℕ)) → End → Type 0
Paced step refusal old told tells unread left held holds end =
    (uses : List Use) × Grows told tells uses × IsPaced step refusal old unread left held holds uses × EndsBy end uses

-- the uses of a run and how they end are what `run` says of them
pub paced : {O : Type 0} (step : Step O) (refusal : MessageFault → List ℕ) (old : Timed O) (told tells : Option (List Use)) (unread left held holds : Option (List ℕ))
    (end : End) (uses : List Use)
    → Used step refusal old told tells unread left held holds uses → EndsBy end uses → Paced step refusal old told tells unread left held holds end
paced step refusal old told tells unread left held holds end uses used ends = (uses, used.told_are, used.paced, ends)

module _ {O : Type 0} (step : Step O) (refusal : MessageFault → List ℕ) (old new : Timed O) (told mid tells : Option (List Use))
    (unread left now held holds : Option (List ℕ)) (uses : List Use) (rest : List ℕ) where
  -- a read that failed, or had no room
  pub paced_read : (after : List ℕ) (w : Wants) (wanted : ℕ) (end : End) → MayWant wanted w uses
      → Used step refusal old told mid unread left held holds uses → AreOpen uses
      → Answered step old (received uses) (written uses) rest w new → IsInputRead mid tells left now wanted rest after (Err end)
      → Paced step refusal old told tells unread now held holds end
  paced_read after w wanted ReadFault all used opened answered (kept, same, asks) =
      let read = used_read step refusal old new told mid tells unread left now held holds uses rest w wanted failed all used opened answered asks
      (Consumes-kept left left now [] (Consumes-nil left) kept) in
      paced step refusal old told tells unread now held holds ReadFault _ read (inl (asks.0, (uses, refl)))
  paced_read after w wanted Memory all used opened answered (kept, same, none) = (
    uses,
    subst (λ l. Grows told tells l) (append-nil uses) (Grows-trans told mid tells uses [] used.told_are none),
    record {
      in_turn = used.paced.in_turn;
      reads = Consumes-kept unread left now (received uses) used.paced.reads kept;
      writes = used.paced.writes;
    },
    are_sound uses opened,
  )
  paced_read after w wanted Closed all used opened answered is = absurd is
  paced_read after w wanted BadMessage all used opened answered is = absurd is
  paced_read after w wanted WriteFault all used opened answered is = absurd is

  -- a read that was interrupted
  pub interrupted_read : (after : List ℕ) (w : Wants) (wanted : ℕ) → MayWant wanted w uses → Used step refusal old told mid unread left held holds uses → AreOpen uses
      → Answered step old (received uses) (written uses) rest w new → IsInputRead mid tells left now wanted rest after (Ok None)
      → (all : List Use) × Used step refusal old told tells unread now held holds all × AreOpen all
      × Answered step old (received all) (written all) after w new × (reads_in all ≡ suc (reads_in uses))
      × (window_behind least_read all ≡ window_behind least_read uses)
  interrupted_read after w wanted all used opened answered (kept, same, asks) =
      let more : List Use = asked asks.0 interrupted ∷ [] in
      let none_came : received (uses ++ more) ≡ received uses = received-append uses more ∙ append-nil (received uses) in
      let none_left : written (uses ++ more) ≡ written uses = written-append uses more ∙ append-nil (written uses) in (
        uses ++ more,
        used_read step refusal old new told mid tells unread left now held holds uses rest w wanted interrupted all used opened answered asks
            (Consumes-kept left left now [] (Consumes-nil left) kept),
        AreOpen-append uses more opened (tt, tt),
        subst₂ (λ (a b : List ℕ). Answered step old a b after w new) (sym none_came) (sym none_left)
            (subst (λ l. Answered step old (received uses) (written uses) l w new) (sym same) answered),
        omega (arith, reads_in-append uses more),
        window_behind-append least_read uses more,
      )

  -- a read that was not interrupted
  module _ (after : List ℕ) (w : Wants) (wanted count : ℕ) (all_wanted : MayWant wanted w uses)
      (used : Used step refusal old told mid unread left held holds uses) (opened : AreOpen uses)
      (answered : Answered step old (received uses) (written uses) rest w new)
      (read : IsInputRead mid tells left now wanted rest after (Ok (Some count))) where
    abbrev made : List Use
    made = uses ++ asked read.5.0 (moved read.0) ∷ []

    was_read : Used step refusal old told tells unread now held holds made
    was_read = used_read step refusal old new told mid tells unread left now held holds uses rest w wanted (moved read.0) all_wanted used opened
        answered read.5 read.3

    sound : AreSound made
    sound = AreSound-append uses (asked read.5.0 (moved read.0) ∷ []) (are_sound uses opened) (tt, tt)

    one : Progress (timed step) (received uses ++ read.0) after old answered.whole new
    one =
        subst (λ l. Progress (timed step) (received uses ++ read.0) l old answered.whole new) (sym read.2)
        (progress-append (timed step) (received uses) rest read.0 old new answered.whole answered.progress)

    all_came : received uses ++ read.0 ≡ received made
    all_came =
        let more : List Use = asked read.5.0 (moved read.0) ∷ [] in
        sym (received-append uses more ∙ ap (λ l. received uses ++ l) (append-nil read.0))

    none_written : written uses ≡ written made
    none_written =
        let more : List Use = asked read.5.0 (moved read.0) ∷ [] in
        sym (written-append uses more ∙ append-nil (written uses))

    -- what may be offered for what is left with what came, behind the interim reply where that was
    -- written
    abbrev Offered : Offer
    Offered = MayOfferBehind step refusal (interim_for (told_of w)) new after

    offers_all : Behind (written made) Offered (MayOffer step refusal old (received made))
    offers_all wrote offered may =
        let front = interim_for (told_of w) in
        let here = offers_after step refusal old new (received uses ++ read.0) after answered.whole (front ++ wrote) offered one may in
        let said : answered.whole ++ (front ++ wrote) ≡ written made ++ wrote =
        sym (append_assoc answered.whole front wrote) ∙ ap (λ l. l ++ wrote) (sym answered.said ∙ none_written) in
        subst₂ (λ (a b : List ℕ). MayOffer step refusal old a b offered) all_came said here

    -- then texts were handed over
    pub paced_after : (end : End) (last : Option (List Use)) (wrote : Option (List ℕ)) (text : List ℕ)
        → WritesLast end Offered (holds, tells) (wrote, last) text
        → Paced step refusal old told last unread now held wrote end
    paced_after end last wrote text sends =
        let used = used_sends step refusal old told tells last unread now held holds wrote made text Offered offers_all was_read sound sends.writes in
        paced step refusal old told last unread now held wrote end _ used (ends_by end made sends.writes.uses sound sends.ends)

    -- and all were taken, where bytes had come
    pub went_on : (last : Option (List Use)) (wrote : Option (List ℕ)) (text more_whole : List ℕ) (later : Timed O) (left_over kept : List ℕ) (wants : Wants)
        → kept ≡ left_over → ¬ (count ≡ 0) → WritesWhole Offered (holds, tells) (wrote, last) text → Progress (timed step) after left_over new more_whole later
        → IsAwaited left_over wants → interim_for (told_of w) ++ text ≡ more_whole ++ interim_for (told_of wants)
        → (all : List Use) × Used step refusal old told last unread now held wrote all × AreOpen all
        × Answered step old (received all) (written all) kept wants later × (reads_in all ≡ suc (reads_in uses))
        × (window_behind least_read all ≡ window_for count)
    went_on last wrote text more_whole later left_over kept wants same some whole progress awaits said =
        let writes = whole.writes in
        let more : List Use = asked read.5.0 (moved read.0) ∷ [] in
        let all = made ++ writes.uses in
        let before = interim_for (told_of w) in
        let behind = interim_for (told_of wants) in
        let both = progress_trans (timed step) (received uses ++ read.0) after left_over old new later answered.whole more_whole one progress in
        let came : received uses ++ read.0 ≡ received all =
        sym (received-append made writes.uses ∙ ap (λ l. received made ++ l) (sends_receive writes.uses writes.sends) ∙ append-nil (received made)
        ∙ received-append uses more ∙ ap (λ l. received uses ++ l) (append-nil read.0)) in
        let took : written uses ++ text ≡ written all =
        sym (written-append made writes.uses ∙ ap (λ l. l ++ written writes.uses) (written-append uses more ∙ append-nil (written uses))
        ∙ ap (λ l. written uses ++ l) (sym writes.text_is)) in (
          all,
          used_sends step refusal old told tells last unread now held holds wrote made text Offered offers_all was_read sound writes,
          AreOpen-append made writes.uses (AreOpen-append uses more opened (came_open read.5.0 count read.0 read.1 some, tt)) whole.open_still,
          record {
            whole = answered.whole ++ more_whole;
            progress = subst₂ (λ (a b : List ℕ). Progress (timed step) a b old (answered.whole ++ more_whole) later) came (sym same) both;
            awaited = subst (λ l. IsAwaited l wants) (sym same) awaits;
            said =
                sym took ∙ ap (λ l. l ++ text) answered.said ∙ append_assoc answered.whole before text
                ∙ ap (λ l. answered.whole ++ l) said ∙ sym (append_assoc answered.whole more_whole behind);
          },
          omega (arith, reads_in-append made writes.uses, reads_in-append uses more, sends_read_none writes.uses writes.sends),
          window_behind-append least_read made writes.uses ∙ sends_keep_window _ writes.uses writes.sends ∙ window_behind-append least_read uses more
              ∙ ap window_for read.1,
        )
