-- A conversation that one office had, another one has that follows each of its steps.
use Rattle.std.proofs.Common.{◌≡◌, ◌⊎◌, ℕ, ℤ, inl, inr, List, [], ◌∷◌, Option, refl, ap, sym, subst}
use Rattle.conversation.specs.declared.end.End.{End}
use Rattle.conversation.specs.declared.end.End.TheVariants.{Closed, BadMessage, ReadFault, WriteFault, Memory}
use Rattle.conversation.specs.declared.message.message_fault.MessageFault.{MessageFault}
use Rattle.conversation.specs.Conversation.{Conversation, Progress, IsCutOff, IsGivenUp, IsNextText}
use Rattle.conversation.specs.Exchanges.{MessageExchange, Exchanged, Timed, clocked, timed, GaveUp}
use Rattle.conversation.specs.message.Messages.{Stop, Message, BeginsMessage, Ending}
use Rattle.conversation.specs.Run.{IsRun, IsSaid}
use Rattle.conversation.proofs.ProgressLemmas.{Step}

-- The steps of an office that is well after them begin where it was well, and another one follows
-- them.
pub record Follows {O L : Type 0} (step : Step O) (live : Step L) (IsOf : L → O → Type 0) (Well : O → Type 0) : Type 0 where
  pub back : (old : O) (x : MessageExchange) (new : O) → step old x new → Well new → Well old
  pub next : (life : L) (old : O) (x : MessageExchange) (new : O) → IsOf life old → step old x new → Well new
      → (after : L) × live life x after × IsOf after new

-- steps at the moments of one clock are followed at the same moments
pub clocked_follows : {O L : Type 0} (step : Step O) (live : Step L) (IsOf : L → O → Type 0) (Well : O → Type 0) (gives : ℤ → Type 0)
    → Follows step live IsOf Well → Follows (clocked gives step) (clocked gives live) IsOf Well
clocked_follows step live IsOf Well gives f = record {
  back = λ old x new stepped well. f.back old x new stepped.0 well;
  next = λ life old x new is stepped well.
      let one = f.next life old x new is stepped.0 well in
      (one.0, (one.1, stepped.1), one.2);
}

module _ {O L : Type 0} (step : Step O) (live : Step L) (IsOf : L → O → Type 0) (Well : O → Type 0) (f : Follows step live IsOf Well) where
  -- the other office goes on to one that is the new office's, and this holds then
  abbrev Goes : O → (L → Type 0) → Type 0
  Goes new Then = (after : L) × Then after × IsOf after new

  well_before : (old : Timed O) (xs : List MessageExchange) (new : Timed O) → Exchanged (timed step) old xs new → Well new.0 → Well old.0
  well_before old [] new same well = subst (λ (o : Timed O). Well o.0) same well
  well_before old (x ∷ xs) new (mid, (stepped, _), later) well = f.back old.0 x mid.0 stepped (well_before mid xs new later well)

  served_along : (life : L) (old : Timed O) (xs : List MessageExchange) (new : Timed O) → IsOf life old.0 → Exchanged (timed step) old xs new
      → Well new.0 → Goes new.0 (λ after. Exchanged (timed live) (life, old.1) xs (after, new.1))
  served_along life old [] new is same well =
      (life, ap (λ (o : Timed O). (life, o.1)) same, subst (λ (o : Timed O). IsOf life o.0) (sym same) is)
  served_along life old (x ∷ xs) new is (mid, (stepped, reads), later) well =
      let one = f.next life old.0 x mid.0 is stepped (well_before mid xs new later well) in
      let more = served_along one.0 mid xs new one.2 later well in
      (more.0, ((one.0, mid.1), (one.1, reads), more.1), more.2)

  progress_along : (life : L) (input rest : List ℕ) (old : Timed O) (text : List ℕ) (new : Timed O) → IsOf life old.0
      → Progress (timed step) input rest old text new → Well new.0
      → Goes new.0 (λ after. Progress (timed live) input rest (life, old.1) text (after, new.1))
  progress_along life input rest old text new is p well =
      let goes = served_along life old p.exchanges new is p.served well in
      (goes.0, record { exchanges = p.exchanges; begins = p.begins; served = goes.1; text_is = p.text_is }, goes.2)

  conversation_along : (refusal : MessageFault → List ℕ) (life : L) (stop : Stop) (input : List ℕ) (old : Timed O) (text : List ℕ)
      (ending : Ending) (new : Timed O)
      → IsOf life old.0 → Conversation (timed step) refusal stop input old text ending new → Well new.0
      → Goes new.0 (λ after. Conversation (timed live) refusal stop input (life, old.1) text ending (after, new.1))
  conversation_along refusal life stop input old text ending new is c well =
      let goes = served_along life old c.exchanges new is c.served well in
      (goes.0, record { exchanges = c.exchanges; messages = c.messages; served = goes.1; text_is = c.text_is }, goes.2)

  said_along : (refusal : MessageFault → List ℕ) (life : L) (old new : Timed O) (held holds : Option (List ℕ)) (stop : Stop) (input : List ℕ) (ending : Ending)
      → IsOf life old.0 → IsSaid step refusal old new held holds stop input ending → Well new.0
      → Goes new.0 (λ after. IsSaid live refusal (life, old.1) (after, new.1) held holds stop input ending)
  said_along refusal life old new held holds stop input ending is said well =
      let goes = conversation_along refusal life stop input old said.text ending new is said.conversation well in
      (goes.0, record { text = said.text; written = said.written; conversation = goes.1 }, goes.2)

  well_before_last : (refusal : MessageFault → List ℕ) (rest : List ℕ) (mid : Timed O) (last : List ℕ) (new : Timed O)
      → IsNextText (timed step) refusal rest mid last new → Well new.0 → Well mid.0
  well_before_last refusal rest mid last new (inl reply) well = f.back mid.0 reply.exchange new.0 reply.answered.0 well
  well_before_last refusal rest mid last new (inr (inl refused)) well = subst (λ (o : Timed O). Well o.0) refused.same well
  well_before_last refusal rest mid last new (inr (inr told)) well = subst (λ (o : Timed O). Well o.0) told.same well

  last_along : (refusal : MessageFault → List ℕ) (life : L) (rest : List ℕ) (mid : Timed O) (last : List ℕ) (new : Timed O) → IsOf life mid.0
      → IsNextText (timed step) refusal rest mid last new → Well new.0
      → Goes new.0 (λ after. IsNextText (timed live) refusal rest (life, mid.1) last (after, new.1))
  last_along refusal life rest mid last new is (inl reply) well =
      let one = f.next life mid.0 reply.exchange new.0 is reply.answered.0 well in (
        one.0,
        inl (record { exchange = reply.exchange; rest = reply.rest; begins = reply.begins; answered = (one.1, reply.answered.1); text_is = reply.text_is }),
        one.2,
      )
  last_along refusal life rest mid last new is (inr (inl refused)) well = (
    life,
    inr (inl (record {
      fault = refused.fault;
      is_refused = refused.is_refused;
      text_is = refused.text_is;
      same = ap (λ (o : Timed O). (life, o.1)) refused.same;
    })),
    subst (λ (o : Timed O). IsOf life o.0) (sym refused.same) is,
  )
  last_along refusal life rest mid last new is (inr (inr told)) well = (
    life,
    inr (inr (record { expects = told.expects; text_is = told.text_is; same = ap (λ (o : Timed O). (life, o.1)) told.same })),
    subst (λ (o : Timed O). IsOf life o.0) (sym told.same) is,
  )

  cut_off_along : (refusal : MessageFault → List ℕ) (life : L) (input : List ℕ) (old : Timed O) (written : List ℕ) (new : Timed O) → IsOf life old.0
      → IsCutOff (timed step) refusal input old written new → Well new.0
      → Goes new.0 (λ after. IsCutOff (timed live) refusal input (life, old.1) written (after, new.1))
  cut_off_along refusal life input old written new is c well =
      let before = progress_along life input c.rest old c.whole c.mid is c.before (well_before_last refusal c.rest c.mid c.last new c.is_last well) in
      let last = last_along refusal before.0 c.rest c.mid c.last new before.2 c.is_last well in (
        last.0,
        record {
          rest = c.rest;
          whole = c.whole;
          mid = (before.0, c.mid.1);
          before = before.1;
          last = c.last;
          is_last = last.1;
          part = c.part;
          short = c.short;
          written_is = c.written_is;
        },
        last.2,
      )

  -- what may have become of the message at which memory was short
  abbrev After : {M : Type 0} → Step M → List ℕ → Timed M → Timed M → Type 0
  After move rest mid new = (new ≡ mid) ⊎ ((m : Message) × (after : List ℕ) × BeginsMessage rest m after × GaveUp move mid m new)

  well_before_giving_up : (rest : List ℕ) (mid new : Timed O) → After step rest mid new → Well new.0 → Well mid.0
  well_before_giving_up rest mid new (inl same) well = subst (λ (o : Timed O). Well o.0) same well
  well_before_giving_up rest mid new (inr (m, after, begins, (now, reads, inl same))) well = subst Well same well
  well_before_giving_up rest mid new (inr (m, after, begins, (now, reads, inr (reply, stepped)))) well = f.back mid.0 _ new.0 stepped well

  giving_up_along : (life : L) (rest : List ℕ) (mid new : Timed O) → IsOf life mid.0 → After step rest mid new → Well new.0
      → Goes new.0 (λ after. After live rest (life, mid.1) (after, new.1))
  giving_up_along life rest mid new is (inl same) well =
      (life, inl (ap (λ (o : Timed O). (life, o.1)) same), subst (λ (o : Timed O). IsOf life o.0) (sym same) is)
  giving_up_along life rest mid new is (inr (m, after, begins, (now, reads, inl same))) well =
      (life, inr (m, after, begins, (now, reads, inl refl)), subst (λ o. IsOf life o) (sym same) is)
  giving_up_along life rest mid new is (inr (m, after, begins, (now, reads, inr (reply, stepped)))) well =
      let one = f.next life mid.0 _ new.0 is stepped well in
      (one.0, inr (m, after, begins, (now, reads, inr (reply, one.1))), one.2)

  given_up_along : (life : L) (input : List ℕ) (old : Timed O) (text : List ℕ) (new : Timed O) → IsOf life old.0
      → IsGivenUp (timed step) (GaveUp step) input old text new → Well new.0
      → Goes new.0 (λ after. IsGivenUp (timed live) (GaveUp live) input (life, old.1) text (after, new.1))
  given_up_along life input old text new is g well =
      let before = progress_along life input g.rest old g.whole g.mid is g.before (well_before_giving_up g.rest g.mid new g.after well) in
      let then = giving_up_along before.0 g.rest g.mid new before.2 g.after well in
      let given : IsGivenUp (timed live) (GaveUp live) input (life, old.1) text (then.0, new.1) =
      record {
        rest = g.rest;
        mid = (before.0, g.mid.1);
        whole = g.whole;
        before = before.1;
        told = g.told;
        expects = g.expects;
        text_is = g.text_is;
        after = then.1;
      } in
      (then.0, given, then.2)

  -- a whole run
  pub run_along : (refusal : MessageFault → List ℕ) (life : L) (old new : Timed O) (unread left held holds : Option (List ℕ)) (end : End) → IsOf life old.0
      → IsRun step refusal old new unread left held holds end → Well new.0
      → Goes new.0 (λ after. IsRun live refusal (life, old.1) (after, new.1) unread left held holds end)
  run_along refusal life old new unread left held holds Closed is (input, all, inl (expects, said)) well =
      let goes = said_along refusal life old new held holds _ input _ is said well in
      (goes.0, (input, all, inl (expects, goes.1)), goes.2)
  run_along refusal life old new unread left held holds Closed is (input, all, inr said) well =
      let goes = said_along refusal life old new held holds _ input _ is said well in
      (goes.0, (input, all, inr goes.1), goes.2)
  run_along refusal life old new unread left held holds BadMessage is (input, all, fault, said) well =
      let goes = said_along refusal life old new held holds _ input _ is said well in
      (goes.0, (input, all, fault, goes.1), goes.2)
  run_along refusal life old new unread left held holds ReadFault is (input, read, expects, said) well =
      let goes = said_along refusal life old new held holds _ input _ is said well in
      (goes.0, (input, read, expects, goes.1), goes.2)
  run_along refusal life old new unread left held holds WriteFault is (input, all, text, written, cut) well =
      let goes = cut_off_along refusal life input old text new is cut well in
      (goes.0, (input, all, text, written, goes.1), goes.2)
  run_along refusal life old new unread left held holds Memory is (input, all, text, written, given) well =
      let goes = given_up_along life input old text new is given well in
      (goes.0, (input, all, text, written, goes.1), goes.2)

  -- a run that is well after it began where all was well
  pub run_well : (refusal : MessageFault → List ℕ) (old new : Timed O) (unread left held holds : Option (List ℕ)) (end : End)
      → IsRun step refusal old new unread left held holds end → Well new.0 → Well old.0
  run_well refusal old new unread left held holds Closed (input, all, inl (expects, said)) well =
      well_before old said.conversation.exchanges new said.conversation.served well
  run_well refusal old new unread left held holds Closed (input, all, inr said) well =
      well_before old said.conversation.exchanges new said.conversation.served well
  run_well refusal old new unread left held holds BadMessage (input, all, fault, said) well =
      well_before old said.conversation.exchanges new said.conversation.served well
  run_well refusal old new unread left held holds ReadFault (input, read, expects, said) well =
      well_before old said.conversation.exchanges new said.conversation.served well
  run_well refusal old new unread left held holds WriteFault (input, all, text, written, cut) well =
      well_before old cut.before.exchanges cut.mid cut.before.served (well_before_last refusal cut.rest cut.mid cut.last new cut.is_last well)
  run_well refusal old new unread left held holds Memory (input, all, text, written, given) well =
      well_before old given.before.exchanges given.mid given.before.served (well_before_giving_up given.rest given.mid new given.after well)
