-- The lives of one office along connections.
use Rattle.std.proofs.Common.{◌≡◌, ◌⊎◌, ◌∙◌, ℕ, ℤ, zero, suc, List, [], ◌∷◌, ◌++◌, Option, Result, Ok, Err, inl, inr, refl, ap, subst, sym}
use Rattle.std.proofs.Math.Logic.{∥∥₁_elim}
use Rattle.sqlite.specs.State.{HasCleanDisk}
use Rattle.books.specs.Headline.{with_last}
use Rattle.books.specs.Keeps.{Seen}
use Rattle.asks.specs.declared.ask.Ask.{Ask}
use Rattle.asks.specs.declared.ask.Ask.TheVariants as asks
use Rattle.desk.specs.Answering.{IsServed, answers_by, life_serves, message_refusal_of}
use Rattle.desk_messages.specs.declared.reply.outcome.Outcome.{Outcome}
use Rattle.papers.specs.declared.row_fault.RowFault.TheVariants.{At, Memory as LacksMemory}
use Rattle.conversation.specs.Exchanges.{Exchanged, GaveUp, MessageExchange, Timed, clocked, timed}
use Rattle.conversation.specs.message.Messages.{BeginsMessage, Message}
use Rattle.conversation.specs.Run.{IsRun}
use Rattle.conversation.proofs.InterimLemmas.{leaves_office}
use Rattle.conversation.proofs.WiderLemmas.{run_wider, unclocked}
use Rattle.conversation.specs.declared.end.End as conversation
use Rattle.conversation.specs.declared.end.End.TheVariants.{Closed, BadMessage, ReadFault, WriteFault, Memory}
use Rattle.sts_fields.specs.Text.{Text}
use Rattle.sts_token.specs.Token.{BlockFunction}
use Rattle.vend_core.specs.Law.Life.{IsLife, LeadTo, Life, MayLeave}
use Rattle.vend_core.specs.Law.LifeLaws.{extended_by, opened}
use Rattle.office_rules.specs.declared.decision.answer.Answer.{Answer}
use Rattle.office_rules.specs.declared.decision.refusal.Refusal.{Refusal}
use Rattle.office_rules.specs.declared.decision.request.Stamped.{Stamped}
use Rattle.office_rules.specs.Office.{Office}
use Rattle.vend_commands.specs.serving.Connections.{AreHeld, AreReady, Service, service}
use Rattle.program_laws.specs.Courses.{Course, IsNext, KeepsLast, LiveOn, course}
use Rattle.vend_commands.specs.port.Machines.{Way}

-- ---- a life goes on by one request, or stays as it is

-- it went on by this request and its reply, or by none
abbrev pub OneOn : (old new : Life) → Type 0
OneOn old new = ((at : Stamped) × (reply : Result Answer Refusal) × (new ≡ extended_by old at reply)) ⊎ (new ≡ old)

served_on : (moment : ℕ) (ask : Ask) (outcome : Outcome) (old new : Life) → IsServed life_serves moment ask outcome old new → OneOn old new
served_on moment (asks.Import kind csv) outcome old new (Ok rows, are, (reply, is, (at, stamped, goes))) = inl (at, reply, goes)
served_on moment (asks.Import kind csv) outcome old new (Err (At row cause), are, (is, same)) = inr same
served_on moment (asks.Import kind csv) outcome old new (Err LacksMemory, are, none) = absurd none
served_on moment (asks.Do request) outcome old new (reply, is, (at, stamped, goes)) = inl (at, reply, goes)
served_on moment (asks.Receipt number) outcome old new (reply, is, (at, stamped, goes)) = inl (at, reply, goes)
served_on moment (asks.Look lookup) outcome old new (found, is, (finds, same)) = inr same

-- so by an exchange
pub answered_on : (old new : Timed Life) (x : MessageExchange) → timed (answers_by life_serves) old x new → OneOn old.0 new.0
answered_on old new x ((outcome, inl (fault, has, is, same), told), clock) = inr same
answered_on old new x ((outcome, inr (moment, ask, asks, served), told), clock) = served_on moment ask outcome old.0 new.0 served

-- ---- it goes on from the office that it opened

answered_opening : (old new : Timed Life) (x : MessageExchange) → timed (answers_by life_serves) old x new → new.0.opening ≡ old.0.opening
answered_opening old new x step = elim (answered_on old new x step) [
  | inl (at, reply, goes) ↦ ap (λ (l : Life). l.opening) goes
  | inr same ↦ ap (λ (l : Life). l.opening) same
]

-- so along exchanges
pub exchanged_opening : (old new : Timed Life) (xs : List MessageExchange) → Exchanged (timed (answers_by life_serves)) old xs new → new.0.opening ≡ old.0.opening
exchanged_opening old new [] same = ap (λ l. l.0.opening) same
exchanged_opening old new (x ∷ xs) (mid, first, rest) = exchanged_opening mid new xs rest ∙ answered_opening old mid x first

late_opening : (rest : List ℕ) (mid new : Timed Life)
    → (new ≡ mid) ⊎ ((m : Message) × (after : List ℕ) × BeginsMessage rest m after × GaveUp (answers_by life_serves) mid m new) → new.0.opening ≡ mid.0.opening
late_opening rest mid new (inl same) = ap (λ l. l.0.opening) same
late_opening rest mid new (inr (m, after, begins, (now, reads, inl same))) = ap (λ l. l.opening) same
late_opening rest mid new (inr (m, after, begins, (now, reads, inr (reply, step)))) =
    answered_opening mid new (record { message = m; now = now; reply = reply }) (step, reads)

run_opening : (old new : Timed Life) (unread left held holds : Option (List ℕ)) (end : conversation.End)
    → IsRun (answers_by life_serves) message_refusal_of old new unread left held holds end → new.0.opening ≡ old.0.opening
run_opening old new unread left held holds Closed (input, all, inl (expects, said)) = exchanged_opening old new said.conversation.exchanges said.conversation.served
run_opening old new unread left held holds Closed (input, all, inr said) = exchanged_opening old new said.conversation.exchanges said.conversation.served
run_opening old new unread left held holds BadMessage (input, all, fault, said) = exchanged_opening old new said.conversation.exchanges said.conversation.served
run_opening old new unread left held holds ReadFault (input, taken, expects, said) = exchanged_opening old new said.conversation.exchanges said.conversation.served
run_opening old new unread left held holds WriteFault (input, all, text, appends, cut) =
    let before = exchanged_opening old cut.mid cut.before.exchanges cut.before.served in
    elim cut.is_last [
      | inl reply ↦ answered_opening cut.mid new reply.exchange reply.answered ∙ before
      | inr other ↦ ap (λ l. l.0.opening) (leaves_office message_refusal_of cut.rest cut.mid cut.last new other) ∙ before
    ]
run_opening old new unread left held holds Memory (input, all, text, appends, given) =
    late_opening given.rest given.mid new given.after ∙ exchanged_opening old given.mid given.before.exchanges given.before.served

-- ---- one life after another

module _ {D R W B : Type 0} (way : Way D R W) (forward : BlockFunction) (see : B → Seen)
    {start : Office}
    (goes_on : (lives : List Life) (life : Life) (o p : Office) → LeadTo start lives o → IsLife life → life.opening ≡ o → MayLeave life p
    → LeadTo start (lives ++ life ∷ []) p) where
  -- books that were made ready and have a clean disk had one before
  pub ready_clean : (old new : B) → AreReady see forward old new → HasCleanDisk (see new).state → HasCleanDisk (see old).state
  ready_clean old new (inl (runs, same)) clean = subst (λ b. HasCleanDisk (see b).state) same clean
  ready_clean old new (inr (stopped, reopened)) clean = (reopened.next clean).clean

  -- books that are made ready keep the same life, or the next one
  pub next_course : (old new : B) → AreReady see forward old new → HasCleanDisk (see new).state → (c : Course) → KeepsLast start c.over c.life (see old)
      → ∥ ((next : Course) × IsNext forward c next × KeepsLast start next.over next.life (see new)) ∥₁
  next_course old new (inl (runs, same)) clean c last = ∣ (c, inl refl, subst (λ b. KeepsLast start c.over c.life (see b)) (sym same) last) ∣₁
  next_course old new (inr (stopped, reopened)) clean c last =
      let next = reopened.next clean in
      ∥∥₁_elim next.left squash₁ (λ found.
      let here = last.kept next.clean in
      let office = here.left found.0 found.1 in
      let o = office.0 in
      ∣ (
        course (with_last c.over c.life) (opened forward o),
        inr (o, office.1, refl),
        record {
          led = goes_on c.over c.life c.life.opening o last.led here.is_life refl office.1;
          kept = found.2 o office.2;
          clean = clean;
        },
      ) ∣₁)

module _ {D R W B : Type 0} (way : Way D R W) (gives : ℤ → Type 0) (forward : BlockFunction) (see : B → Seen)
    {start : Office}
    (goes_on : (lives : List Life) (life : Life) (o p : Office) → LeadTo start lives o → IsLife life → life.opening ≡ o → MayLeave life p
    → LeadTo start (lives ++ life ∷ []) p) where
  -- the lives of the books go on along all connections held, where the disk is clean
  pub live_on : (count : ℕ) (old new : Service D B) (printed : Text) → AreHeld way gives forward see count old new printed
      → HasCleanDisk (see new.books).state → (begin : Course) → KeepsLast start begin.over begin.life (see old.books)
      → ∥ LiveOn start way forward see count (service old.door begin old.answers) new ∥₁
  live_on zero old new printed (same, none) clean begin last =
      ∣ (begin, ap (λ s. service s.door begin s.answers) same, subst (λ s. KeepsLast start begin.over begin.life (see s.books)) (sym same) last) ∣₁
  live_on (suc count) old new printed (mid, before, held, (ready, are, one), all) clean begin last =
      let ready_is_clean = one.clean clean in
      ∥∥₁_elim (live_on count old mid before held (ready_clean way forward see goes_on mid.books ready are ready_is_clean) begin last) squash₁ (λ so_far.
      ∥∥₁_elim (next_course way forward see goes_on mid.books ready are ready_is_clean so_far.0 so_far.2) squash₁ (λ next.
      let kept = next.2 in
      let goes = one.lives clean next.0.life kept.kept in
      let lived = answers_by life_serves in
      let run = run_wider (clocked gives lived) lived (unclocked lived gives) message_refusal_of (next.0.life, mid.answers)
      (goes.0, new.answers) _ _ _ _ one.end goes.1 in
      let opening = run_opening (next.0.life, mid.answers) (goes.0, new.answers) _ _ _ _ one.end run in
      ∣ (
        course next.0.over goes.0,
        (
          service mid.door so_far.0 mid.answers,
          so_far.1,
          (
            next.0,
            next.1,
            record {
              reader = one.reader;
              writer = one.writer;
              line = one.line;
              read = one.read;
              written = one.written;
              used = one.used;
              end = one.end;
              held = one.held;
              accepted = one.accepted;
              run = run;
              ended = one.ended;
              over = refl;
            },
          ),
        ),
        record {
          led = subst (LeadTo start next.0.over) (sym opening) kept.led;
          kept = goes.2;
          clean = clean;
        },
      ) ∣₁))
