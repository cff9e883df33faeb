-- A sale that was read, or told at a desk, was handed out in a life.
use Rattle.std.proofs.Common.{◌≡◌, ◌⊎◌, ℕ, zero, suc, List, [], ◌∷◌, ◌++◌, Option, Result, Ok, Err, inl, inr, refl, sym, subst, arith}
use Rattle.std.specs.Prelude.{Contains}
use Rattle.std.proofs.lemmas.List.Elements.{Contains-append_left, Contains-append_right}
use Rattle.sqlite_disk.specs.declared.Disk as disk
use Rattle.books.specs.Headline.{with_last}
use Rattle.command_line.specs.Transform.{forward_of}
use Rattle.command_line.specs.declared.transform.Shipped.TheVariants.{Plain}
use Rattle.asks.specs.declared.ask.Ask.{Ask}
use Rattle.asks.specs.declared.ask.Ask.TheVariants.{Do, Import, Look, Receipt}
use Rattle.desk.specs.Answering.{IsImported, IsServed, LifeReplies, answers_by, life_serves, message_refusal_of}
use Rattle.desk_messages.specs.declared.reply.outcome.Outcome.{Outcome}
use Rattle.papers.specs.declared.row_fault.RowFault.{RowFault}
use Rattle.papers.specs.declared.row_fault.RowFault.TheVariants.{At, Memory as NoRoom}
use Rattle.conversation.specs.Exchanges.{Exchanged, GaveUp, MessageExchange, Timed, timed}
use Rattle.conversation.specs.message.Messages.{BeginsMessage, Message}
use Rattle.conversation.specs.Conversation.{IsNextText}
use Rattle.conversation.proofs.InterimLemmas.{leaves_office}
use Rattle.conversation.specs.Run.{IsRun}
use Rattle.conversation.specs.declared.end.End as conversation
use Rattle.conversation.specs.declared.end.End.TheVariants.{Closed, BadMessage, ReadFault, WriteFault, Memory}
use Rattle.sts_token.specs.Token.{BlockFunction}
use Rattle.office_rules.specs.Law.Handed.{sales_of}
use Rattle.vend_core.specs.Law.Life.{HandsOut, IsHanded, Life}
use Rattle.vend_core.specs.Law.LifeLaws.{extended_by, opened}
use Rattle.office_rules.specs.declared.decision.answer.Answer.{Answer}
use Rattle.office_rules.specs.declared.decision.refusal.Refusal.{Refusal}
use Rattle.office_rules.specs.declared.decision.request.Request.{Request}
use Rattle.office_rules.specs.declared.decision.request.Request.TheVariants as requests
use Rattle.office_rules.specs.declared.decision.request.Stamped.{Stamped}
use Rattle.office_rules.specs.declared.office.row.Row.{Row}
use Rattle.office_rules.specs.declared.office.sale.Sale.{Sale}
use Rattle.vend_commands.specs.serving.Connections.{Service, service}
use Rattle.program_laws.specs.Courses.{AreLived, Course, IsNext, course}
use Rattle.program_laws.specs.SalesTold.{ConnectionsTell, CutReplyTells, ExchangeTells, ExchangesTell, RunTells, sales_came}
use Rattle.vend_commands.specs.port.Machines.{Way}
use Rattle.program_laws.specs.runs.Steps.{LivesIn, TellsIn}
use Rattle.program_laws.specs.runs.Uses.{RunUse, asking_life, connected, idle_life, many_lives, no_life, reading_life, unconnected, unseen}
use Rattle.program_laws.proofs.FoundLemmas.{found_hands, read_hands}
use Rattle.program_laws.proofs.LookupLemmas.{none_there}

-- what the law of a life says of the sales that it hands out
pub record HandingLaws : Type 0 where
  pub replied : (life : Life) (at : Stamped) (reply : Result Answer Refusal) (s : Sale) → Contains (sales_of reply) s → HandsOut (extended_by life at reply) s
  pub for_good : (life : Life) (at : Stamped) (reply : Result Answer Refusal) (s : Sale) → HandsOut life s → HandsOut (extended_by life at reply) s

-- what was handed out in some lives was so in these and more
pub handed_more : (lives more : List Life) (s : Sale) → IsHanded lives s → IsHanded (lives ++ more) s
handed_more lives more s (life, there, hands) = (life, Contains-append_left lives more life there, hands)

module _ (laws : HandingLaws) (s : Sale) where
  -- ---- what is served

  replied_keeps : (old new : Life) (moment : ℕ) (request : Request) (reply : Result Answer Refusal) → LifeReplies moment request reply old new
      → HandsOut old s → HandsOut new s
  replied_keeps old new moment request reply (at, stamped, goes) hands = subst (λ l. HandsOut l s) (sym goes) (laws.for_good old at reply s hands)

  replied_hands : (old new : Life) (moment : ℕ) (request : Request) (reply : Result Answer Refusal) → LifeReplies moment request reply old new
      → Contains (sales_of reply) s → HandsOut new s
  replied_hands old new moment request reply (at, stamped, goes) told = subst (λ l. HandsOut l s) (sym goes) (laws.replied old at reply s told)

  imported_keeps : (moment : ℕ) (read : Result (List Row) RowFault) (outcome : Outcome) (old new : Life) → IsImported life_serves moment read outcome old new
      → HandsOut old s → HandsOut new s
  imported_keeps moment (Ok rows) outcome old new (reply, same, replies) hands = replied_keeps old new moment (requests.Import rows) reply replies hands
  imported_keeps moment (Err (At row cause)) outcome old new (same, stays) hands = subst (λ l. HandsOut l s) (sym stays) hands
  imported_keeps moment (Err NoRoom) outcome old new none hands = absurd none

  -- a life hands out what it handed out before something was asked
  served_keeps : (moment : ℕ) (ask : Ask) (outcome : Outcome) (old new : Life) → IsServed life_serves moment ask outcome old new
      → HandsOut old s → HandsOut new s
  served_keeps moment (Import kind csv) outcome old new (read, is, imported) hands = imported_keeps moment read outcome old new imported hands
  served_keeps moment (Do request) outcome old new (reply, same, replies) hands = replied_keeps old new moment request reply replies hands
  served_keeps moment (Receipt sale) outcome old new (reply, same, replies) hands = replied_keeps old new moment (requests.Reprint sale) reply replies hands
  served_keeps moment (Look lookup) outcome old new (found, same, (finds, stays)) hands = subst (λ l. HandsOut l s) (sym stays) hands

  -- the sale is in what came
  abbrev Has : Outcome → Type 0
  Has outcome = Contains (sales_came outcome) s

  imported_hands : (moment : ℕ) (read : Result (List Row) RowFault) (outcome : Outcome) (old new : Life) → IsImported life_serves moment read outcome old new
      → Has outcome → HandsOut new s
  imported_hands moment (Ok rows) outcome old new (reply, same, replies) told =
      replied_hands old new moment (requests.Import rows) reply replies (subst Has same told)
  imported_hands moment (Err (At row cause)) outcome old new (same, stays) told = absurd (none_there s (subst Has same told))
  imported_hands moment (Err NoRoom) outcome old new none told = absurd none

  -- and what came of it
  pub served_hands : (moment : ℕ) (ask : Ask) (outcome : Outcome) (old new : Life) → IsServed life_serves moment ask outcome old new
      → Contains (sales_came outcome) s → HandsOut new s
  served_hands moment (Import kind csv) outcome old new (read, is, imported) told = imported_hands moment read outcome old new imported told
  served_hands moment (Do request) outcome old new (reply, same, replies) told = replied_hands old new moment request reply replies (subst Has same told)
  served_hands moment (Receipt sale) outcome old new (reply, same, replies) told =
      replied_hands old new moment (requests.Reprint sale) reply replies (subst Has same told)
  served_hands moment (Look lookup) outcome old new (found, same, (finds, stays)) told =
      subst (λ l. HandsOut l s) (sym stays) (found_hands old moment lookup found s finds (subst Has same told))

  -- ---- along a conversation

  -- so it does before a message
  answered_keeps : (old new : Timed Life) (x : MessageExchange) → timed (answers_by life_serves) old x new → HandsOut old.0 s → HandsOut new.0 s
  answered_keeps old new x ((outcome, inl (fault, has, is, same), told), clock) hands = subst (λ (l : Life). HandsOut l s) (sym same) hands
  answered_keeps old new x ((outcome, inr (moment, ask, asks, serves), told), clock) hands = served_keeps moment ask outcome old.0 new.0 serves hands

  exchanged_keeps : (old new : Timed Life) (xs : List MessageExchange) → Exchanged (timed (answers_by life_serves)) old xs new
      → HandsOut old.0 s → HandsOut new.0 s
  exchanged_keeps old new [] same hands = subst (λ (l : Timed Life). HandsOut l.0 s) (sym same) hands
  exchanged_keeps old new (x ∷ xs) (mid, first, later) hands = exchanged_keeps mid new xs later (answered_keeps old mid x first hands)

  late_keeps : (rest : List ℕ) (mid new : Timed Life)
      → (new ≡ mid) ⊎ ((m : Message) × (after : List ℕ) × BeginsMessage rest m after × GaveUp (answers_by life_serves) mid m new)
      → HandsOut mid.0 s → HandsOut new.0 s
  late_keeps rest mid new (inl same) hands = subst (λ (l : Timed Life). HandsOut l.0 s) (sym same) hands
  late_keeps rest mid new (inr (m, after, begins, (now, reads, inl same))) hands = subst (λ (l : Life). HandsOut l s) (sym same) hands
  late_keeps rest mid new (inr (m, after, begins, (now, reads, inr (reply, step)))) hands =
      answered_keeps mid new (record { message = m; now = now; reply = reply }) (step, reads) hands

  run_keeps : (old new : Timed Life) (unread left held holds : Option (List ℕ)) (end : conversation.End)
      → IsRun (answers_by life_serves) message_refusal_of old new unread left held holds end → HandsOut old.0 s → HandsOut new.0 s
  run_keeps old new unread left held holds Closed (input, all, inl (expects, said)) hands =
      exchanged_keeps old new said.conversation.exchanges said.conversation.served hands
  run_keeps old new unread left held holds Closed (input, all, inr said) hands =
      exchanged_keeps old new said.conversation.exchanges said.conversation.served hands
  run_keeps old new unread left held holds BadMessage (input, all, fault, said) hands =
      exchanged_keeps old new said.conversation.exchanges said.conversation.served hands
  run_keeps old new unread left held holds ReadFault (input, taken, expects, said) hands =
      exchanged_keeps old new said.conversation.exchanges said.conversation.served hands
  run_keeps old new unread left held holds WriteFault (input, all, text, appends, cut) hands =
      let before = exchanged_keeps old cut.mid cut.before.exchanges cut.before.served hands in
      elim cut.is_last [
        | inl reply ↦ answered_keeps cut.mid new reply.exchange reply.answered before
        | inr other ↦ subst (λ (l : Timed Life). HandsOut l.0 s) (sym (leaves_office message_refusal_of cut.rest cut.mid cut.last new other)) before
      ]
  run_keeps old new unread left held holds Memory (input, all, text, appends, given) hands =
      late_keeps given.rest given.mid new given.after (exchanged_keeps old given.mid given.before.exchanges given.before.served hands)

  -- ---- what is told is handed out

  exchange_hands : (old new : Life) (x : MessageExchange) → ExchangeTells old x new s → HandsOut new s
  exchange_hands old new x told = served_hands told.served.moment told.served.ask told.served.outcome old new told.goes told.has

  exchanges_hand : (old new : Timed Life) (xs : List MessageExchange) (served : Exchanged (timed (answers_by life_serves)) old xs new)
      → ExchangesTell old xs new served s → HandsOut new.0 s
  exchanges_hand old new [] same told = absurd told
  exchanges_hand old new (x ∷ xs) (mid, first, later) (inl told) = exchanged_keeps mid new xs later (exchange_hands old.0 mid.0 x told)
  exchanges_hand old new (x ∷ xs) (mid, first, later) (inr told) = exchanges_hand mid new xs later told

  cut_reply_hands : (old new : Timed Life) (rest last : List ℕ)
      (is : IsNextText (timed (answers_by life_serves)) message_refusal_of rest old last new)
      → CutReplyTells is s → HandsOut new.0 s
  cut_reply_hands old new rest last (inl reply) told = exchange_hands old.0 new.0 reply.exchange told
  cut_reply_hands old new rest last (inr other) told = absurd told

  run_hands : (old new : Timed Life) (unread left held holds : Option (List ℕ)) (end : conversation.End)
      (run : IsRun (answers_by life_serves) message_refusal_of old new unread left held holds end)
      → RunTells old new unread left held holds end run s → HandsOut new.0 s
  run_hands old new unread left held holds Closed (input, all, inl (expects, said)) told = exchanges_hand old new said.conversation.exchanges said.conversation.served told
  run_hands old new unread left held holds Closed (input, all, inr said) told = exchanges_hand old new said.conversation.exchanges said.conversation.served told
  run_hands old new unread left held holds BadMessage (input, all, fault, said) told =
      exchanges_hand old new said.conversation.exchanges said.conversation.served told
  run_hands old new unread left held holds ReadFault (input, taken, expects, said) told =
      exchanges_hand old new said.conversation.exchanges said.conversation.served told
  run_hands old new unread left held holds WriteFault (input, all, text, appends, cut) (inr told) =
      cut_reply_hands cut.mid new cut.rest cut.last cut.is_last told
  run_hands old new unread left held holds WriteFault (input, all, text, appends, cut) (inl told) =
      let before = exchanges_hand old cut.mid cut.before.exchanges cut.before.served told in
      elim cut.is_last [
        | inl reply ↦ answered_keeps cut.mid new reply.exchange reply.answered before
        | inr other ↦ subst (λ (l : Timed Life). HandsOut l.0 s) (sym (leaves_office message_refusal_of cut.rest cut.mid cut.last new other)) before
      ]
  run_hands old new unread left held holds Memory (input, all, text, appends, given) told =
      late_keeps given.rest given.mid new given.after (exchanges_hand old given.mid given.before.exchanges given.before.served told)

  -- ---- along connections

  -- it was handed out in a life that is over, or in the one that goes on
  abbrev IsHandedOn : Course → Type 0
  IsHandedOn c = IsHanded c.over s ⊎ HandsOut c.life s

  all_handed : (c : Course) → IsHandedOn c → IsHanded (with_last c.over c.life) s
  all_handed c (inl handed) = handed_more c.over (c.life ∷ []) s handed
  all_handed c (inr hands) = (c.life, Contains-append_right c.over (c.life ∷ []) c.life (0, omega arith, refl), hands)

  next_handed : (forward : BlockFunction) (old new : Course) → IsNext forward old new → IsHandedOn old → IsHandedOn new
  next_handed forward old new (inl same) handed = subst IsHandedOn (sym same) handed
  next_handed forward old new (inr (o, left, is)) handed = subst IsHandedOn (sym is) (inl (all_handed old handed))

  module _ {D R W : Type 0} (way : Way D R W) (forward : BlockFunction) where
    connections_hand : (count : ℕ) (old new : Service D Course) (lived : AreLived way forward count old new)
        → ConnectionsTell way forward count old new lived s → IsHandedOn new.books
    connections_hand zero old new same told = absurd told
    connections_hand (suc count) old new (mid, before, (next, is, goes)) (inl told) =
        elim (next_handed forward mid.books next is (connections_hand count old mid before told)) [
          | inl handed ↦ inl (subst (λ l. IsHanded l s) (sym goes.over) handed)
          | inr hands ↦ inr (run_keeps (next.life, mid.answers) (new.books.life, new.answers) _ _ _ _ goes.end goes.run hands)
        ]
    connections_hand (suc count) old new (mid, before, (next, is, goes)) (inr told) =
        inr (run_hands (next.life, mid.answers) (new.books.life, new.answers) _ _ _ _ goes.end goes.run told)

  -- what was read or told at a desk in a use was handed out in its lives, or in those before
  pub use_hands : {M : Type 0} {g : disk.Ghosts M} (made : RunUse g) (before own : List Life) (lived : LivesIn made before own) → TellsIn made before own lived s → IsHanded (before ++ own) s
  use_hands unseen before own lived told = absurd told
  use_hands (unconnected found left) before own lived told = absurd told
  use_hands (connected image no_life last) before own lived told = absurd told
  use_hands (connected image (idle_life transform) last) before own lived told = absurd told
  use_hands (connected image (reading_life moment reading) last) before own (office, is, one) told =
      let life = opened (forward_of Plain) office in
      subst (λ l. IsHanded (before ++ l) s) (sym one) (
        life,
        Contains-append_right before (life ∷ []) life (0, omega arith, refl),
        read_hands life moment reading s is told,
      )
  use_hands (connected image (asking_life q) last) before own lived told = absurd told
  use_hands (connected image (many_lives way forward count door answers last_door left) last) before own (office, ends, next, lived, follows, all) told =
      let old = service door (course before (opened forward office)) answers in
      let handed = connections_hand way forward count old (service last_door ends left) lived told in
      subst (λ l. IsHanded l s) (sym all) (all_handed next (next_handed forward ends next follows handed))
