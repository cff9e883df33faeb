use Rattle.std.proofs.Common.{◌≡◌, Some, inl, refl, w64, to_z, of_z}
use Rattle.std.proofs.lemmas.Int.{to_z-of_z}
use Rattle.books.specs.Keeps.{seen}
use Rattle.conversation.specs.message.Next.{message_of}
use Rattle.desk.specs.Answering.{books_serve}
use Rattle.desk.proofs.ServingLemmas.{comes_at, told_at, was_answered, was_given_up}
use Rattle.desk.proofs.desk.DeskServiceBooks.answer.Goals as goal

pub returns-in-Ok-clause-ok : goal.returns-in-Ok-clause-ok
returns-in-Ok-clause-ok g c =
    let serves = books_serve (seen {g = g.S.Store} {h = g.T.BlockTransform}) in
    let m = message_of c.args.message.now in
    let second = c.now-second.result in
    let given = to_z w64 (of_z w64 second) in
    let same : given ≡ second = to_z-of_z w64 second (record { sfits = c.now-second.type_inv }) in
    was_answered serves (g.C.Clock.reads c.args.clock.now) (λ v. v.items) (c.args.office.now, g.C.Clock.answers c.args.clock.now)
    (c.outcome_of.new.office, g.C.Clock.answers c.now-second.new.self) m (Some second) c.in-Ok.outcome c.reply_to.result
    c.now-second.ensures.gives c.now-second.ensures.reads
    (comes_at serves m given second c.in-Ok.outcome c.args.office.now c.outcome_of.new.office same c.in-Ok.ensures.comes)
    (told_at (λ v. v.items) m given second c.moment_given-dated.result c.in-Ok.outcome c.reply_to.result same c.moment_given-dated.ensures c.reply_to.ensures)

pub returns-in-Ok-clause-err : goal.returns-in-Ok-clause-err
returns-in-Ok-clause-err g c =
    let serves = books_serve (seen {g = g.S.Store} {h = g.T.BlockTransform}) in
    let m = message_of c.args.message.now in
    let second = c.now-second.result in
    let given = to_z w64 (of_z w64 second) in
    let same : given ≡ second = to_z-of_z w64 second (record { sfits = c.now-second.type_inv }) in
    was_given_up serves (g.C.Clock.reads c.args.clock.now) (c.args.office.now, g.C.Clock.answers c.args.clock.now)
    (c.outcome_of.new.office, g.C.Clock.answers c.now-second.new.self) m (Some second) c.in-Ok.outcome c.reply_to.result
    c.now-second.ensures.gives c.now-second.ensures.reads
    (comes_at serves m given second c.in-Ok.outcome c.args.office.now c.outcome_of.new.office same c.in-Ok.ensures.comes)

pub returns-in-Err-clause-err : goal.returns-in-Err-clause-err
returns-in-Err-clause-err g c = (Some c.now-second.result, c.now-second.ensures.gives, inl c.in-Err.ensures.short)
