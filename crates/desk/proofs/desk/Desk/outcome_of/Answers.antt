use Rattle.std.proofs.Common.{◌≡◌, Some, refl, subst, w64, to_z, of_z}
use Rattle.std.proofs.lemmas.Int.{to_z-of_z}
use Rattle.books.specs.Keeps.{seen}
use Rattle.conversation.specs.message.Next.{message_of}
use Rattle.desk.specs.Answering.{books_serve}
use Rattle.desk.proofs.ServingLemmas.{comes_asked_of, comes_told}
use Rattle.desk_messages.specs.Meaning.{IsMeaning}
use Rattle.desk.proofs.desk.Desk.outcome_of.Goals as goal

pub returns-in-Asks-clause-comes : goal.returns-in-Asks-clause-comes
returns-in-Asks-clause-comes g c =
    let m = message_of c.args.message.now in
    let second = c.args.second in
    let same : to_z w64 (of_z w64 second) ≡ second = to_z-of_z w64 second c.ranges.second in
    comes_asked_of (books_serve (seen {g = g.S.Store} {h = g.T.BlockTransform})) m (Some second) c.meaning_of.result
    c.in-Asks.moment c.in-Asks.ask c.serve.result c.args.office.now c.serve.new.office
    (subst (λ z. IsMeaning m (Some z) c.meaning_of.result) same c.meaning_of.ensures) c.in-Asks.is c.serve.ensures.served

pub returns-in-Told-clause-comes : goal.returns-in-Told-clause-comes
returns-in-Told-clause-comes g c =
    let m = message_of c.args.message.now in
    let second = c.args.second in
    let same : to_z w64 (of_z w64 second) ≡ second = to_z-of_z w64 second c.ranges.second in
    comes_told (books_serve (seen {g = g.S.Store} {h = g.T.BlockTransform})) m (Some second) c.meaning_of.result
    c.in-Told.fault _ c.args.office.now c.args.office.now
    (subst (λ z. IsMeaning m (Some z) c.meaning_of.result) same c.meaning_of.ensures) c.in-Told.is refl refl
