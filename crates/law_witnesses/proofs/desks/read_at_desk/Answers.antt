use Rattle.std.proofs.Common.{◌≡◌, ◌∙◌, ◌++◌, ℕ, List, [], append-nil, subst, sym}
use Rattle.asks.specs.Ask.{Asks, message_of}
use Rattle.asks.specs.declared.ask.Ask.TheVariants.{Do}
use Rattle.conversation.specs.message.Messages.{BeginsMessage, Message}
use Rattle.desk_client.specs.Sent.{ask_text}
use Rattle.office_rules.specs.declared.decision.request.Request.TheVariants.{Sell}
use Rattle.law_witnesses.specs.Asking.{ask_to_sell}
use Rattle.law_witnesses.proofs.desks.read_at_desk.Goals as goal

pub returns-in-Asks-default-Do : goal.returns-in-Asks-default-Do
returns-in-Asks-default-Do c =
    let ask = ask_to_sell c.args.order.now in
    let m = message_of ask in
    let can = c.keeps_rules.ensures in
    let text : c.deref.result.now ≡ ask_text ask ++ [] = c.deref.ensures.value ∙ c.in-Ok.ensures {u = tt} ∙ sym (append-nil _) in
    let Begins : List ℕ → Type 0 = λ input. BeginsMessage input m [] in
    let begins : Begins c.deref.result.now = subst Begins (sym text) (c.question_law.ensures.sent ask [] can) in
    let whole = (c.in-Whole.ensures {u = tt}).finds.whole m [] begins in
    let found = c.in-Asks-default-Do.field-1 in
    let AsksOf : Message → Type 0 = λ message. Asks message found in
    let asked : AsksOf m = subst AsksOf whole.0 (c.in-Asks-default-Do.ensures {u = tt}).asks in
    let one : found ≡ Do (Sell c.args.order.now) = c.ask_law.ensures.one m found ask asked (c.ask_law.ensures.own ask can.askable) in
    let is : found ≡ Do c.in-Asks-default-Do.request = c.in-Asks-default-Do.field-1-is in
    cc
