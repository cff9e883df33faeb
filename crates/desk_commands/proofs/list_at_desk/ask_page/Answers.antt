use Rattle.std.proofs.Common.{◌∙◌, Ok, Err, Result}
use Rattle.sts_fields.specs.Text.{Text}
use Rattle.asks.specs.declared.ask.Ask.TheVariants.{Look}
use Rattle.asks.specs.declared.lookup.Lookup.{Lookup}
use Rattle.book_states.specs.declared.lookup.Found.{Found}
use Rattle.desk_client.specs.Sent.{ask_text}
use Rattle.vend_ports.specs.print.Sink.{Held}
use Rattle.desk_commands.specs.Exchanged.{IsRound}
use Rattle.desk_commands.specs.ListedAtDesk.{IsPageAsked, IsPageIn}
use Rattle.desk_commands.specs.declared.list_at_desk.PageFault.{PageFault}
use Rattle.desk_commands.specs.declared.list_at_desk.PageFault.TheVariants as faults
use Rattle.desk_commands.proofs.list_at_desk.ask_page.Goals as goal

-- what came on a round is what was asked for, whatever the page that it tells
page_asked : {S : Type 0} (remaining contents : S → Held) (list : Lookup) (fresh last : S) (came : Text) (page : Result Found PageFault)
    → IsRound remaining contents fresh last (ask_text (Look list)) came → IsPageIn list came page
    → IsPageAsked remaining contents list fresh last page
page_asked remaining contents list fresh last came (Ok page) round tells = (came, round, tells)
page_asked remaining contents list fresh last came (Err faults.NoMessage) round tells = absurd tells
page_asked remaining contents list fresh last came (Err faults.Unsent) round tells = absurd tells
page_asked remaining contents list fresh last came (Err (faults.Refused refusal)) round tells = (came, round, tells)
page_asked remaining contents list fresh last came (Err faults.NoMoment) round tells = (came, round, tells)
page_asked remaining contents list fresh last came (Err faults.OutOfForm) round tells = (came, round, tells)
page_asked remaining contents list fresh last came (Err faults.Memory) round tells = (came, round, tells)

pub returns-in-Some : goal.returns-in-Some
returns-in-Some g c =
    let sent = rw (c.deref.ensures.value ∙ c.in-Ok.ensures) at c.in-Some.ensures.held in
    page_asked g.S.Read.remaining g.S.Write.contents c.args.list c.args.stream.now c.exchange_on.new.stream c.in-Some.came.items c.page_of.result sent
    (rw c.deref-in-Some.ensures.value at c.page_of.ensures)
