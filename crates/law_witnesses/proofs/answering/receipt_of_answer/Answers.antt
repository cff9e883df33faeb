use Rattle.std.proofs.Common.{◌≡◌, ◌∙◌, ℕ, List, [], ◌∷◌, ◌++◌, length, Some, true, ap, append-nil, inl, inr, refl, sym, subst, arith}
use Rattle.std.specs.Prelude.{IsTrue}
use Rattle.std.proofs.Math.Logic.{∥∥₁_elim}
use denote.Struct.Props.{props}
use Rattle.sqlite_disk.specs.declared.Files.{Files}
use Rattle.sqlite_disk.specs.declared.memory.Memory.{Memory}
use Rattle.desk_client.specs.Sent.{ask_text}
use Rattle.desk_commands.specs.Exchanged.{Round}
use Rattle.office_rules.specs.Office.{empty_office}
use Rattle.office_rules.specs.declared.decision.request.Order.{Order}
use Rattle.program_laws.specs.AtDesk.{came_in, sent_in}
use Rattle.program_laws.specs.runs.Asked.{CarriesIn, WordsSellAtDesk}
use Rattle.program_laws.specs.runs.Here.{use_of}
use Rattle.program_laws.specs.runs.Steps.{AreSoldFor}
use Rattle.sts_fields.specs.Text.{Text}
use Rattle.vend_core.specs.Law.Life.{present}
use Rattle.vend_ports.specs.declared.command_end.CommandEnd.TheVariants.{Done, Refused}
use Rattle.law_witnesses.specs.Asking.{ask_to_sell}
use Rattle.law_witnesses.specs.declared.answering.WaitingDoor.{WaitingDoor}
use Rattle.law_witnesses.specs.declared.asking.Line.{Line}
use Rattle.law_witnesses.proofs.AnsweringLemmas.{carries_first, same_order}
use Rattle.law_witnesses.proofs.AskingLemmas.{came_front, desk_replied}
use Rattle.law_witnesses.proofs.KeptLemmas.{these_files}
use Rattle.law_witnesses.proofs.RunLemmas.{goes_on_from, printed_of, prints_receipt, sold_before}
use Rattle.law_witnesses.proofs.answering.receipt_of_answer.Goals as goal

pub returns-in-Done-end-2 : goal.returns-in-Done-end-2
returns-in-Done-end-2 c =
    let all : (it : Memory) → IsTrue true = λ it. refl in
    let serving = c.run_law.ensures in
    let asking = c.run_law-2.ensures in
    let last = c.run_law-3.ensures in
    let wanted = c.in-Some.wanted in
    let said = c.in-Some-order_said.said in
    let ask = ask_to_sell wanted in
    let sold = c.in-Some-sold_on_files.files in
    let left = (c.in-Some-sold_on_files.ensures {u = tt}).left in
    let text = c.in-Some-rehearsed.text.items in
    let it = c.in-Some-ran.ensures {u = tt} in
    let command = c.in-Some-ran-2.ensures {u = tt} in
    let again = c.in-Some-ran-3.ensures {u = tt} in
    let ports = c.answering_ports-ports.ensures in
    let office = c.answering_ports-ports.result.office in
    let later = c.ports_on.result.office in
    let lives = left.life ∷ [] in
    let empty = c.office_law.ensures.empty in
    let Says : List Text → Type 0 = λ ws. WordsSellAtDesk ws wanted in
    let says = subst Says (sym command.by_words) (c.in-Some.ensures {u = tt}) in
    let unread : Line → List ℕ = λ line. line.unread.now in
    let sent : Line → List ℕ = λ line. line.sent.items in
    let text_of : WaitingDoor → List ℕ = λ door. door.text.now in
    let wanted_of : WaitingDoor → List ℕ = λ door. door.wanted.now in
    let one : IsProp (c.in-Some-ran-3.second.items ≡ c.in-Some-ran-2.first.items) = hlevel props in
    let went = goes_on_from _ serving it all empty_office lives (present left.life) sold empty left.lead left.found
    (λ path wait f how. these_files office.log office.db sold f ports.log ports.db how) in
    elim (asking.sells_at_desk command.run wanted says) [
      | inl asks ↦ ∥∥₁_elim went one (λ goes.
          let replied = desk_replied _ command wanted asks.0 asks.1 c.in-Done-end.is in
          let front = came_front _ unread sent _ replied.desk (ask_text ask) replied.came text replied.had
          (λ line called. called ∙ c.calling_ports.ensures ∙ c.deref-4.ensures.value) in
          let carried = carries_first _ it (ask_text ask ++ []) (replied.came ++ [])
          (λ address port door heard. record {
            sees = λ reader writer line holding read written used end between next other second last accepts ends after.
                let whole = ends.1 (after.4 (ends.0 ∙ accepts.2)) in (
                  whole.0,
                  ap Some accepts.1,
                  (
                    reader.now,
                    written.items,
                    refl,
                    refl,
                    record {
                      later = [];
                      reads =
                          accepts.0 ∙ ap text_of heard ∙ ports.text ∙ c.deref-2.ensures.value ∙ c.in-Ok.ensures {u = tt}
                          ∙ sym (append-nil (ask_text ask)) ∙ sym (append-nil (ask_text ask ++ []));
                      behind = front.0;
                      writes =
                          whole.1 ∙ accepts.3 ∙ ap wanted_of heard ∙ ports.wanted ∙ c.deref-3.ensures.value ∙ front.1
                          ∙ ap (λ (bytes : List ℕ). bytes ++ front.0) (sym (append-nil replied.came));
                      few =
                          omega (
                            arith,
                            c.in-Some-rehearsed.ensures {u = tt},
                            ap length (whole.1 ∙ accepts.3 ∙ ap wanted_of heard ∙ ports.wanted ∙ c.deref-3.ensures.value),
                          );
                    },
                  ),
                );
          })
          (c.ask_for_two.ensures c.if-not-ask_for_two.false) c.in-Done.is lives goes.0 goes.1.lived in
          let Carry : List Round → Type 0 = λ rounds. CarriesIn (use_of _ it.run) lives goes.0 goes.1.lived (sent_in rounds) (came_in rounds) in
          let printed =
          c.program_law.ensures.sold_at_desk empty_office it.run lives goes.0 command.run wanted asks.0 empty goes.1 asks.1
          (subst Carry (sym replied.rounds_are) carried) in
          elim printed [
            | inl has ↦
                let For : Order → Type 0 = λ order. AreSoldFor (lives ++ goes.0) order has.0 in
                let sold_then : For said = subst For (same_order wanted said (c.are_one_order.ensures c.if-not-are_one_order.false)) has.2 in
                let log : Memory = c.in-Some-back_of.log in
                let db : Memory = c.in-Some-back_of.db in
                let files : Files Memory = record { log = log; db = db } in
                let given = goes.1.given log db (it.gave ∙ sym c.back_of.ensures ∙ c.in-Some-back_of.is) refl in
                let after = goes_on_from _ last again all empty_office (lives ++ goes.0) goes.1.lead.0 files empty goes.1.lead.1 given
                (λ path wait f how. these_files later.log later.db files f c.ports_on.ensures.log c.ports_on.ensures.db how) in
                ∥∥₁_elim after one (λ more.
                prints_receipt _ last again empty_office (lives ++ goes.0) more.0 said has.0 more.1 (c.in-Some-order_said.ensures {u = tt})
                (sold_before (lives ++ goes.0) more.0 said has.0 sold_then) c.in-Done-end-2.is ∙ sym (printed_of _ asking command has.0 has.1))
            | inr why ↦ absurd (let end_is : Done ≡ Refused = sym (command.ended ∙ c.in-Done-end.is) ∙ why.1.2 in cc)
          ])
      | inr told ↦ absurd (let end_is : Done ≡ Refused = sym (command.ended ∙ c.in-Done-end.is) ∙ told.2 in cc)
    ]
