use Rattle.std.proofs.Common.{◌≡◌, ◌∙◌, ◌++◌, [], ◌∷◌, true, refl, sym}
use Rattle.std.specs.Prelude.{IsTrue}
use Rattle.std.proofs.Math.Logic.{∥∥₁_elim}
use denote.Struct.Props.{props}
use Rattle.sqlite_disk.specs.declared.Files.{Files}
use Rattle.sqlite_disk.specs.declared.memory.Memory.{Memory}
use Rattle.office_rules.specs.Office.{empty_office}
use Rattle.papers.specs.Receipt.{receipt_of}
use Rattle.vend_core.specs.Law.Life.{present}
use Rattle.law_witnesses.proofs.KeptLemmas.{these_files}
use Rattle.law_witnesses.proofs.RunLemmas.{goes_on_from, prints_receipt, sold_before}
use Rattle.law_witnesses.proofs.breaking.receipt_after_desk.Goals as goal

pub returns-in-Done : goal.returns-in-Done
returns-in-Done c =
    let all : (it : Memory) → IsTrue true = λ it. refl in
    let first = c.run_law.ensures in
    let second = c.run_law-2.ensures in
    let order = c.in-Some.said in
    let says = c.in-Some.ensures {u = tt} in
    let sale = c.in-Some-sold_on_files.sale in
    let sold = c.in-Some-sold_on_files.files in
    let left = (c.in-Some-sold_on_files.ensures {u = tt}).left in
    let it = c.in-Some-ran.ensures {u = tt} in
    let again = c.in-Some-ran-2.ensures {u = tt} in
    let then = c.ports_with-ports.result.office in
    let later = c.ports_on.result.office in
    let lives = left.life ∷ [] in
    let empty = c.office_law.ensures.empty in
    let went = goes_on_from _ first it all empty_office lives (present left.life) sold empty left.lead left.found
    (λ path wait f how. these_files then.log then.db sold f c.ports_with-ports.ensures.log c.ports_with-ports.ensures.db how) in
    let one : IsProp (c.in-Some-ran-2.printed.items ≡ receipt_of sale) = hlevel props in
    ∥∥₁_elim went one (λ goes.
    let log : Memory = c.in-Some-back_of.log in
    let db : Memory = c.in-Some-back_of.db in
    let files : Files Memory = record { log = log; db = db } in
    let given = goes.1.given log db (it.gave ∙ sym c.back_of.ensures ∙ c.in-Some-back_of.is) refl in
    let after = goes_on_from _ second again all empty_office (lives ++ goes.0) goes.1.lead.0 files empty goes.1.lead.1 given
    (λ path wait f how. these_files later.log later.db files f c.ports_on.ensures.log c.ports_on.ensures.db how) in
    ∥∥₁_elim after one (λ more.
    prints_receipt _ second again empty_office (lives ++ goes.0) more.0 order sale more.1 says
    (sold_before (lives ++ goes.0) more.0 order sale (sold_before lives goes.0 order sale left.sold)) c.in-Done.is))
