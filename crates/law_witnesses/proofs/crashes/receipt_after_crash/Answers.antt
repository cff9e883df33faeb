use Rattle.std.proofs.Common.{◌≡◌, ◌∙◌, ◌++◌, [], ◌∷◌, true, refl, sym}
use Rattle.std.specs.Prelude.{IsTrue}
use Rattle.std.proofs.Math.Logic.{∥∥₁_elim}
use denote.Struct.Props.{props}
use Rattle.sqlite_disk.specs.declared.Files.{Files}
use Rattle.sqlite_disk.specs.declared.memory.Memory.{Memory}
use Rattle.office_rules.specs.Office.{empty_office}
use Rattle.vend_core.specs.Law.Life.{present}
use Rattle.law_witnesses.proofs.CrashLemmas.{found_after}
use Rattle.law_witnesses.proofs.FirstLemmas.{sells_first}
use Rattle.law_witnesses.proofs.KeptLemmas.{these_files}
use Rattle.law_witnesses.proofs.RunLemmas.{goes_on_from, prints_receipt, sold_before}
use Rattle.law_witnesses.proofs.crashes.receipt_after_crash.Goals as goal

pub returns-in-Done-end : goal.returns-in-Done-end
returns-in-Done-end c =
    let all : (it : Memory) → IsTrue true = λ it. refl in
    let first = c.run_law.ensures in
    let second = c.run_law-2.ensures in
    let order = c.in-Some._said in
    let says = c.in-Some.ensures {u = tt} in
    let sold = c.in-Some-sold_on_files.files in
    let left = (c.in-Some-sold_on_files.ensures {u = tt}).left in
    let it = c.in-Some-ran.ensures {u = tt} in
    let again = c.in-Some-ran-2.ensures {u = tt} in
    let then = c.ports_on.result.office in
    let later = c.ports_on-2.result.office in
    let lives = left.life ∷ [] in
    let empty = c.office_law.ensures.empty in
    let went = goes_on_from _ first it all empty_office lives (present left.life) sold empty left.lead left.found
    (λ path wait f how. these_files then.log then.db sold f c.ports_on.ensures.log c.ports_on.ensures.db how) in
    let one : IsProp (c.in-Some-ran-2.second.items ≡ c.in-Some-ran.first.items) = hlevel props in
    ∥∥₁_elim went one (λ goes.
    let sale = sells_first _ first it empty_office lives goes.0 order goes.1 says c.in-Done.is in
    let log : Memory = c.in-Some-back_of.log in
    let db : Memory = c.in-Some-back_of.db in
    let files : Files Memory = record { log = log; db = db } in
    let stopped : Files Memory = record { log = c.crashed.result; db = c.crashed-2.result } in
    let given = goes.1.given log db (it.gave ∙ sym c.back_of.ensures ∙ c.in-Some-back_of.is) refl in
    let found = found_after _ files stopped _ c.crashed.ensures.left c.crashed-2.ensures.left given in
    let after = goes_on_from _ second again all empty_office (lives ++ goes.0) goes.1.lead.0 stopped empty goes.1.lead.1 found
    (λ path wait f how. these_files later.log later.db stopped f c.ports_on-2.ensures.log c.ports_on-2.ensures.db how) in
    ∥∥₁_elim after one (λ more.
    prints_receipt _ second again empty_office (lives ++ goes.0) more.0 order sale.0 more.1 says
    (sold_before (lives ++ goes.0) more.0 order sale.0 sale.1) c.in-Done-end.is
    ∙ sym (prints_receipt _ first it empty_office lives goes.0 order sale.0 goes.1 says sale.1 c.in-Done.is)))
