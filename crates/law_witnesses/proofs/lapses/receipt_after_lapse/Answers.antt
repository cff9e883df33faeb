use Rattle.std.proofs.Common.{◌≡◌, ◌∙◌, ◌++◌, [], ◌∷◌, true, refl, subst, sym}
use Rattle.std.specs.Prelude.{IsTrue}
use Rattle.std.proofs.Math.Logic.{∥∥₁_elim}
use denote.Struct.Props.{props}
use Rattle.sqlite_disk.specs.contracts.memory.MemoryDisk.TheImpl as memory_disk
use Rattle.sqlite_disk.specs.declared.Files.{Files}
use Rattle.sqlite_disk.specs.declared.memory.Memory.{Memory}
use Rattle.office_rules.specs.Office.{empty_office}
use Rattle.vend_core.specs.Law.Life.{present}
use Rattle.program_laws.specs.runs.Files.{AreFoundSo}
use Rattle.program_laws.specs.runs.Steps.{IsOf}
use Rattle.law_witnesses.proofs.FirstLemmas.{sells_first}
use Rattle.law_witnesses.proofs.KeptLemmas.{found_these, same_files, these_files}
use Rattle.law_witnesses.proofs.RunLemmas.{goes_on_from, prints_receipt, sold_before}
use Rattle.law_witnesses.proofs.lapses.receipt_after_lapse.Goals as goal

pub returns-in-Done-end : goal.returns-in-Done-end
returns-in-Done-end c =
    let all : (it : Memory) → IsTrue true = λ it. refl in
    let first = c.run_law.ensures in
    let lapse = c.run_law-2.ensures in
    let last = c.run_law-3.ensures in
    let order = c.in-Some._said in
    let says = c.in-Some.ensures {u = tt} in
    let sold = c.in-Some-sold_on_files.files in
    let left = (c.in-Some-sold_on_files.ensures {u = tt}).left in
    let it = c.in-Some-ran.ensures {u = tt} in
    let stopped = c.in-Some-ran-2.ensures {u = tt} in
    let again = c.in-Some-ran-3.ensures {u = tt} in
    let then = c.ports_on.result.office in
    let lapsing = c.in-Some-lapsing_ports.ports.office in
    let ports = c.in-Some-lapsing_ports.ensures {u = tt} in
    let later = c.ports_on-2.result.office in
    let lives = left.life ∷ [] in
    let empty = c.office_law.ensures.empty in
    let went = goes_on_from _ first it all empty_office lives (present left.life) sold empty left.lead left.found
    (λ path wait f how. these_files then.log then.db sold f c.ports_on.ensures.log c.ports_on.ensures.db how) in
    let one : IsProp (c.in-Some-ran-3.second.items ≡ c.in-Some-ran.first.items) = hlevel props in
    ∥∥₁_elim went one (λ goes.
    let sale = sells_first _ first it empty_office lives goes.0 order goes.1 says c.in-Done.is in
    let files : Files Memory = record { log = c.in-Some-back_of.log; db = c.in-Some-back_of.db } in
    let given = goes.1.given files.log files.db (it.gave ∙ sym c.back_of.ensures ∙ c.in-Some-back_of.is) refl in
    let inside : Files Memory = record { log = lapsing.log.inner; db = lapsing.db.inner } in
    let FoundThen : Files Memory → Type 0 = λ f. AreFoundSo memory_disk.ghosts f (IsOf empty_office (lives ++ goes.0)) in
    let found = subst FoundThen (sym (same_files inside files ports.log ports.db)) given in
    let stops =
    goes_on_from _ lapse stopped (λ it. refl) empty_office (lives ++ goes.0) goes.1.lead.0 (record { log = lapsing.log; db = lapsing.db }) empty goes.1.lead.1
    found (λ path wait f how. (found_these lapsing.log lapsing.db f how, refl)) in
    ∥∥₁_elim stops one (λ on.
    let lapsed = c.in-Some-back_of-2.lapsed in
    let kept = c.in-Some-back_of-2.kept in
    let gave = on.1.given lapsed kept (stopped.gave ∙ sym c.back_of-2.ensures ∙ c.in-Some-back_of-2.is) refl in
    let within : Files Memory = record { log = lapsed.inner; db = kept.inner } in
    let rest : Files Memory = record { log = c.into_inner-log.result; db = c.into_inner-db.result } in
    let FoundLater : Files Memory → Type 0 = λ f. AreFoundSo memory_disk.ghosts f (IsOf empty_office ((lives ++ goes.0) ++ on.0)) in
    let there = subst FoundLater (sym (same_files rest within c.into_inner-log.ensures c.into_inner-db.ensures)) gave in
    let after = goes_on_from _ last again all empty_office ((lives ++ goes.0) ++ on.0) on.1.lead.0 rest empty on.1.lead.1 there
    (λ path wait f how. these_files later.log later.db rest f c.ports_on-2.ensures.log c.ports_on-2.ensures.db how) in
    ∥∥₁_elim after one (λ more.
    let still = sold_before (lives ++ goes.0) on.0 order sale.0 sale.1 in
    prints_receipt _ last again empty_office ((lives ++ goes.0) ++ on.0) more.0 order sale.0 more.1 says
    (sold_before ((lives ++ goes.0) ++ on.0) more.0 order sale.0 still) c.in-Done-end.is
    ∙ sym (prints_receipt _ first it empty_office lives goes.0 order sale.0 goes.1 says sale.1 c.in-Done.is))))
