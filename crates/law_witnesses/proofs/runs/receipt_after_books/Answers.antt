use Rattle.std.proofs.Common.{◌≡◌, [], ◌∷◌, true, refl}
use Rattle.std.specs.Prelude.{IsTrue}
use Rattle.std.proofs.Math.Logic.{∥∥₁_elim}
use denote.Struct.Props.{props}
use Rattle.sqlite_disk.specs.declared.memory.Memory.{Memory}
use Rattle.office_rules.specs.Office.{empty_office}
use Rattle.papers.specs.Receipt.{receipt_of}
use Rattle.vend_core.specs.Law.Life.{present}
use Rattle.law_witnesses.proofs.KeptLemmas.{these_files}
use Rattle.law_witnesses.proofs.RunLemmas.{goes_on_from, prints_receipt, sold_before}
use Rattle.law_witnesses.proofs.runs.receipt_after_books.Goals as goal

pub returns-in-Done : goal.returns-in-Done
returns-in-Done c =
    let all : (it : Memory) → IsTrue true = λ it. refl in
    let law = c.run_law.ensures in
    let says = c.in-Some.ensures {u = tt} in
    let sale = c.in-Some-sold_on_files.sale in
    let files = c.in-Some-sold_on_files.files in
    let left = (c.in-Some-sold_on_files.ensures {u = tt}).left in
    let it = c.in-Some-ran.ensures {u = tt} in
    let office = c.ports_on.result.office in
    let went = goes_on_from _ law it all empty_office (left.life ∷ []) (present left.life) files c.office_law.ensures.empty left.lead left.found
    (λ path wait found how. these_files office.log office.db files found c.ports_on.ensures.log c.ports_on.ensures.db how) in
    let one : IsProp (c.in-Some-ran.printed.items ≡ receipt_of sale) = hlevel props in
    ∥∥₁_elim went one (λ goes.
    prints_receipt _ law it empty_office (left.life ∷ []) goes.0 c.in-Some.said sale goes.1 says
    (sold_before (left.life ∷ []) goes.0 c.in-Some.said sale left.sold) c.in-Done.is)
