use Rattle.std.proofs.Common.{◌≡◌, ◌∙◌, ◌++◌, [], true, refl, subst, sym}
use Rattle.std.specs.Prelude.{IsTrue}
use Rattle.std.proofs.Math.Logic.{∥∥₁_elim}
use denote.Struct.Props.{props}
use Rattle.sqlite.specs.Files.{HoldsDatabase}
use Rattle.sqlite_disk.specs.contracts.memory.MemoryDisk.TheImpl as memory_disk
use Rattle.sqlite_disk.specs.declared.Files.{Files}
use Rattle.sqlite_disk.specs.declared.memory.Memory.{Memory}
use Rattle.sqlite_wal.specs.Recovery.{Image}
use Rattle.law_witnesses.proofs.FirstLemmas.{sells_first}
use Rattle.law_witnesses.proofs.KeptLemmas.{these_files}
use Rattle.law_witnesses.proofs.OlderLemmas.{found_with, reads_same}
use Rattle.law_witnesses.proofs.RunLemmas.{goes_on_from, prints_receipt, sold_before}
use Rattle.law_witnesses.proofs.older.sold_from_older.Goals as goal

pub returns-in-Done-end : goal.returns-in-Done-end
returns-in-Done-end c =
    let all : (it : Memory) → IsTrue true = λ it. refl in
    let first = c.run_law.ensures in
    let second = c.run_law-2.ensures in
    let order = c.in-Some._said in
    let says = c.in-Some.ensures {u = tt} in
    let older = c.in-Some-taken_back.older in
    let hold = (c.in-Some-taken_back.ensures {u = tt}).one in
    let audit = c.in-Some-audited.ensures {u = tt} in
    let it = c.in-Some-ran.ensures {u = tt} in
    let again = c.in-Some-ran-2.ensures {u = tt} in
    let then = c.ports_on.result.office in
    let later = c.ports_on-2.result.office in
    let o = audit.stands.office in
    let is = audit.stands.is in
    let one : IsProp (c.in-Some-ran-2.second.items ≡ c.in-Some-ran.first.items) = hlevel props in
    ∥∥₁_elim hold.seen.both one (λ held.
    let Holds : Image → Type 0 = λ image. HoldsDatabase image hold.trees in
    let copy : Files Memory = record { log = c.in-Some-copied.log; db = c.in-Some-copied-2.db } in
    let same = reads_same memory_disk.ghosts copy older (c.in-Some-copied.ensures {u = tt}).bytes (c.in-Some-copied-2.ensures {u = tt}).bytes in
    let there = audit.stands.holds hold.trees (subst Holds (sym same) held) in
    let found = found_with c.opening_law.ensures.held _ older hold o there in
    let went = goes_on_from _ first it all o [] o older is refl found
    (λ path wait f how. these_files then.log then.db older f c.ports_on.ensures.log c.ports_on.ensures.db how) in
    ∥∥₁_elim went one (λ goes.
    let sale = sells_first _ first it o [] goes.0 order goes.1 says c.in-Done.is in
    let log : Memory = c.in-Some-back_of.log in
    let db : Memory = c.in-Some-back_of.db in
    let files : Files Memory = record { log = log; db = db } in
    let given = goes.1.given log db (it.gave ∙ sym c.back_of.ensures ∙ c.in-Some-back_of.is) refl in
    let after = goes_on_from _ second again all o ([] ++ goes.0) goes.1.lead.0 files is goes.1.lead.1 given
    (λ path wait f how. these_files later.log later.db files f c.ports_on-2.ensures.log c.ports_on-2.ensures.db how) in
    ∥∥₁_elim after one (λ more.
    prints_receipt _ second again o ([] ++ goes.0) more.0 order sale.0 more.1 says
    (sold_before ([] ++ goes.0) more.0 order sale.0 sale.1) c.in-Done-end.is
    ∙ sym (prints_receipt _ first it o [] goes.0 order sale.0 goes.1 says sale.1 c.in-Done.is))))
