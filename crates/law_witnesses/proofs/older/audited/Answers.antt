use Rattle.std.proofs.Common.{true, refl, subst}
use Rattle.std.specs.Prelude.{IsTrue}
use Rattle.sqlite_disk.specs.declared.memory.Memory.{Memory}
use Rattle.sqlite_wal.specs.Recovery.{Image}
use Rattle.law_witnesses.specs.Older.{IsAuditedAs}
use Rattle.law_witnesses.proofs.KeptLemmas.{same_image}
use Rattle.law_witnesses.proofs.OlderLemmas.{audited_as}
use Rattle.law_witnesses.proofs.older.audited.Goals as goal

pub returns-in-Done : goal.returns-in-Done
returns-in-Done c =
    let all : (it : Memory) → IsTrue true = λ it. refl in
    let file = c.new.result in
    let text = c.in-Some.text.items in
    let it = c.in-Some.ensures {u = tt} in
    let Shows : Image → Type 0 = λ image. IsAuditedAs image text in
    subst Shows (same_image file.log file.db c.args.files c.new.ensures.log c.new.ensures.db)
    (audited_as all _ _ _ _ _ text (λ answer audits. audits) it.1 c.in-Done.is)
