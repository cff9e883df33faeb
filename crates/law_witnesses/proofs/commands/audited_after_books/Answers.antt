use Rattle.std.proofs.Common.{◌≡◌, ◌∙◌, [], ◌∷◌, Some, true, refl, subst, sym}
use Rattle.std.specs.Prelude.{IsTrue}
use Rattle.command_line.specs.Transform.{forward_of}
use Rattle.command_line.specs.declared.transform.Shipped.TheVariants.{Plain}
use Rattle.office_rules.specs.Office.{empty_office}
use Rattle.program_laws.specs.runs.Steps.{IsOf}
use Rattle.sqlite_disk.specs.declared.memory.Memory.{Memory}
use Rattle.sqlite_wal.specs.Recovery.{Image}
use Rattle.law_witnesses.proofs.AuditLemmas.{count_of, some_text}
use Rattle.law_witnesses.proofs.FileLemmas.{clean_files}
use Rattle.law_witnesses.proofs.KeptLemmas.{held_by, same_image}
use Rattle.law_witnesses.proofs.OfficeLemmas.{sells_under}
use Rattle.law_witnesses.proofs.commands.audited_after_books.Goals as goal

pub returns : goal.returns
returns c =
    let all : (it : Memory) → IsTrue true = λ it. refl in
    let files = c.in-Some.files in
    let left = (c.in-Some.ensures {u = tt}).left in
    let lives = left.life ∷ [] in
    let file = c.new.result in
    let image = held_by file.log file.db in
    let told = c.in-Some-printed_by_audit in
    let printed = told.ensures {u = tt} in
    let Of : Image → Type 0 = λ i. IsOf empty_office lives i in
    let of = subst Of (sym (same_image file.log file.db files c.new.ensures.log c.new.ensures.db)) left.found.0 in
    count_of told.text.items printed.1 told._end of
    (λ none. some_text c.is_empty.result c.as_slice.result.now c.is_empty.ensures c.if-is_empty.false (c.as_slice.ensures.value ∙ none))
    printed.1.did
    (λ answer audits it. c.broken_law.ensures image printed.0 (Some (forward_of Plain)) answer lives it.office it.lead
    (sells_under left.life (forward_of Plain) left.plain) it.stands audits (clean_files all audits.last))
