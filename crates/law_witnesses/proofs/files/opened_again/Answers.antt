use Rattle.std.proofs.Common.{◌≡◌, ◌∙◌, ◌+◌, ℕ, Bool, true, false, length, ap, refl, subst, sym}
use Rattle.std.specs.Prelude.{IsTrue, not}
use Rattle.sqlite.specs.Files.{HoldsDatabase, file_state, image_of}
use Rattle.sqlite_disk.specs.declared.memory.Memory.{Memory}
use Rattle.sqlite_trees.specs.Tree.{Trees}
use Rattle.books.specs.Found.{FindsOffice}
use Rattle.books.specs.Path.{StandsIn}
use Rattle.office_rules.specs.Office.{Office}
use Rattle.vend_core.specs.Law.Life.{present}
use Rattle.law_witnesses.proofs.FileLemmas.{clean_files, commits, no_bytes, opened_present, same_number}
use Rattle.law_witnesses.proofs.OfficeLemmas.{goes_on, not_true}
use Rattle.law_witnesses.proofs.files.opened_again.Goals as goal

pub returns-in-Ok-open_files : goal.returns-in-Ok-open_files
returns-in-Ok-open_files c =
    let all : (it : Memory) → IsTrue true = λ it. refl in
    let opened = (c.in-Ok.ensures {u = tt}).opened.books in
    let empty = c.opening_law.ensures.new _ (no_bytes _ c.new-2.ensures.empty) in
    let ran = (c.in-Ok-serve_all.ensures {u = tt}).served in
    let looked = c.look_up.ensures.says in
    let kept = looked.reads.keeps _ (ran.keeps _ (opened.opens _ empty)) in
    let running = not_true _ (λ stopped. goes_on c.look_up.result c.in-Ok-look_up._found c.in-Ok-look_up.is (looked.reads.stops.0 stopped)) in
    let before = c.next_number-before.ensures.exact (clean_files all c.look_up.new.self.conn) _ kept running in
    let conn = c.into_connection-conn.result in
    let s = file_state conn in
    let holds = c.into_connection-conn.ensures.holds _ kept (clean_files all conn) running in
    let files = c.in-Some.left in
    let copied = (c.in-Some.ensures {u = tt}).copied refl in
    let rests : c.is_autocommit-settled.result ≡ true =
    c.is_autocommit-settled.ensures.value ∙ ap not c.into_connection-conn.ensures.rests in
    let there = commits s _ copied.was_open (c.schema-live.ensures.live copied.was_open).0
    (c.is_autocommit-settled.ensures.settled rests copied.was_open) holds in
    let again = (c.in-Ok-open_files.ensures {u = tt}).opened.books in
    same_number _ s.committed.trees c.next_number-before.result c.next_number.result copied.seen
    (λ held.
    let Shows : Trees → Type 0 = λ trees. FindsOffice trees _ in
    let stands : StandsIn _ _ = λ trees may. subst Shows (sym (may.holds s.committed.trees held)) (c.found_law.ensures.shows s.committed.trees _ there) in
    c.next_number.ensures.exact (clean_files all c.in-Ok-open_files.again.conn) _ (again.opens _ stands) again.running
    ∙ ap (λ (o : Office). length o.sales + 1) (opened_present _ _) ∙ sym before)
