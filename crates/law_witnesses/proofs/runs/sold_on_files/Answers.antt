use Rattle.std.proofs.Common.{◌≡◌, ◌∙◌, true, ap, refl}
use Rattle.std.specs.Prelude.{IsTrue, not}
use Rattle.sqlite.specs.Files.{file_state}
use Rattle.sqlite_disk.specs.declared.memory.Memory.{Memory}
use Rattle.office_rules.specs.declared.decision.answer.Answer.TheVariants.{Sold}
use Rattle.law_witnesses.proofs.FileLemmas.{clean_files, commits, no_bytes}
use Rattle.law_witnesses.proofs.OfficeLemmas.{goes_on, leads, not_true}
use Rattle.law_witnesses.proofs.RunLemmas.{is_of, sold_last}
use Rattle.law_witnesses.proofs.runs.sold_on_files.Goals as goal

pub returns-in-Some-closed-clause-left : goal.returns-in-Some-closed-clause-left
returns-in-Some-closed-clause-left c =
    let all : (it : Memory) → IsTrue true = λ it. refl in
    let sale = c.in-Some.sale in
    let sold = c.in-Some.ensures {u = tt} in
    let opened = (c.in-Ok.ensures {u = tt}).opened.books in
    let empty = c.opening_law.ensures.new _ (no_bytes _ c.new-2.ensures.empty) in
    let ran = (c.in-Ok-serve_all.ensures {u = tt}).served in
    let asked = c.ask-reply.ensures.says in
    let at = asked.0 in
    let kept = asked.2.keeps _ (ran.keeps _ (opened.opens _ empty)) in
    let running = not_true _ (λ stopped. goes_on c.ask-reply.result (Sold sale) sold (asked.2.stops.0 stopped)) in
    let conn = c.into_connection-conn.result in
    let s = file_state conn in
    let clean = clean_files all conn in
    let holds = c.into_connection-conn.ensures.holds _ kept clean running in
    let represented = kept (clean_files all c.ask-reply.new.self.conn) in
    let lead = leads _ represented.is_life refl in
    let copied = (c.in-Some-closed.ensures {u = tt}).copied refl in
    let rests : c.is_autocommit-settled.result ≡ true =
    c.is_autocommit-settled.ensures.value ∙ ap not c.into_connection-conn.ensures.rests in
    let there = commits s _ copied.was_open (c.schema-live.ensures.live copied.was_open).0
    (c.is_autocommit-settled.ensures.settled rests copied.was_open) holds in
    record {
      life = _;
      plain = represented.forward;
      lead = lead;
      sold = sold_last _ at c.ask-reply.result c.args.order.now sale asked.1.for_request sold;
      found = (
        is_of c.found_law.ensures.shows _ s.committed.trees _ _ lead there copied.seen,
        λ image may. is_of c.found_law.ensures.shows image s.committed.trees _ _ lead there (copied.left image may),
      );
    }
