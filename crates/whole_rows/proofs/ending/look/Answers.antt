use Rattle.std.proofs.Common.{◌∙◌, subst, arith}
use Rattle.sqlite_rules.proofs.ViewLemmas.{still_quiet}
use Rattle.sqlite_store.specs.FileStore.{view}
use Rattle.sqlite_trees.specs.Tree.{Trees}
use Rattle.sqlite_trees.specs.View.{IsClean}
use Rattle.whole_rows.specs.Partial.{FindsPartial}
use Rattle.whole_rows.proofs.EndedLemmas.{excused, keeps, reads_committed, reads_numbered, reads_open, survives}
use Rattle.whole_rows.proofs.ending.look.Goals as goal

pub returns-in-Ok-clause-looks : goal.returns-in-Ok-clause-looks
returns-in-Ok-clause-looks g c =
    let conn = c.args.conn in
    let back = c.into_store-store.result in
    let last = c.first_partial.new.store in
    let undone = c.into_store-store.ensures.undone in
    let q = c.first_partial.ensures.quiet in
    record {
      survives = survives conn last (still_quiet c.into_store-store.ensures.quiet q);
      keeps = λ clean.
          let early : IsClean (view back) = omega (arith, q.clean, clean) in
          let read = c.in-Ok.ensures.reads clean in
          keeps conn back last undone early (λ _. (read.0, reads_committed (view back) (view last) read.1));
      stays = λ clean. let read = c.in-Ok.ensures.reads clean in reads_open (view back) (view last) read.1 read.0;
      finds = λ clean.
          let read = c.in-Ok.ensures.reads clean in
          subst (λ (trees : Trees). FindsPartial c.args.width (trees c.args.tree) c.in-Ok.found) (undone.undone read.0).0 (c.in-Ok.ensures.finds clean);
      fails = λ clean. tt;
    }

pub returns-in-Ok-clause-sound : goal.returns-in-Ok-clause-sound
returns-in-Ok-clause-sound g c clean =
    let q = c.first_partial.ensures.quiet in
    let early : IsClean (view c.into_store-store.result) = omega (arith, q.clean, clean) in
    let read = c.in-Ok.ensures.reads clean in (
      reads_numbered (view c.into_store-store.result) (view c.first_partial.new.store) read.1 ∙ c.into_store-store.ensures.numbered early,
      λ db may. c.into_store-store.ensures.sound early db (q.outcomes db may),
    )

pub returns-in-Err-clause-looks : goal.returns-in-Err-clause-looks
returns-in-Err-clause-looks g c =
    let conn = c.args.conn in
    let back = c.into_store-store.result in
    let last = c.first_partial.new.store in
    let undone = c.into_store-store.ensures.undone in
    let q = c.first_partial.ensures.quiet in
    record {
      survives = survives conn last (still_quiet c.into_store-store.ensures.quiet q);
      keeps = λ clean.
          let early : IsClean (view back) = omega (arith, q.clean, clean) in
          let kept = (c.in-Err.ensures.fails clean).1.kept in
          keeps conn back last undone early (λ is_open. (kept.was_open is_open, kept.committed is_open));
      stays = λ clean. tt;
      finds = λ clean. tt;
      fails = λ clean.
          let failed = c.in-Err.ensures.fails clean in
          (c.in-Err.error, c.store_error.ensures, excused conn back last c.in-Err.error c.into_store-store.ensures.quiet q undone clean failed.0, failed.2);
    }

pub returns-in-Err-clause-sound : goal.returns-in-Err-clause-sound
returns-in-Err-clause-sound g c clean =
    let q = c.first_partial.ensures.quiet in
    let early : IsClean (view c.into_store-store.result) = omega (arith, q.clean, clean) in (
      (c.in-Err.ensures.fails clean).1.kept.numbered ∙ c.into_store-store.ensures.numbered early,
      λ db may. c.into_store-store.ensures.sound early db (q.outcomes db may),
    )
