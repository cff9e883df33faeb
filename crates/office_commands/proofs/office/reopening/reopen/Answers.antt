use Rattle.std.proofs.Common.{◌∙◌, ap, arith, inl, inr, subst, sym}
use Rattle.std.proofs.Math.Logic.{∥∥₁_map}
use Rattle.sqlite.specs.Effect.{Database}
use Rattle.sqlite.specs.Files.{file_state}
use Rattle.sqlite.specs.State.{HasCleanDisk}
use Rattle.books.specs.Keeps.{Represents, seen}
use Rattle.office_commands.specs.office.Lost.{FailsToReconnect}
use Rattle.office_commands.specs.office.Reopened.{IsNextLife, IsNextOf}
use Rattle.office_commands.proofs.ReopeningLemmas.{fits, next_knowing}
use Rattle.office_commands.proofs.office.reopening.reopen.Goals as goal

pub returns-in-Ok-open_from-clause-running : goal.returns-in-Ok-open_from-clause-running
returns-in-Ok-open_from-clause-running g c = rw c.with_write_failed.ensures.same c.in-Ok-open_from.ensures.opened.books.running

pub returns-in-Ok-open_from-clause-writes : goal.returns-in-Ok-open_from-clause-writes
returns-in-Ok-open_from-clause-writes g c = rw c.with_write_failed.ensures.same c.write_failed-write_failed.ensures

pub returns-in-Ok-open_from-clause-left : goal.returns-in-Ok-open_from-clause-left
returns-in-Ok-open_from-clause-left g c =
    let forward = g.T.BlockTransform.forwards c.args.transform in
    let before = seen c.args.books in
    let known = c.with_write_failed.ensures in
    let first = file_state c.in-Ok.conn in
    let opened = c.in-Ok-open_from.ensures.opened in
    let survives = opened.survives in
    let left : HasCleanDisk (seen c.in-Ok-open_from.next).state → IsNextLife forward before (seen c.in-Ok-open_from.next) = λ clean.
    let finds = opened.finds clean in
    let next = subst (λ conn. IsNextOf (file_state conn) first) c.into_connection.ensures.same (c.in-Ok.ensures.next (omega (arith, survives.clean, clean))) in
    record {
      clean = next.clean;
      left = ∥∥₁_map next.left (λ may. (
        first.committed.trees,
        may,
        λ o found. opened.books.opens o (c.opening_law.ensures.opens_again c.in-Ok.conn o next.opens next.live found),
        record {
          found = first.now;
          has = ap (λ (db : Database). db.trees) next.opens.clean;
          opens = finds.now;
          crash = λ left leaves. elim (survives.crash clean left leaves) [
            | inl was ↦ inl (next.settled left was)
            | inr brought ↦ inr brought.1
          ];
        },
      ));
      unlimited = survives.limit ∙ next.unlimited;
    } in
    subst (λ next. HasCleanDisk (seen next).state → IsNextLife forward before (seen next)) (sym known.same)
    (λ clean. next_knowing forward before (seen c.in-Ok-open_from.next) c.write_failed-write_failed.result
    (λ life keeps. subst (λ next. Represents life (seen next)) known.same (known.keeps life keeps)) (left clean))

pub returns-in-Err-clause-refused : goal.returns-in-Err-clause-refused
returns-in-Err-clause-refused g c = (
  c.in-Err.error,
  c.fault_of.ensures.value,
  subst (λ conn. FailsToReconnect conn c.in-Err.error c.in-Err.left)
      c.into_connection.ensures.same c.in-Err.ensures.fails,
)

pub returns-in-Err-open_from-clause-refused : goal.returns-in-Err-open_from-clause-refused
returns-in-Err-open_from-clause-refused g c =
    let first = file_state c.in-Ok.conn in
    let told = c.in-Err-open_from.ensures.refused in
    record {
      first = c.in-Ok.conn;
      next = λ clean. subst (λ conn. IsNextOf (file_state conn) first) c.into_connection.ensures.same (c.in-Ok.ensures.next clean);
      refuses = λ clean. record {
        told = fits first c.in-Err-open_from.fault (told.other clean) (told.named clean);
        same = told.same clean;
        kept = told.refused clean;
      };
      fails = told.fails;
      rests = told.rests;
      survives = told.survives;
    }
