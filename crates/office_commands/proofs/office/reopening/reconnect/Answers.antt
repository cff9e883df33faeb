use Rattle.std.proofs.Common.{arith, inl, inr, subst, sym, ◌∙◌}
use Rattle.std.proofs.Math.Logic.{∥∥₁_map}
use Rattle.std.proofs.lemmas.Bool.{and_parts}
use Rattle.sqlite.proofs.Theorems.{next_run}
use Rattle.sqlite.specs.Files.{file_state, image_of}
use Rattle.sqlite_pool.proofs.StateLemmas.{clean_is, may_leave_is}
use Rattle.sqlite_store.specs.FileStore.{state, view}
use Rattle.sqlite_store.specs.Laws.{settled_at}
use Rattle.sqlite_trees.proofs.Doubt.{no_doubt}
use Rattle.sqlite_trees.specs.View.{IsClean}
use Rattle.sqlite_wal.specs.Files.{outcomes}
use Rattle.sqlite_wal.specs.Reads.{AreClean}
use Rattle.office_commands.proofs.office.reopening.reconnect.Goals as goal

pub open_files-requires-clause-log : goal.open_files-requires-clause-log
open_files-requires-clause-log g c = (and_parts _ _ (sym c.may_be_used.ensures ∙ c.if-not-may_be_used.false)).0

pub open_files-requires-clause-db : goal.open_files-requires-clause-db
open_files-requires-clause-db g c = (and_parts _ _ (sym c.may_be_used.ensures ∙ c.if-not-may_be_used.false)).1

pub returns-in-Ok-clause-next : goal.returns-in-Ok-clause-next
returns-in-Ok-clause-next g c clean =
    let store = c.into_store.result in
    let image = image_of g.D.Disk c.close-files.result in
    let found = c.in-Ok.ensures.found clean in
    let opened = c.in-Ok.ensures.opened clean in
    let stays = g.met.D.Disk.seen_may_stay in
    let quiet = c.into_store.ensures.quiet in
    let honest = subst (λ p. AreClean g.D.Disk p.0 p.1) c.close-files.ensures found.honest in
    let none : IsClean (view store) = no_doubt _ (clean_is store.pool ∙ honest) in
    let may : (state store).may_leave image = may_leave_is store.pool image honest
    (subst (λ p. outcomes g.D.Disk p.0 p.1 image) c.close-files.ensures (stays _, stays _)) in
    record {
      clean = omega (arith, quiet.clean, none);
      opens = opened.0;
      live = opened.1;
      left = ∥∥₁_map (next_run store (c.into_store.ensures.numbered none) (c.into_store.ensures.sound none) image may
          (file_state c.in-Ok.next) (record { holds = found.holds; reads = found.reads })) (λ it. quiet.outcomes _ it);
      settled = λ trees may. settled_at c.in-Ok.next.store stays trees opened.0.is_open may;
      unlimited = c.in-Ok.ensures.fresh.unlimited;
    }

pub returns-then-not-may_be_used-clause-fails : goal.returns-then-not-may_be_used-clause-fails
returns-then-not-may_be_used-clause-fails g c = record {
  last = c.into_store.result;
  closed = record { quiet = c.into_store.ensures.quiet; sound = c.into_store.ensures.sound };
  numbered = c.into_store.ensures.numbered;
  here = c.close-files.result;
  files = sym c.close-files.ensures;
  cause = inl (sym c.may_be_used.ensures ∙ c.if-not-may_be_used.true);
  kept = λ clean image may. may;
}

pub returns-in-Err-clause-fails : goal.returns-in-Err-clause-fails
returns-in-Err-clause-fails g c = record {
  last = c.into_store.result;
  closed = record { quiet = c.into_store.ensures.quiet; sound = c.into_store.ensures.sound };
  numbered = c.into_store.ensures.numbered;
  here = c.close-files.result;
  files = sym c.close-files.ensures;
  cause = inr c.in-Err.ensures.cause;
  kept = c.in-Err.ensures.unharmed;
}
