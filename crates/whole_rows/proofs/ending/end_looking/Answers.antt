use Rattle.std.proofs.Common.{◌≡◌, ◌∙◌, IsTrue, ap, subst, sym, arith}
use Rattle.sqlite.proofs.Theorems.{copied}
use Rattle.sqlite.specs.Closing.{HoldsAlone, IsCopied}
use Rattle.sqlite.specs.Files.{IsClosed}
use Rattle.sqlite.specs.Held.{Held}
use Rattle.sqlite_pool.proofs.StateLemmas.{clean_is, may_leave_is}
use Rattle.sqlite_store.specs.FileStore.{state, view}
use Rattle.sqlite_store.specs.declared.store.FileStore.{FileStore}
use Rattle.sqlite_trees.proofs.Doubt.{clean_of as sure, no_doubt}
use Rattle.sqlite_trees.specs.View.{IsClean, View}
use Rattle.sqlite_wal.proofs.StateLemmas.{open_from}
use Rattle.sqlite_wal.specs.Files.{outcomes}
use Rattle.sqlite_wal.specs.Reads.{AreClean}
use Rattle.sqlite_wal.specs.Recovery.{Image}
use Rattle.sqlite_rules.proofs.ViewLemmas.{still_quiet}
use Rattle.whole_rows.proofs.EndedLemmas.{excused}
use Rattle.whole_rows.proofs.ending.end_looking.Goals as goal

pub returns-in-Ok : goal.returns-in-Ok
returns-in-Ok g c = record {
  last = conn;
  looks = c.look-found.ensures.looks;
  ends = record { closed = (last, sym c.close.ensures, is_closed, is_copied); unclosed = tt };
}
  where
    conn : Held (FileStore g.row.D.Denot g.D.Disk)
    conn = record c.args.conn { store = c.look-found.result.1 }

    last : FileStore g.row.D.Denot g.D.Disk
    last = c.checkpoint.new.self

    is_closed : IsClosed conn last
    is_closed = record {
      quiet = still_quiet c.rollback.ensures.quiet c.checkpoint.ensures.quiet;
      sound = λ none db may.
          let q = c.checkpoint.ensures.quiet in
          (c.look-found.ensures.sound (omega (arith, q.clean, c.rollback.ensures.quiet.clean, none))).1 db
          (c.rollback.ensures.quiet.outcomes db (q.outcomes db may));
    }

    is_copied : AreClean g.D.Disk c.close.result.log c.close.result.db → IsCopied conn c.close.result
    is_copied honest =
        let before = c.rollback.new.self in
        let q = c.checkpoint.ensures.quiet in
        let stays = g.met.D.Disk.seen_may_stay in
        let sure_now = subst (λ p. AreClean g.D.Disk p.0 p.1) c.close.ensures honest in
        let none : IsClean (view last) = no_doubt _ (clean_is last.pool ∙ sure_now) in
        let clean : IsClean (view before) = omega (arith, q.clean, none) in
        let early : IsClean (view conn.store) = omega (arith, c.rollback.ensures.quiet.clean, clean) in
        let h = open_from (state before) c.in-Ok.ensures.ready (sure (view before).is_clean clean) in
        let second = c.rollback.ensures.undone.kept clean in
        let on = c.in-Ok.ensures.open none in
        let same = c.checkpoint.ensures.same on in
        let sound = c.look-found.ensures.sound early in
        let numbered : IsTrue (view last).is_numbered = ap (λ (v : View). v.is_numbered) same ∙ second.numbered ∙ sound.0 in
        let committed : (view last).committed ≡ (view conn.store).committed = ap (λ (v : View). v.committed) same ∙ second.committed h in
        let each = λ (image : Image) (may : outcomes g.D.Disk c.close.result.log c.close.result.db image).
        subst (HoldsAlone image) committed (copied last stays on numbered
        (λ db found. sound.1 db (c.rollback.ensures.quiet.outcomes db (q.outcomes db found)))
        (c.in-Ok.ensures.moved (c.rollback.ensures.logged (second.was_open h))) image
        (may_leave_is last.pool image sure_now (subst (λ p. outcomes g.D.Disk p.0 p.1 image) c.close.ensures may))) in
        record { was_clean = early; was_open = second.was_open h; seen = each _ (stays _, stays _); left = each }

pub returns-in-Err : goal.returns-in-Err
returns-in-Err g c = record {
  last = conn;
  looks = c.look-found.ensures.looks;
  ends = record {
    closed = tt;
    unclosed = (
      record {
        quiet = still_quiet c.rollback.ensures.quiet c.checkpoint.ensures.quiet;
        sound = λ none db may.
            let q = c.checkpoint.ensures.quiet in
            (c.look-found.ensures.sound (omega (arith, q.clean, c.rollback.ensures.quiet.clean, none))).1 db
            (c.rollback.ensures.quiet.outcomes db (q.outcomes db may));
      },
      λ none. (
        c.in-Err.error,
        c.store_error.ensures,
        excused conn c.rollback.new.self c.checkpoint.new.self c.in-Err.error c.rollback.ensures.quiet c.checkpoint.ensures.quiet
            c.rollback.ensures.undone none (c.in-Err.ensures.cause none),
        c.in-Err.ensures.told,
      ),
    );
  };
}
  where
    conn : Held (FileStore g.row.D.Denot g.D.Disk)
    conn = record c.args.conn { store = c.look-found.result.1 }
