use Rattle.std.proofs.Common.{◌≡◌, ◌∙◌, ℕ, Bool, true, false, if◌then◌else◌, List, [], ◌∷◌, ap, inl, inr, refl}
use Rattle.sqlite_disk.specs.Events.{Event, replay, settled}
use Rattle.sqlite_disk.specs.History.{MayLeave}
use Rattle.sqlite_wal.specs.Recovery.{Image}
use Rattle.office_commands.proofs.port.machine.machine_file_law.Goals as goal

-- a crash leaves this of a file that held `start`, after these calls
abbrev LeavesOf : Bool → List ℕ → List Event → List ℕ → Type 0
LeavesOf mixes start events left = let m = replay start events in MayLeave mixes m.seen m.synced m.steps left

left_settled : (mixes : Bool) (start : List ℕ) (key : ℕ) (left : List ℕ) → LeavesOf mixes start (settled key ∷ []) left → left ≡ start
left_settled mixes start key left (inl is) = is
left_settled mixes start key left (inr is) = is

-- of a file that was settled, and to which nothing has happened since, it leaves what the file held
left_fresh : (mixes is_log which : Bool) (log db : List ℕ) (events : List Event) (key : ℕ) (left : List ℕ) → is_log ≡ which → events ≡ settled key ∷ []
    → LeavesOf mixes (if is_log then log else db) events left → left ≡ (if which then log else db)
left_fresh mixes is_log which log db events key left is all = rw (is, all) (left_settled mixes (if which then log else db) key left)

same_image : (image : Image) (log db : List ℕ) → image.log ≡ log → image.db ≡ db → image ≡ record { log = log; db = db }
same_image image log db is_log is_db =
    ap (λ (l : List ℕ). let i : Image = record { log = l; db = image.db } in i) is_log
    ∙ ap (λ (d : List ℕ). let i : Image = record { log = log; db = d } in i) is_db

pub returns : goal.returns
returns g c = λ log db fresh. record {
  present = rw (fresh.0.0, fresh.0.1, fresh.1.0, fresh.1.1) refl;
  crash = λ image may.
      let start = g.B.Start in
      same_image image start.log start.db
      (left_fresh start.is_mixing log.is_log true start.log start.db log.calls.log.events log.key image.log fresh.0.0 fresh.0.1 may.0)
      (left_fresh start.is_mixing db.is_log false start.log start.db db.calls.log.events db.key image.db fresh.1.0 fresh.1.1 may.1);
}
