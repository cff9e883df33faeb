use Rattle.std.proofs.Common.{◌≡◌, ◌∙◌, ◌≤◌, ℕ, IfSome, inl, refl, subst}
use Rattle.std.specs.Prelude.{IfNone}
use Rattle.sqlite_wal.specs.Files.{seen_image}
use Rattle.book_tables.specs.Holds.{HasOfficeOf, IsUntaken}
use Rattle.book_tables.specs.row.Rows.{present_format}
use Rattle.books.specs.Path.{AreTakenFrom}
use Rattle.books.specs.declared.refused_files.RefusedFiles.TheVariants.{Connected}
use Rattle.sqlite_disk.specs.declared.Files.{Files}
use Rattle.office_commands.specs.office.Vacant.IsVacant.{blank, without}
use Rattle.office_commands.specs.port.Back.{ends_look}
use Rattle.office_commands.specs.port.Places.IsUnopened.{unopened}
use Rattle.office_commands.specs.port.Places.IsUnopenedIn.{refused, unread}
use Rattle.office_commands.proofs.MeetingLemmas.{blank_left, is_there, is_without, let_go_wider, memory_refused}
use Rattle.office_commands.proofs.office.meeting.meet.Goals as goal

pub returns-in-Ok-true-clause-met : goal.returns-in-Ok-true-clause-met
returns-in-Ok-true-clause-met g c =
    let held = subst (λ found. IfSome found (λ pair. seen_image g.H.Medium.Disk pair.0 pair.1
    ≡ g.H.OfficeFile.image c.args.office c.args.path.now)) c.in-Some.is c.in-Ok.ensures.image in
    let meets = subst (λ found. IfSome found (λ pair. g.H.OfficeFile.meets c.args.office c.args.path.now c.args.wait pair.0 pair.1))
    c.in-Some.is c.in-Ok.ensures.meets in (
      (c.in-Some.log, c.in-Some.db, meets),
      blank (record { log = c.is_blank.new.log; db = c.is_blank.new.db })
          (blank_left g.H.Medium.Disk _ _ (record { log = c.is_blank.new.log; db = c.is_blank.new.db }) held c.is_blank.ensures.seen
          (c.in-Ok-true.ensures.blank c.in-Ok-true.field-0-test)) ((c.new_log-new_log.result, c.new_log-new_log.ensures, c.let_go_looked.ensures), refl),
    )

pub returns-in-Err-is_blank-clause-refuses : goal.returns-in-Err-is_blank-clause-refuses
returns-in-Err-is_blank-clause-refuses g c =
    let meets = subst (λ found. IfSome found (λ pair. g.H.OfficeFile.meets c.args.office c.args.path.now c.args.wait pair.0 pair.1))
    c.in-Some.is c.in-Ok.ensures.meets in
    let failed = c.in-Err-is_blank.ensures.failed in
    unopened (record { log = c.is_blank.new.log; db = c.is_blank.new.db })
    (record { found = record { log = c.in-Some.log; db = c.in-Some.db }; met = meets; seen = c.is_blank.ensures.seen; crash = c.is_blank.ensures.crash })
    (unread failed.0 failed.1 refl (inl (c.new_log-new_log.result, c.new_log-new_log.ensures, c.let_go_looked-in-Err-is_blank.ensures), refl))

pub returns-in-Err-connect_in-clause-refuses : goal.returns-in-Err-connect_in-clause-refuses
returns-in-Err-connect_in-clause-refuses g c =
    let meets = subst (λ found. IfSome found (λ pair. g.H.OfficeFile.meets c.args.office c.args.path.now c.args.wait pair.0 pair.1))
    c.in-Some.is c.in-Ok.ensures.meets in
    unopened (record { log = c.is_blank.new.log; db = c.is_blank.new.db })
    (record { found = record { log = c.in-Some.log; db = c.in-Some.db }; met = meets; seen = c.is_blank.ensures.seen; crash = c.is_blank.ensures.crash })
    (let_go_wider _ _ (λ log db gone. (inl (c.new_log-new_log.result, c.new_log-new_log.ensures, gone), refl)) _ c.in-Err-connect_in.fault c.in-Err-connect_in.ensures.refused)

pub returns-in-Ok-Some-clause-met : goal.returns-in-Ok-Some-clause-met
returns-in-Ok-Some-clause-met g c =
    let held = subst (λ found. IfSome found (λ pair. seen_image g.H.Medium.Disk pair.0 pair.1
    ≡ g.H.OfficeFile.image c.args.office c.args.path.now)) c.in-Some.is c.in-Ok.ensures.image in
    let meets = subst (λ found. IfSome found (λ pair. g.H.OfficeFile.meets c.args.office c.args.path.now c.args.wait pair.0 pair.1))
    c.in-Some.is c.in-Ok.ensures.meets in
    let same = c.is_blank.ensures.seen ∙ held in
    let conn = c.in-Ok-connect_in.conn in
    let kept = subst (λ kept. IfSome kept (λ it. (it ≡ conn) × (¬ IsUntaken conn.schema))) c.in-Ok-Some.field-0-is c.in-Ok-Some.ensures.kept in
    is_there _ (g.H.OfficeFile.meets c.args.office c.args.path.now c.args.wait) (record { log = c.is_blank.new.log; db = c.is_blank.new.db })
    (record { found = record { log = c.in-Some.log; db = c.in-Some.db }; met = meets; seen = c.is_blank.ensures.seen; crash = c.is_blank.ensures.crash }) same
    conn c.in-Ok-connect_in.ensures.connected c.in-Ok-Some.conn kept.0 kept.1

pub returns-in-Ok-None-clause-met : goal.returns-in-Ok-None-clause-met
returns-in-Ok-None-clause-met g c =
    let held = subst (λ found. IfSome found (λ pair. seen_image g.H.Medium.Disk pair.0 pair.1
    ≡ g.H.OfficeFile.image c.args.office c.args.path.now)) c.in-Some.is c.in-Ok.ensures.image in
    let meets = subst (λ found. IfSome found (λ pair. g.H.OfficeFile.meets c.args.office c.args.path.now c.args.wait pair.0 pair.1))
    c.in-Some.is c.in-Ok.ensures.meets in
    let same = c.is_blank.ensures.seen ∙ held in
    let conn = c.in-Ok-connect_in.conn in
    let untaken = subst (λ kept. IfNone kept (IsUntaken conn.schema × ((n : ℕ) → n ≤ present_format → HasOfficeOf n conn.schema → n ≡ 0)))
    c.in-Ok-None.field-0-is c.in-Ok-None.ensures.untaken in
    let left = subst (λ kept. IfNone kept ((left : Files _) × AreTakenFrom (Connected conn) left
    × ends_look g.H.OfficeFile c.new_log-new_log.result left.log left.db)) c.in-Ok-None.field-0-is c.in-Ok-None.ensures.vacant in (
      (c.in-Some.log, c.in-Some.db, meets),
      without conn left.0
          (is_without _ (g.H.OfficeFile.meets c.args.office c.args.path.now c.args.wait) (record { log = c.is_blank.new.log; db = c.is_blank.new.db })
          (record { found = record { log = c.in-Some.log; db = c.in-Some.db }; met = meets; seen = c.is_blank.ensures.seen; crash = c.is_blank.ensures.crash }) same
          conn c.in-Ok-connect_in.ensures.connected c.found_law.ensures.opens untaken) left.1 ((c.new_log-new_log.result, c.new_log-new_log.ensures, left.2), refl),
    )

pub returns-clause-refuses : goal.returns-clause-refuses
returns-clause-refuses g c =
    let held = subst (λ found. IfSome found (λ pair. seen_image g.H.Medium.Disk pair.0 pair.1
    ≡ g.H.OfficeFile.image c.args.office c.args.path.now)) c.in-Some.is c.in-Ok.ensures.image in
    let meets = subst (λ found. IfSome found (λ pair. g.H.OfficeFile.meets c.args.office c.args.path.now c.args.wait pair.0 pair.1))
    c.in-Some.is c.in-Ok.ensures.meets in
    let conn = c.in-Ok-connect_in.conn in
    let left = c.in-Err-keep_taken.ensures.refused in
    unopened (record { log = c.is_blank.new.log; db = c.is_blank.new.db })
    (record { found = record { log = c.in-Some.log; db = c.in-Some.db }; met = meets; seen = c.is_blank.ensures.seen; crash = c.is_blank.ensures.crash })
    (refused left.0 (Connected conn) (memory_refused _ conn c.in-Ok-connect_in.ensures.connected c.found_law.ensures.opens
    c.in-Err-keep_taken.fault c.in-Err-keep_taken.ensures.memory) left.1 (inl (c.new_log-new_log.result, c.new_log-new_log.ensures, left.2), refl))
