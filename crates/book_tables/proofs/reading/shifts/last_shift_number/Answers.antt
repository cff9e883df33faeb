use Rattle.sqlite.specs.Held.{state}
use Rattle.std.proofs.Common.{◌≡◌, [], length, refl, unwrap_or}
use Rattle.book_tables.proofs.ReadingLemmas.FindLemmas.{gives, gives_such, only_asks, reads, sees}
use Rattle.book_tables.proofs.ReadingLemmas.ShiftLemmas.{last_shift_counts, last_shift_number}
use Rattle.book_tables.proofs.reading.shifts.last_shift_number.Goals as goal

pub returns-clause-given : goal.returns-clause-given
returns-clause-given g c clean rows has of_office =
    let old = state g.S.Store c.args.conn.now in
    let only = only_asks last_shift_number old (λ runs. (has runs).0) in
    gives last_shift_number old (state g.S.Store c.first_record.new.conn) rows has of_office c.first_record.result
    [] refl (c.first_record.ensures.reads.same clean only) (c.first_record.ensures.given clean only)

pub returns-clause-counted : goal.returns-clause-counted
returns-clause-counted g c clean rows has of_office =
    let old = state g.S.Store c.args.conn.now in
    let only = only_asks last_shift_number old (λ runs. (has runs).0) in
    gives_such last_shift_number old (state g.S.Store c.first_record.new.conn) rows has of_office
    (λ found. unwrap_or found 0 ≡ length rows.shifts) (last_shift_counts rows of_office) c.first_record.result
    [] refl (c.first_record.ensures.reads.same clean only) (c.first_record.ensures.given clean only)

pub returns-clause-reads : goal.returns-clause-reads
returns-clause-reads g c =
    reads last_shift_number (state g.S.Store c.args.conn.now) (state g.S.Store c.first_record.new.conn) c.first_record.result [] refl
    c.first_record.ensures.reads

pub returns-clause-sees : goal.returns-clause-sees
returns-clause-sees g c =
    sees last_shift_number (state g.S.Store c.args.conn.now) (state g.S.Store c.first_record.new.conn) c.first_record.result [] refl
    c.first_record.ensures.reads c.first_record.ensures.given
