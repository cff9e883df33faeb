use Rattle.std.proofs.Common.{rules, [], refl}
use Rattle.std.specs.Prelude.{⊤}
use Rattle.sqlite.specs.Held.{state}
use Rattle.sqlite.specs.State.{IsUnchanged, State}
use Rattle.one_table.specs.Answer.{OnlyAsks}
use Rattle.one_table.specs.ReadsOnly.{ReadsOnly}
use Rattle.one_table.proofs.ReadsOnlyLemmas.{fail_as, read_so, read_where}
use Rattle.book_tables.specs.Kept.{about_kept}
use Rattle.book_tables.specs.reading.Reading.{FailsToShowRow, HasTable, told}
use Rattle.book_tables.proofs.FormatLemmas.NumberLemmas.{format_asks, format_text, given_none, given_one, lone}
use Rattle.book_tables.proofs.ReadingLemmas.ReadLemmas as read
use Rattle.book_tables.proofs.format.number.format_number.Goals as goal

only : (s : State) → HasTable about_kept s → OnlyAsks format_text s
only s has = read.only_asks format_asks about_kept (λ s has. has.0.has) s has

pub returns-in_err-told-clause-reads : goal.returns-in_err-told-clause-reads
returns-in_err-told-clause-reads g c =
    let old = state g.S.Store c.args.conn.now in
    let new = state g.S.Store c.read_rows.new.conn in
    let why = c.in_err-told.field-0.0 in
    let this : ReadsOnly (OnlyAsks format_text) IsUnchanged (FailsToShowRow (λ _. ⊤) format_text []) old new c.from_residual.result =
    fail_as (told why) c.from_residual.result c.from_residual.ensures.1 c.in_err-told.ensures.reads (λ fails. (why, refl, fails)) in
    read_where c.from_residual.result (only old) this
    (λ clean has. read.fails format_asks about_kept (λ s has. has.0.has) (λ _. ⊤) old new has (λ rows held of_office found is i x low. _)
    c.from_residual.result [] refl (this.faults clean (only old has)))

pub returns-then-len-ne1-clause-given : goal.returns-then-len-ne1-clause-given
returns-then-len-ne1-clause-given g c clean has sound =
    let old = state g.S.Store c.args.conn.now in
    let new = state g.S.Store c.read_rows.new.conn in
    given_none old new has sound c.in_ok-told.told.items (c.in_ok-told.ensures.given clean (only old has))
    (c.in_ok-told.ensures.reads.same clean (only old has)).0.was_open (search rules)

pub returns-then-len-ne1-clause-reads : goal.returns-then-len-ne1-clause-reads
returns-then-len-ne1-clause-reads g c = read_so (only (state g.S.Store c.args.conn.now)) c.in_ok-told.ensures.reads

pub returns-clause-given : goal.returns-clause-given
returns-clause-given g c clean has sound =
    let old = state g.S.Store c.args.conn.now in
    let new = state g.S.Store c.read_rows.new.conn in
    given_one old new has sound c.in_ok-told.told.items _ (c.in_ok-told.ensures.given clean (only old has))
    (c.in_ok-told.ensures.reads.same clean (only old has)).0.was_open (lone c.in_ok-told.told.items _ (search rules) c.index.ensures)

pub returns-clause-reads : goal.returns-clause-reads
returns-clause-reads g c = read_so (only (state g.S.Store c.args.conn.now)) c.in_ok-told.ensures.reads
