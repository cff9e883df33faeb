use Rattle.std.specs.Prelude.{⊤}
use Rattle.std.proofs.Common.{inr, refl, subst}
use Rattle.sqlite.specs.Held.{state}
use Rattle.sqlite.specs.declared.error.Error.TheVariants.{SqliteFailure}
use Rattle.sqlite.specs.declared.error.ErrorCode.TheVariants.{OutOfMemory}
use Rattle.one_table.proofs.ReadsOnlyLemmas.{read_on}
use Rattle.office_rules.specs.Office.{Office}
use Rattle.book_tables.specs.declared.error.TableError.TheVariants.{Database}
use Rattle.book_tables.proofs.OfficeTableLemmas.{meters_in, read_in_office}
use Rattle.book_tables.specs.reading.Seen.{HasSpoilt, ShowsAll}
use Rattle.book_lists.specs.Questions.{the_meters_after}
use Rattle.book_facts.specs.Lookups.{AreMetersAfter}
use Rattle.book_facts.proofs.FactsLemmas.{office_says}
use Rattle.book_facts.proofs.ListedLemmas.{meters_listed}
use Rattle.book_facts.proofs.PassedLemmas.{passed_none, stops_on}
use Rattle.book_facts.proofs.LooksLemmas.{by_rules_on, first_shown, first_spoilt}
use Rattle.book_facts.proofs.looking.meter_page.meter_page.Goals as goal

pub returns-in_err-rows : goal.returns-in_err-rows
returns-in_err-rows g c =
    let old = state g.S.Store c.args.conn.now in
    by_rules_on c.from_residual.result c.from_residual.ensures.1 (read_in_office meters_in c.in_err-rows.ensures.reads) (λ clean has row.
    subst (λ start. HasSpoilt (the_meters_after start) old.now) c.number_or_none.ensures
    (first_spoilt meters_in c.in_err-rows.ensures.sees clean has row))

pub returns-in_err-listed : goal.returns-in_err-listed
returns-in_err-listed g c =
    let read = read_in_office meters_in c.in_ok-rows.ensures.reads in
    by_rules_on {U = ⊤} c.from_residual-in_err-listed.result c.from_residual-in_err-listed.ensures.1
    (stops_on (Database (SqliteFailure OutOfMemory)) read (λ clean has. inr (refl, read.same clean has))) (λ clean has row. absurd cc)

pub returns : goal.returns
returns g c =
    let old = state g.S.Store c.args.conn.now in
    let none = passed_none old (g.met.S.Store.shut_if_dirty c.args.conn.now.store) in
    let read = read_in_office meters_in c.in_ok-rows.ensures.reads in
    let start = c.number_or_none.result.now in
    record {
      looks = record {
        facts = λ clean o office members.
            subst (λ start. AreMetersAfter o start c.in_ok-listed.listed.items) c.number_or_none.ensures
            (office_says office members none read clean meters_in (λ (o : Office). AreMetersAfter o start c.in_ok-listed.listed.items)
            (λ rows p has office_p members_p.
            let given = c.in_ok-rows.ensures.given clean rows p has office_p members_p in
            meters_listed p start c.in_ok-rows.rows.items c.in_ok-listed.listed.items c.in_ok-listed.ensures given.0 given.1));
        shown = λ clean has.
            let rows = subst (λ start. ShowsAll (the_meters_after start) old.now c.in_ok-rows.rows.items) c.number_or_none.ensures
            (first_shown meters_in c.in_ok-rows.ensures.sees clean has) in
            (c.in_ok-rows.rows.items, rows, c.in_ok-listed.ensures);
        spoilt = λ clean has. tt;
        reads = read_on (read_in_office meters_in c.in_ok-rows.ensures.reads);
      };
      rules = tt;
    }
