use Rattle.std.proofs.Common.{rules, ◌≡◌, ◌++◌, [], ◌∷◌, List, ap, filter, inl, inr, map, refl, sym, take, take_all, ◌∙◌, subst}
use Rattle.std.specs.Prelude.{⊤, Any, nat_lt}
use Rattle.std.specs.List.{AllZip}
use Rattle.sqlite.specs.Held.{state}
use Rattle.sqlite.specs.declared.error.Error.TheVariants.{SqliteFailure}
use Rattle.sqlite.specs.declared.error.ErrorCode.TheVariants.{OutOfMemory}
use Rattle.office_rules.specs.declared.office.sale.Sale.{Sale}
use Rattle.office_rules.specs.declared.office.shift.Shift.{Shift}
use Rattle.book_tables.specs.Stands.{all_totals, sales_in_shift}
use Rattle.book_tables.specs.declared.error.TableError.TheVariants.{Database}
use Rattle.book_tables.specs.declared.row.totals.Totals.{Totals}
use Rattle.book_tables.proofs.OfficeTableLemmas.{shift_totals_in, shifts_in, read_in_office}
use Rattle.book_lists.specs.Pages.{page_size}
use Rattle.book_facts.specs.Lookups.{listed_shift}
use Rattle.book_states.specs.declared.lookup.ListedShift.{ListedShift}
use Rattle.book_facts.proofs.FactsLemmas.{members_after, sales_told, shifts_told, tables_of}
use Rattle.book_facts.proofs.ListedLemmas.{map_more}
use Rattle.book_facts.proofs.PassedLemmas.{clean_before, passed, passed_after, passed_none, passed_reads, passed_then, read_after, same_on, stops_on, earlier, tables_after}
use Rattle.book_facts.specs.LookupsSeen.{IsShiftListedSeen, IsShiftListedSpoilt}
use Rattle.book_facts.proofs.LooksLemmas.{by_rules_on, first_shown, first_spoilt, table_shown, table_spoilt, zip_more}
use Rattle.book_facts.proofs.looking.shift_page.shift_page.Goals as goal

pub returns-in_err-shifts : goal.returns-in_err-shifts
returns-in_err-shifts g c = by_rules_on c.from_residual.result c.from_residual.ensures.1
    (same_on (read_in_office shifts_in c.in_err-shifts.ensures.reads))
    (λ clean has row. inl (first_spoilt shifts_in c.in_err-shifts.ensures.sees clean has row))

pub loop-shift-init : goal.loop-shift-init
loop-shift-init g c =
    record {
      passed = passed_none (state g.S.Store c.shifts_after.new.conn) (g.met.S.Store.shut_if_dirty c.shifts_after.new.conn.store);
      listed = λ clean o office members. c.new-listed.ensures.items;
      seen = λ clean has. rw c.new-listed.ensures.items tt;
    }

pub returns-in_err-totals : goal.returns-in_err-totals
returns-in_err-totals g c =
    let old = state g.S.Store c.args.conn.now in
    let first = passed (read_in_office shifts_in c.in_ok-shifts.ensures.reads) (g.met.S.Store.shut_if_dirty c.shifts_after.new.conn.store) in
    let before = passed_then first c.loop-shift.invariant.passed in
    let read = read_in_office shift_totals_in c.in_err-totals.ensures.reads in
    let items_are : c.deref-shift-items.result.now ≡ c.in_ok-shifts.shifts.items = search rules in
    by_rules_on c.from_residual-in_err-totals.result c.from_residual-in_err-totals.ensures.1 (same_on (read_after before read)) (λ clean has row.
    let was = clean_before first c.loop-shift.invariant.passed.survives has (clean_before before read.survives has clean) in
    let spoilt = table_spoilt before shift_totals_in c.in_err-totals.ensures.reads c.in_err-totals.ensures.sees clean has row in
    let any : Any (IsShiftListedSpoilt old.now) c.deref-shift-items.result.now =
    (c.loop-shift.shift-index, c.shift-item.result, c.loop-shift-test.true, sym c.shift-item.is, spoilt) in
    inr (
      c.in_ok-shifts.shifts.items,
      first_shown shifts_in c.in_ok-shifts.ensures.sees was has,
      subst (Any (IsShiftListedSpoilt old.now)) items_are any,
    ))

pub returns-in_err-map_err : goal.returns-in_err-map_err
returns-in_err-map_err g c =
    let first = passed (read_in_office shifts_in c.in_ok-shifts.ensures.reads) (g.met.S.Store.shut_if_dirty c.shifts_after.new.conn.store) in
    let read = read_after (passed_then first c.loop-shift.invariant.passed) (read_in_office shift_totals_in c.in_ok-totals.ensures.reads) in
    by_rules_on {U = ⊤} c.from_residual-in_err-map_err.result c.from_residual-in_err-map_err.ensures.1
    (same_on (stops_on (Database (SqliteFailure OutOfMemory)) read (λ clean has. inr (refl, read.same clean has)))) (λ clean has row. absurd cc)

pub loop-shift-preserved : goal.loop-shift-preserved
loop-shift-preserved g c =
    let initial = state g.S.Store c.shifts_after.new.conn in
    let before = c.loop-shift.invariant.passed in
    let read = read_in_office shift_totals_in c.in_ok-totals.ensures.reads in
    let items = c.deref-shift-items.result.now in
    let i = c.loop-shift.shift-index in
    let shift = c.shift-item.result in
    let listed = c.loop-shift.listed.items in
    let this : ListedShift = record { shift = shift; totals = c.in_ok-totals.totals } in
    let pushed : c.push.new.self.items ≡ listed ++ this ∷ [] = search rules in
    record {
      passed = passed_after before read (g.met.S.Store.shut_if_dirty c.totals_of_shift.new.conn.store);
      listed = λ clean o office members.
          let was = clean_before before read.survives (tables_of initial o members) clean in
          let totals_are = sales_told office members before read clean shift_totals_in
          (λ (sales : List Sale). all_totals (sales_in_shift sales shift.number)) c.in_ok-totals.totals (c.in_ok-totals.ensures.given clean) in
          let this_is = ap (λ (totals : Totals). let listed : ListedShift = record { shift = shift; totals = totals } in listed) totals_are in
          pushed
          ∙ ap (λ (l : ListedShift). listed ++ l ∷ []) this_is
          ∙ ap (λ (ls : List ListedShift). ls ++ listed_shift o shift ∷ []) (c.loop-shift.invariant.listed was o office members)
          ∙ sym (map_more (listed_shift o) items i shift c.loop-shift-test.true c.shift-item.is);
      seen = λ clean has.
          let was = clean_before before read.survives has clean in
          let totals = table_shown before shift_totals_in c.in_ok-totals.ensures.reads c.in_ok-totals.ensures.sees clean has in
          rw pushed (zip_more (IsShiftListedSeen initial.now) items i listed shift this c.loop-shift-test.true c.shift-item.is
          (c.loop-shift.invariant.seen was has) (refl, totals));
    }

pub returns : goal.returns
returns g c =
    let old = state g.S.Store c.args.conn.now in
    let initial = state g.S.Store c.shifts_after.new.conn in
    let new = state g.S.Store c.loop-shift.conn in
    let none = passed_none old (g.met.S.Store.shut_if_dirty c.args.conn.now.store) in
    let read = read_in_office shifts_in c.in_ok-shifts.ensures.reads in
    let first = passed read (g.met.S.Store.shut_if_dirty c.shifts_after.new.conn.store) in
    let after = c.loop-shift.invariant.passed in
    let number = c.args.after in
    let items = c.deref-shift-items.result.now in
    let listed = c.loop-shift.listed.items in
    let items_are : items ≡ c.in_ok-shifts.shifts.items = search rules in
    let all = take_all c.loop-shift.shift-index items c.loop-shift-test.false in
    record {
      looks = record {
        facts = λ clean o office members.
            let was = clean_before first after.survives (tables_of old o members) clean in
            let shifts_are = shifts_told office members none read was
            (λ (shifts : List Shift). take page_size (filter (λ s. nat_lt number s.number) shifts)) c.in_ok-shifts.shifts.items
            (c.in_ok-shifts.ensures.given was) in
            c.loop-shift.invariant.listed clean o office (members_after o members first after.survives clean)
            ∙ ap (map (listed_shift o)) (all ∙ items_are ∙ shifts_are);
        shown = λ clean has.
            let was = clean_before first after.survives has clean in
            let as_was = earlier old initial new first after.survives has clean in
            let told = subst (λ (shifts : List Shift). AllZip (IsShiftListedSeen initial.now) shifts listed) (all ∙ items_are)
            (c.loop-shift.invariant.seen clean (tables_after first has)) in (
              c.in_ok-shifts.shifts.items,
              first_shown shifts_in c.in_ok-shifts.ensures.sees was has,
              subst (λ db. AllZip (IsShiftListedSeen db) c.in_ok-shifts.shifts.items listed) as_was.now_is told,
            );
        spoilt = λ clean has. tt;
        reads = passed_reads (passed_then first after);
      };
      rules = tt;
    }
