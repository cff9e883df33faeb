use Rattle.std.proofs.Common.{List, Option, ap, filter, find, inl, inr, map, sym, ℕ, ◌&&◌, ◌==◌, ◌∙◌, subst}
use Rattle.std.specs.Prelude.{bytes_eq}
use Rattle.sqlite.specs.Held.{state}
use Rattle.one_table.proofs.ReadsOnlyLemmas.{read_on}
use Rattle.sts_fields.specs.Base.{base_eq}
use Rattle.office_rules.specs.Office.Lookup.{greatest_of}
use Rattle.office_rules.specs.declared.office.sale.Sale.{Sale}
use Rattle.book_tables.specs.declared.error.TableError.TheVariants.{RowOfNoOffice}
use Rattle.book_tables.proofs.OfficeTableLemmas.{last_ids_in, sales_in, read_in_office}
use Rattle.book_tables.specs.reading.Questions.{the_last_id, the_sale_of_tid}
use Rattle.book_tables.specs.reading.Seen.{ShowsFirst}
use Rattle.book_facts.specs.Lookups.{sale_of_some_tid}
use Rattle.book_facts.proofs.FactsLemmas.{of_no_office, sales_told, was_clean}
use Rattle.book_facts.proofs.LookupLemmas.{sale_there}
use Rattle.book_facts.proofs.PassedLemmas.{passed, passed_none, read_after, stops_on, clean_before}
use Rattle.book_facts.proofs.LooksLemmas.{looks_none, looks_on, first_shown, first_spoilt, table_shown, table_spoilt}
use Rattle.book_facts.proofs.looking.last_sales.last_under.Goals as goal

pub returns-in_err-last : goal.returns-in_err-last
returns-in_err-last g c = looks_on c.from_residual.result c.from_residual.ensures.1 (read_in_office last_ids_in c.in_err-last.ensures.reads)
    (λ clean has row. inl (first_spoilt last_ids_in c.in_err-last.ensures.sees clean has row))

pub returns-in_default : goal.returns-in_default
returns-in_default g c =
    let old = state g.S.Store c.args.conn.now in
    let none = passed_none old (g.met.S.Store.shut_if_dirty c.args.conn.now.store) in
    let read = read_in_office last_ids_in c.in_ok-last.ensures.reads in
    record {
      facts = λ clean o office members.
          let last_is = sales_told office members none read clean last_ids_in
          (λ (sales : List Sale). greatest_of (map (λ s. s.tid)
          (filter (λ s. bytes_eq s.meter c.args.number.now && base_eq s.base c.args.base) sales))) c.in_ok-last.last (c.in_ok-last.ensures.given clean) in
          ap (λ (tid : Option ℕ). sale_of_some_tid o c.args.number.now c.args.base tid) (sym c.in_default.is ∙ last_is);
      shown = λ clean has. subst (ShowsFirst (the_last_id c.args.number.now c.args.base) old.now) c.in_default.is
          (first_shown last_ids_in c.in_ok-last.ensures.sees clean has);
      spoilt = λ clean has. tt;
      reads = read_on (read_in_office last_ids_in c.in_ok-last.ensures.reads);
    }

pub returns-in_err-there : goal.returns-in_err-there
returns-in_err-there g c =
    let old = state g.S.Store c.args.conn.now in
    let first = passed (read_in_office last_ids_in c.in_ok-last.ensures.reads) (g.met.S.Store.shut_if_dirty c.greatest_tid.new.conn.store) in
    let read_2 = read_in_office sales_in c.in_err-there.ensures.reads in
    looks_on c.from_residual-in_err-there.result c.from_residual-in_err-there.ensures.1 (read_after first read_2) (λ clean has row.
    let was = clean_before first read_2.survives has clean in
    inr (
      c.in-Some.tid,
      subst (ShowsFirst (the_last_id c.args.number.now c.args.base) old.now) c.in-Some.is (first_shown last_ids_in c.in_ok-last.ensures.sees was has),
      inl (table_spoilt first sales_in c.in_err-there.ensures.reads c.in_err-there.ensures.sees clean has row),
    ))

pub returns-in_default-there : goal.returns-in_default-there
returns-in_default-there g c =
    let old = state g.S.Store c.args.conn.now in
    let none = passed_none old (g.met.S.Store.shut_if_dirty c.args.conn.now.store) in
    let number = c.args.number.now in
    let base = c.args.base in
    let tid = c.in-Some.tid in
    let read_1 = read_in_office last_ids_in c.in_ok-last.ensures.reads in
    let first = passed read_1 (g.met.S.Store.shut_if_dirty c.greatest_tid.new.conn.store) in
    let read_2 = read_in_office sales_in c.in_ok-there.ensures.reads in
    let both = read_after first read_2 in
    looks_none (stops_on RowOfNoOffice both (λ clean has. of_no_office both clean has (λ o office members.
    let was = was_clean office members first read_2 clean in
    let last_is = sales_told office members none read_1 was last_ids_in
    (λ (sales : List Sale). greatest_of (map (λ s. s.tid) (filter (λ s. bytes_eq s.meter number && base_eq s.base base) sales)))
    c.in_ok-last.last (c.in_ok-last.ensures.given was) in
    let sale_is = sales_told office members first read_2 clean sales_in
    (find (λ s. bytes_eq s.meter number && (base_eq s.base base && (s.tid == tid)))) c.in_ok-there.there (c.in_ok-there.ensures.given clean) in
    let at = c.store_law.ensures.of_last_sale o number base tid office (sym last_is ∙ c.in-Some.is) in
    sale_there o number base tid at.0 at.1 at.2 (sym sale_is ∙ c.in_default-there.is)))) (λ clean has row.
    let was = clean_before first read_2.survives has clean in
    inr (
      tid,
      subst (ShowsFirst (the_last_id number base) old.now) c.in-Some.is (first_shown last_ids_in c.in_ok-last.ensures.sees was has),
      inr (subst (ShowsFirst (the_sale_of_tid number base tid) old.now) c.in_default-there.is
          (table_shown first sales_in c.in_ok-there.ensures.reads c.in_ok-there.ensures.sees clean has)),
    ))

pub returns : goal.returns
returns g c =
    let old = state g.S.Store c.args.conn.now in
    let none = passed_none old (g.met.S.Store.shut_if_dirty c.args.conn.now.store) in
    let number = c.args.number.now in
    let base = c.args.base in
    let tid = c.in-Some.tid in
    let read_1 = read_in_office last_ids_in c.in_ok-last.ensures.reads in
    let first = passed read_1 (g.met.S.Store.shut_if_dirty c.greatest_tid.new.conn.store) in
    let read_2 = read_in_office sales_in c.in_ok-there.ensures.reads in
    record {
      facts = λ clean o office members.
          let was = was_clean office members first read_2 clean in
          let last_is = sales_told office members none read_1 was last_ids_in
          (λ (sales : List Sale). greatest_of (map (λ s. s.tid) (filter (λ s. bytes_eq s.meter number && base_eq s.base base) sales)))
          c.in_ok-last.last (c.in_ok-last.ensures.given was) in
          let sale_is = sales_told office members first read_2 clean sales_in
          (find (λ s. bytes_eq s.meter number && (base_eq s.base base && (s.tid == tid)))) c.in_ok-there.there (c.in_ok-there.ensures.given clean) in
          sym c.in-Some-there.is ∙ sale_is
          ∙ ap (λ (tid : Option ℕ). sale_of_some_tid o number base tid) (sym c.in-Some.is ∙ last_is);
      shown = λ clean has.
          let was = clean_before first read_2.survives has clean in (
            tid,
            subst (ShowsFirst (the_last_id number base) old.now) c.in-Some.is (first_shown last_ids_in c.in_ok-last.ensures.sees was has),
            subst (ShowsFirst (the_sale_of_tid number base tid) old.now) c.in-Some-there.is
                (table_shown first sales_in c.in_ok-there.ensures.reads c.in_ok-there.ensures.sees clean has),
          );
      spoilt = λ clean has. tt;
      reads = read_on (read_after first (read_in_office sales_in c.in_ok-there.ensures.reads));
    }
