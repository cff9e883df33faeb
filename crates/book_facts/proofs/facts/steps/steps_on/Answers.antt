use Rattle.std.proofs.Common.{ap, inl, inr, sym, List, Option, ◌∙◌}
use Rattle.std.proofs.lemmas.Result.{IfErr-weaker, IfOk-weaker}
use Rattle.std.specs.Option.{option_or}
use Rattle.sqlite.specs.Held.{state}
use Rattle.one_table.proofs.ReadsOnlyLemmas.{read_on}
use Rattle.tariff.specs.declared.step.Step.{Step}
use Rattle.office_rules.specs.Office.Lookup.{latest}
use Rattle.office_rules.specs.Office.{Office}
use Rattle.book_tables.proofs.OfficeTableLemmas.{dated_steps_in, steps_in, read_in_office}
use Rattle.book_tables.specs.reading.Seen.{AreLatestSeen}
use Rattle.book_facts.proofs.FactsLemmas.{begun_alone, begun_or_first, office_told, office_told_of, tables_of}
use Rattle.book_facts.proofs.PassedLemmas.{clean_before, passed, passed_none, read_after}
use Rattle.book_facts.proofs.LooksLemmas.{looks_on, table_shown, table_spoilt, there_is_none, or_first, or_second, first_shown, first_spoilt}
use Rattle.book_facts.proofs.facts.steps.steps_on.Goals as goal

pub returns-in_err-begun : goal.returns-in_err-begun
returns-in_err-begun g c = looks_on c.from_residual.result c.from_residual.ensures.1 (read_in_office dated_steps_in c.in_err-begun.ensures.reads)
    (λ clean has row. inl (first_spoilt dated_steps_in c.in_err-begun.ensures.sees clean has row))

pub returns-then-is_some : goal.returns-then-is_some
returns-then-is_some g c =
    let old = state g.S.Store c.args.conn.now in
    let none = passed_none old (g.met.S.Store.shut_if_dirty c.args.conn.now.store) in
    let name = c.args.name.now in
    let read = read_in_office dated_steps_in c.in_ok-begun.ensures.reads in
    record {
      facts = λ clean o office members.
          let begun_is = office_told office members none read clean dated_steps_in (λ (o : Office). latest (o.dated_steps name) c.args.day)
          c.in_ok-begun.begun (c.in_ok-begun.ensures.given clean) in
          begun_alone c.in_ok-begun.begun (o.tariffs name) (sym c.is_some.ensures ∙ c.if-is_some.true)
          ∙ ap (λ (begun : Option (List Step)). option_or begun (o.tariffs name)) begun_is;
      shown = λ clean has. or_first c.in_ok-begun.begun (sym c.is_some.ensures ∙ c.if-is_some.true)
          (first_shown dated_steps_in c.in_ok-begun.ensures.sees clean has);
      spoilt = λ _ _. tt;
      reads = read_on (read_in_office dated_steps_in c.in_ok-begun.ensures.reads);
    }

pub returns : goal.returns
returns g c =
    let old = state g.S.Store c.args.conn.now in
    let none = passed_none old (g.met.S.Store.shut_if_dirty c.args.conn.now.store) in
    let name = c.args.name.now in
    let read_1 = read_in_office dated_steps_in c.in_ok-begun.ensures.reads in
    let first = passed read_1 (g.met.S.Store.shut_if_dirty c.latest_steps.new.conn.store) in
    let read_2 = read_in_office steps_in c.steps_of.ensures.reads in
    record {
      facts = λ clean o office members.
          let was = clean_before first read_2.survives (tables_of old o members) clean in
          let begun_is = office_told office members none read_1 was dated_steps_in (λ (o : Office). latest (o.dated_steps name) c.args.day)
          c.in_ok-begun.begun (c.in_ok-begun.ensures.given was) in
          IfOk-weaker c.steps_of.result _ _ (λ found is.
          begun_or_first c.in_ok-begun.begun (o.tariffs name) found (sym c.is_some.ensures ∙ c.if-is_some.false) is
          ∙ ap (λ (begun : Option (List Step)). option_or begun (o.tariffs name)) begun_is)
          (office_told_of c.steps_of.result o office members first read_2 clean steps_in (λ (o : Office). o.tariffs name) (c.steps_of.ensures.given clean));
      shown = λ clean has.
          let was = clean_before first read_2.survives has clean in
          let latest = first_shown dated_steps_in c.in_ok-begun.ensures.sees was has in
          IfOk-weaker c.steps_of.result _ _ (λ found is. or_second c.in_ok-begun.begun (sym c.is_some.ensures ∙ c.if-is_some.false) latest found is)
          (table_shown first steps_in c.steps_of.ensures.reads c.steps_of.ensures.sees clean has);
      spoilt = λ clean has.
          let was = clean_before first read_2.survives has clean in
          let gone = there_is_none c.in_ok-begun.begun (sym c.is_some.ensures ∙ c.if-is_some.false) (AreLatestSeen name c.args.day old.now)
          (first_shown dated_steps_in c.in_ok-begun.ensures.sees was has) in
          IfErr-weaker c.steps_of.result _ _ (λ e told row. inr (gone, told row))
          (table_spoilt first steps_in c.steps_of.ensures.reads c.steps_of.ensures.sees clean has);
      reads = read_after first (read_in_office steps_in c.steps_of.ensures.reads);
    }
