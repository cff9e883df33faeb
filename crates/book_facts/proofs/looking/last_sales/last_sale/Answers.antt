use Rattle.std.proofs.Common.{Option, ap, inl, inr, sym, ◌∙◌}
use Rattle.std.proofs.lemmas.Result.{IfErr-weaker, IfOk-weaker}
use Rattle.std.specs.Option.{option_or}
use Rattle.sqlite.specs.Held.{state}
use Rattle.one_table.proofs.ReadsOnlyLemmas.{read_on}
use Rattle.sts_fields.specs.declared.base.Base.TheVariants.{Y1993, Y2014, Y2035}
use Rattle.office_rules.specs.declared.office.sale.Sale.{Sale}
use Rattle.book_facts.specs.Lookups.{last_under}
use Rattle.book_facts.specs.LookupsSeen.{IsLastUnderSeen}
use Rattle.book_facts.proofs.FactsLemmas.{begun_alone, begun_or_first, members_after, was_clean, tables_of}
use Rattle.book_facts.proofs.PassedLemmas.{clean_before, passed, passed_after, read_after}
use Rattle.book_facts.proofs.LooksLemmas.{looks_on, looks_shown, looks_spoilt, or_first, or_second, there_is_none}
use Rattle.book_facts.proofs.looking.last_sales.last_sale.Goals as goal

pub returns-in_err-latest : goal.returns-in_err-latest
returns-in_err-latest g c = looks_on c.from_residual.result c.from_residual.ensures.1 c.in_err-latest.ensures.reads
    (λ clean has row. inl (c.in_err-latest.ensures.spoilt clean has row))

pub returns-then-is_some : goal.returns-then-is_some
returns-then-is_some g c =
    let number = c.args.number.now in
    record {
      facts = λ clean o office members.
          let latest_is = c.in_ok-latest.ensures.facts clean o office members in
          begun_alone c.in_ok-latest.latest (option_or (last_under o number Y2014) (last_under o number Y1993)) (sym c.is_some.ensures ∙ c.if-is_some.true)
          ∙ ap (λ (latest : Option Sale). option_or latest (option_or (last_under o number Y2014) (last_under o number Y1993))) latest_is;
      shown = λ clean has. or_first c.in_ok-latest.latest (sym c.is_some.ensures ∙ c.if-is_some.true) (c.in_ok-latest.ensures.shown clean has);
      spoilt = λ clean has. tt;
      reads = read_on c.in_ok-latest.ensures.reads;
    }

pub returns-in_err-before : goal.returns-in_err-before
returns-in_err-before g c =
    let first = passed c.in_ok-latest.ensures.reads (g.met.S.Store.shut_if_dirty c.last_under.new.conn.store) in
    let read_2 = c.in_err-before.ensures.reads in
    looks_on c.from_residual-in_err-before.result c.from_residual-in_err-before.ensures.1 (read_after first read_2) (λ clean has row.
    let was = clean_before first read_2.survives has clean in
    let none = there_is_none c.in_ok-latest.latest (sym c.is_some.ensures ∙ c.if-is_some.false)
    (IsLastUnderSeen c.args.number.now Y2035 (state g.S.Store c.args.conn.now).now) (c.in_ok-latest.ensures.shown was has) in
    inr (none, inl (looks_spoilt first c.in_err-before.ensures clean has row)))

pub returns-then-is_some-2 : goal.returns-then-is_some-2
returns-then-is_some-2 g c =
    let number = c.args.number.now in
    let first = passed c.in_ok-latest.ensures.reads (g.met.S.Store.shut_if_dirty c.last_under.new.conn.store) in
    let read_2 = c.in_ok-before.ensures.reads in
    record {
      facts = λ clean o office members.
          let first_under = last_under o number Y1993 in
          let was = was_clean office members first read_2 clean in
          let latest_is = c.in_ok-latest.ensures.facts was o office members in
          let before_is = c.in_ok-before.ensures.facts clean o office (members_after o members first read_2.survives clean) in
          begun_or_first c.in_ok-latest.latest (option_or (last_under o number Y2014) first_under) c.in_ok-before.before
          (sym c.is_some.ensures ∙ c.if-is_some.false)
          (begun_alone c.in_ok-before.before first_under (sym c.is_some-2.ensures ∙ c.if-is_some-2.true)
          ∙ ap (λ (before : Option Sale). option_or before first_under) before_is)
          ∙ ap (λ (latest : Option Sale). option_or latest (option_or (last_under o number Y2014) first_under)) latest_is;
      shown = λ clean has.
          let was = clean_before first read_2.survives has clean in
          or_second c.in_ok-latest.latest (sym c.is_some.ensures ∙ c.if-is_some.false) (c.in_ok-latest.ensures.shown was has) c.in_ok-before.before
          (or_first c.in_ok-before.before (sym c.is_some-2.ensures ∙ c.if-is_some-2.true) (looks_shown first c.in_ok-before.ensures clean has));
      spoilt = λ clean has. tt;
      reads = read_on (read_after first c.in_ok-before.ensures.reads);
    }

pub returns : goal.returns
returns g c =
    let number = c.args.number.now in
    let first = passed c.in_ok-latest.ensures.reads (g.met.S.Store.shut_if_dirty c.last_under.new.conn.store) in
    let read_2 = c.in_ok-before.ensures.reads in
    let second = passed_after first read_2 (g.met.S.Store.shut_if_dirty c.last_under-2.new.conn.store) in
    let read_3 = c.last_under-3.ensures.reads in
    record {
      facts = λ clean o office members.
          let first_under = last_under o number Y1993 in
          let was_2 = clean_before second read_3.survives (tables_of (state g.S.Store c.args.conn.now) o members) clean in
          let was_1 = was_clean office members first read_2 was_2 in
          let latest_is = c.in_ok-latest.ensures.facts was_1 o office members in
          let before_is = c.in_ok-before.ensures.facts was_2 o office (members_after o members first read_2.survives was_2) in
          IfOk-weaker c.last_under-3.result _ _ (λ found is.
          begun_or_first c.in_ok-latest.latest (option_or (last_under o number Y2014) first_under) found (sym c.is_some.ensures ∙ c.if-is_some.false)
          (begun_or_first c.in_ok-before.before first_under found (sym c.is_some-2.ensures ∙ c.if-is_some-2.false) is
          ∙ ap (λ (before : Option Sale). option_or before first_under) before_is)
          ∙ ap (λ (latest : Option Sale). option_or latest (option_or (last_under o number Y2014) first_under)) latest_is)
          (c.last_under-3.ensures.facts clean o office (members_after o members second read_3.survives clean));
      shown = λ clean has.
          let was_2 = clean_before second read_3.survives has clean in
          let was_1 = clean_before first read_2.survives has was_2 in
          IfOk-weaker c.last_under-3.result _ _ (λ found is.
          or_second c.in_ok-latest.latest (sym c.is_some.ensures ∙ c.if-is_some.false) (c.in_ok-latest.ensures.shown was_1 has) found
          (or_second c.in_ok-before.before (sym c.is_some-2.ensures ∙ c.if-is_some-2.false) (looks_shown first c.in_ok-before.ensures was_2 has) found is))
          (looks_shown second c.last_under-3.ensures clean has);
      spoilt = λ clean has.
          let old = state g.S.Store c.args.conn.now in
          let was_2 = clean_before second read_3.survives has clean in
          let was_1 = clean_before first read_2.survives has was_2 in
          let none_1 = there_is_none c.in_ok-latest.latest (sym c.is_some.ensures ∙ c.if-is_some.false) (IsLastUnderSeen number Y2035 old.now)
          (c.in_ok-latest.ensures.shown was_1 has) in
          let none_2 = there_is_none c.in_ok-before.before (sym c.is_some-2.ensures ∙ c.if-is_some-2.false) (IsLastUnderSeen number Y2014 old.now)
          (looks_shown first c.in_ok-before.ensures was_2 has) in
          IfErr-weaker c.last_under-3.result _ _ (λ e told row. inr (none_1, inr (none_2, told row)))
          (looks_spoilt second c.last_under-3.ensures clean has);
      reads = read_after second c.last_under-3.ensures.reads;
    }
