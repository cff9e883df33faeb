use Rattle.std.proofs.Common.{inl, inr, refl, sym, ◌∙◌, subst}
use Rattle.sqlite.specs.Held.{state}
use Rattle.one_table.proofs.ReadsOnlyLemmas.{read_on}
use Rattle.office_rules.specs.Office.Lookup.{latest}
use Rattle.book_states.specs.FactsSeen.{AreStepsSeenOn}
use Rattle.book_facts.proofs.FactsLemmas.{members_after, was_clean}
use Rattle.book_facts.proofs.ListedLemmas.{none_told, steps_told}
use Rattle.book_facts.proofs.PassedLemmas.{passed, read_after, clean_before}
use Rattle.book_facts.proofs.LooksLemmas.{looks_on, looks_shown, looks_spoilt}
use Rattle.book_facts.proofs.looking.tariff_page.tariff_named.Goals as goal

pub returns-in_err-found : goal.returns-in_err-found
returns-in_err-found g c = looks_on c.from_residual.result c.from_residual.ensures.1 c.in_err-found.ensures.reads
    (λ clean has row. inl (c.in_err-found.ensures.spoilt clean has row))

pub returns-in_default : goal.returns-in_default
returns-in_default g c =
    record {
      facts = λ clean o office members. none_told (latest (o.dated_steps c.args.name.now) c.args.day) (o.tariffs c.args.name.now)
          (sym c.in_default.is ∙ c.in_ok-found.ensures.facts clean o office members);
      shown = λ clean has. subst (AreStepsSeenOn c.args.name.now c.args.day (state g.S.Store c.args.conn.now).now) c.in_default.is
          (c.in_ok-found.ensures.shown clean has);
      spoilt = λ clean has. tt;
      reads = read_on c.in_ok-found.ensures.reads;
    }

pub returns-in_err-later : goal.returns-in_err-later
returns-in_err-later g c =
    let first = passed c.in_ok-found.ensures.reads (g.met.S.Store.shut_if_dirty c.steps_on.new.conn.store) in
    let read_2 = c.in_err-later.ensures.reads in
    looks_on c.from_residual-in_err-later.result c.from_residual-in_err-later.ensures.1 (read_after first read_2) (λ clean has row.
    let was = clean_before first read_2.survives has clean in
    let steps = subst (AreStepsSeenOn c.args.name.now c.args.day (state g.S.Store c.args.conn.now).now) c.in-Some.is
    (c.in_ok-found.ensures.shown was has) in
    inr (c.in-Some.steps, steps, looks_spoilt first c.in_err-later.ensures clean has row))

pub returns : goal.returns
returns g c =
    let first = passed c.in_ok-found.ensures.reads (g.met.S.Store.shut_if_dirty c.steps_on.new.conn.store) in
    let read = c.in_ok-later.ensures.reads in
    record {
      facts = λ clean o office members.
          let was = was_clean office members first read clean in
          let found_is = c.in_ok-found.ensures.facts was o office members in (
            refl,
            record {
              steps = steps_told o c.args.name.now c.args.day c.in_ok-found.found c.in-Some.steps found_is c.in-Some.is;
              later = c.in_ok-later.ensures.facts clean o office (members_after o members first read.survives clean);
            },
          );
      shown = λ clean has.
          let was = clean_before first read.survives has clean in
          record {
            named = refl;
            steps = subst (AreStepsSeenOn c.args.name.now c.args.day (state g.S.Store c.args.conn.now).now) c.in-Some.is (c.in_ok-found.ensures.shown was has);
            later = looks_shown first c.in_ok-later.ensures clean has;
          };
      spoilt = λ clean has. tt;
      reads = read_on (read_after first c.in_ok-later.ensures.reads);
    }
