use Rattle.std.proofs.Common.{Option, ap, ◌∙◌}
use Rattle.one_table.proofs.ReadsOnlyLemmas.{read_on}
use Rattle.book_tables.specs.declared.row.totals.Totals.{Totals}
use Rattle.book_facts.specs.Lookups.{totals_found}
use Rattle.book_facts.proofs.LooksLemmas.{by_rules_on}
use Rattle.book_facts.proofs.looking.shifts.totals_under.Goals as goal

pub returns-in_err-there : goal.returns-in_err-there
returns-in_err-there g c = by_rules_on c.from_residual.result c.from_residual.ensures.1 c.in_err-there.ensures.reads c.in_err-there.ensures.spoilt

pub returns : goal.returns
returns g c =
    record {
      looks = record {
        facts = λ clean o office members. c.totals_or_none.ensures.value
            ∙ ap (λ (there : Option Totals). totals_found c.args.number there) (c.in_ok-there.ensures.facts clean o office members);
        shown = λ clean has. (c.in_ok-there.there, c.in_ok-there.ensures.shown clean has, c.totals_or_none.ensures.value);
        spoilt = λ clean has. tt;
        reads = read_on c.in_ok-there.ensures.reads;
      };
      rules = c.totals_or_none.ensures.rules;
    }
