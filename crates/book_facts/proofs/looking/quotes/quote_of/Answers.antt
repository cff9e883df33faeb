use Rattle.std.proofs.Common.{Option, ℕ, Result, ap, rules, sym, subst, ◌∙◌, ◌≡◌}
use Rattle.std.specs.Prelude.{IfErr}
use Rattle.std.specs.Option.{option_copied}
use Rattle.one_table.proofs.ReadsOnlyLemmas.{read_on}
use Rattle.office_rules.specs.Decision.{MeterAccount, account_of}
use Rattle.office_rules.specs.declared.decision.refusal.Refusal.{Refusal}
use Rattle.book_facts.specs.Lookups.{IsOfRules, quote_for}
use Rattle.book_states.specs.declared.lookup.Found.{Found}
use Rattle.book_facts.proofs.LookupLemmas.{quote_rules}
use Rattle.book_facts.proofs.LooksLemmas.{by_rules_on}
use Rattle.book_facts.proofs.looking.quotes.quote_of.Goals as goal

pub returns-in_err-account : goal.returns-in_err-account
returns-in_err-account g c = by_rules_on c.from_residual.result c.from_residual.ensures.1 c.in_err-account.ensures.reads c.in_err-account.ensures.spoilt

pub returns : goal.returns
returns g c =
    let same : option_copied c.as_ref.result ≡ c.in_ok-account.account = search rules in
    record {
      looks = record {
        facts = λ clean o office members counted.
            let account_is = c.in_ok-account.ensures.facts clean o office members in
            c.quoted.ensures
            ∙ ap (λ (account : Option MeterAccount). quote_for c.args.moment c.args.number.now c.args.tender account c.args.sale_count) (same ∙ account_is)
            ∙ ap (λ (count : ℕ). quote_for c.args.moment c.args.number.now c.args.tender (account_of o c.args.number.now c.args.moment) count) counted;
        shown = λ clean has.
            let same : option_copied c.as_ref.result ≡ c.in_ok-account.account = search rules in (
              c.in_ok-account.account,
              c.in_ok-account.ensures.shown clean has,
              c.quoted.ensures ∙ ap (λ (account : Option MeterAccount). quote_for c.args.moment c.args.number.now c.args.tender account
                  c.args.sale_count) same,
            );
        spoilt = λ clean has. tt;
        reads = read_on c.in_ok-account.ensures.reads;
      };
      rules = subst (λ (r : Result Found Refusal). IfErr r IsOfRules) (sym c.quoted.ensures)
          (quote_rules c.args.moment c.args.number.now c.args.tender _ c.args.sale_count);
    }
