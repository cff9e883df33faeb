use Rattle.std.proofs.Common.{◌≡◌, ◌∙◌, ap, arith, rules}
use Rattle.std.specs.Prelude.{unwrap_or}
use Rattle.sts_fields.specs.Calendar.{month_at}
use Rattle.vend_core.specs.Law.Reached.{sales_alone}
use Rattle.office_rules.specs.Office.Lookup.{prior}
use Rattle.book_tables.specs.Stands.{sales_in_month}
use Rattle.audit_lists.proofs.ReachedLemmas.PriceLemmas.{bought_or, prior_within, tenths_or}
use Rattle.audit_lists.proofs.reached.prices.is_bought.Goals as goal

pub returns : goal.returns
returns c o earlier are gathered few rows =
    let s = c.args.sale.now in
    let month_is : c.unwrap-month.result ≡ month_at s.moment = search rules in
    let sum_is = c.unwrap_or.ensures ∙ ap (λ t. unwrap_or t 0) (c.tenths.ensures earlier gathered)
    ∙ tenths_or (sales_in_month earlier (s.meter, c.unwrap-month.result)) ∙ ap (prior (sales_alone earlier) s.meter) month_is in
    let low = prior_within c.amount_law.ensures.greatest c.price_law.ensures.most_before o earlier rows few s.meter (month_at s.moment) in
    let prior_is : c.min-prior.result ≡ prior (sales_alone earlier) s.meter (month_at s.moment) = omega (arith, low, sum_is, c.min-prior.ensures) in
    bought_or o earlier s c.args.listed.now are c.days.result c.min-prior.result (c.days.ensures.value ∙ c.day_of.ensures.value) prior_is
    c.some_sells.result c.some_sells.ensures.yes c.some_sells.ensures.no
