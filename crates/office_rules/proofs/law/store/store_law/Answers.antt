use Rattle.office_rules.specs.declared.office.sale.Sale.{Sale}
use Rattle.office_rules.specs.declared.office.shift.Shift.{Shift}
use Rattle.office_rules.proofs.StoreLemmas.LatestLemmas.{latest_steps_are, no_latest_steps}
use Rattle.office_rules.proofs.StoreLemmas.MeetsLemmas.{closes_the_open, decided_meets}
use Rattle.office_rules.proofs.DecisionLemmas.NewSaleLemmas.{LowerLaws}
use Rattle.office_rules.proofs.StoreLemmas.OrderLemmas.{sales_above_are, sales_of_shift_are}
use Rattle.office_rules.proofs.StoreLemmas.SoldLemmas.{not_sold_since_is, not_sold_to_is, sold_since_is, sold_to_is}
use Rattle.office_rules.proofs.StoreLemmas.SumLemmas.{last_grows_by, last_rises_to, prior_grows_by, prior_in_range, totals_added, totals_grow, used_in_range}
use Rattle.office_rules.proofs.StoreLemmas.{last_is_greatest, last_is_of_a_sale, last_sale_is, no_last_sale_is, no_number_is, no_open_shift_is, no_sale_of_ref_is, numbered_is, open_shift_is, row_at, sale_of_ref_is}
use Rattle.office_rules.proofs.law.store.store_law.Goals as goal

-- the laws that the body calls
lower : goal.After-token_law → LowerLaws
lower c = record { fresh = c.fresh_law.ensures.computed; purchase = c.purchase_law.ensures.computed; token = c.token_law.ensures.has_text }

pub returns-clause-greatest : goal.returns-clause-greatest
returns-clause-greatest c = last_is_greatest

pub returns-clause-last_sale : goal.returns-clause-last_sale
returns-clause-last_sale c = last_sale_is

pub returns-clause-no_last_sale : goal.returns-clause-no_last_sale
returns-clause-no_last_sale c = no_last_sale_is

pub returns-clause-open_shift : goal.returns-clause-open_shift
returns-clause-open_shift c = open_shift_is

pub returns-clause-no_open_shift : goal.returns-clause-no_open_shift
returns-clause-no_open_shift c = no_open_shift_is

pub returns-clause-shift_numbered : goal.returns-clause-shift_numbered
returns-clause-shift_numbered c = λ o number s office. numbered_is (λ (s : Shift). s.number) o.shifts office.shift_numbers number s

pub returns-clause-no_shift_numbered : goal.returns-clause-no_shift_numbered
returns-clause-no_shift_numbered c = λ o number. no_number_is (λ (s : Shift). s.number) o.shifts number

pub returns-clause-shift_at : goal.returns-clause-shift_at
returns-clause-shift_at c = λ o number office. row_at (λ (s : Shift). s.number) o.shifts office.shift_numbers number

pub returns-clause-sale_numbered : goal.returns-clause-sale_numbered
returns-clause-sale_numbered c = λ o number s office. numbered_is (λ (s : Sale). s.number) o.sales office.sale_numbers number s

pub returns-clause-no_sale_numbered : goal.returns-clause-no_sale_numbered
returns-clause-no_sale_numbered c = λ o number. no_number_is (λ (s : Sale). s.number) o.sales number

pub returns-clause-sale_at : goal.returns-clause-sale_at
returns-clause-sale_at c = λ o number office. row_at (λ (s : Sale). s.number) o.sales office.sale_numbers number

pub returns-clause-sale_of_ref : goal.returns-clause-sale_of_ref
returns-clause-sale_of_ref c = sale_of_ref_is

pub returns-clause-no_sale_of_ref : goal.returns-clause-no_sale_of_ref
returns-clause-no_sale_of_ref c = no_sale_of_ref_is

pub returns-clause-sales_of_shift : goal.returns-clause-sales_of_shift
returns-clause-sales_of_shift c = sales_of_shift_are

pub returns-clause-sales_above : goal.returns-clause-sales_above
returns-clause-sales_above c = sales_above_are

pub returns-clause-last_grows : goal.returns-clause-last_grows
returns-clause-last_grows c = last_grows_by

pub returns-clause-last_rises : goal.returns-clause-last_rises
returns-clause-last_rises c = last_rises_to

pub returns-clause-prior_grows : goal.returns-clause-prior_grows
returns-clause-prior_grows c = prior_grows_by

pub returns-clause-used_range : goal.returns-clause-used_range
returns-clause-used_range c = used_in_range

pub returns-clause-prior_range : goal.returns-clause-prior_range
returns-clause-prior_range c = prior_in_range c.amount_law.ensures.greatest

pub returns-clause-meets : goal.returns-clause-meets
returns-clause-meets c = decided_meets (lower c)

pub returns-clause-closes : goal.returns-clause-closes
returns-clause-closes c = closes_the_open

pub returns-clause-latest_steps : goal.returns-clause-latest_steps
returns-clause-latest_steps c = latest_steps_are

pub returns-clause-no_latest_steps : goal.returns-clause-no_latest_steps
returns-clause-no_latest_steps c = no_latest_steps

pub returns-clause-totals_grow : goal.returns-clause-totals_grow
returns-clause-totals_grow c = totals_grow

pub returns-clause-totals_added : goal.returns-clause-totals_added
returns-clause-totals_added c = totals_added

pub returns-clause-of_last_sale : goal.returns-clause-of_last_sale
returns-clause-of_last_sale c = last_is_of_a_sale

pub returns-clause-has_sales : goal.returns-clause-has_sales
returns-clause-has_sales c = sold_to_is

pub returns-clause-has_no_sales : goal.returns-clause-has_no_sales
returns-clause-has_no_sales c = not_sold_to_is

pub returns-clause-sold_since : goal.returns-clause-sold_since
returns-clause-sold_since c = sold_since_is

pub returns-clause-not_sold_since : goal.returns-clause-not_sold_since
returns-clause-not_sold_since c = not_sold_since_is
