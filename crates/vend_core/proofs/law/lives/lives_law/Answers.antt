use Rattle.office_rules.proofs.DecisionLemmas.NewSaleLemmas.{LowerLaws}
use Rattle.vend_core.proofs.LawLemmas.CashLemmas.{cash_adds_up}
use Rattle.vend_core.proofs.LawLemmas.MeterLemmas.{MeterLaws, accepted_is, bound_above, credit_is, credit_within, first_entry_is, in_order_is, written_are_sold}
use Rattle.vend_core.proofs.LawLemmas.RiseLemmas.{led_rises}
use Rattle.vend_core.proofs.LawLemmas.SaleLemmas.{made_tenths, made_tid, made_token}
use Rattle.vend_core.proofs.LifeLemmas.AgainLifeLemmas.{imported_again_in_lives}
use Rattle.vend_core.proofs.LifeLemmas.ExtendManyLemmas.{led_on, led_through}
use Rattle.vend_core.proofs.LifeLemmas.HistoryLemmas.{one_handed_number, one_handed_ref, one_handed_tid, same_digits}
use Rattle.vend_core.proofs.LifeLemmas.{led_grown, led_office, led_stands}
use Rattle.vend_core.proofs.law.lives.lives_law.Goals as goal

-- the laws that the body calls
lower : goal.After-meter_law → LowerLaws
lower c = record { fresh = c.fresh_law.ensures.computed; purchase = c.purchase_law.ensures.computed; token = c.token_law.ensures.has_text }

meter : goal.After-meter_law → MeterLaws
meter c =
    let m = c.meter_law.ensures in
    record {
      one_text = c.token_law.ensures.one_text;
      taken = m.taken;
      first_entry = m.first_entry;
      in_order = m.in_order;
      credit = m.credit;
      at_most_sold = m.at_most_sold;
      below_bound = m.below_bound;
    }

pub returns-clause-offices : goal.returns-clause-offices
returns-clause-offices c = led_office (lower c)

pub returns-clause-grows : goal.returns-clause-grows
returns-clause-grows c = led_grown (lower c)

pub returns-clause-goes_on : goal.returns-clause-goes_on
returns-clause-goes_on c = led_on

pub returns-clause-joins : goal.returns-clause-joins
returns-clause-joins c = led_through

pub returns-clause-stands : goal.returns-clause-stands
returns-clause-stands c = led_stands (lower c)

pub returns-clause-one_identifier : goal.returns-clause-one_identifier
returns-clause-one_identifier c = one_handed_tid (lower c)

pub returns-clause-one_number : goal.returns-clause-one_number
returns-clause-one_number c = one_handed_number (lower c)

pub returns-clause-one_ref : goal.returns-clause-one_ref
returns-clause-one_ref c = one_handed_ref (lower c)

pub returns-clause-reprint : goal.returns-clause-reprint
returns-clause-reprint c = same_digits (lower c)

pub returns-clause-rising : goal.returns-clause-rising
returns-clause-rising c = led_rises (lower c)

pub returns-clause-identifiers : goal.returns-clause-identifiers
returns-clause-identifiers c = made_tid (lower c)

pub returns-clause-some_tenths : goal.returns-clause-some_tenths
returns-clause-some_tenths c = made_tenths (lower c)

pub returns-clause-written : goal.returns-clause-written
returns-clause-written c = made_token (lower c)

pub returns-clause-imported_again : goal.returns-clause-imported_again
returns-clause-imported_again c = imported_again_in_lives

pub returns-clause-first_entry : goal.returns-clause-first_entry
returns-clause-first_entry c = λ start lives o m sales came s begins lead to made from. first_entry_is (lower c) (meter c) o m sales (written_are_sold (lower c) start lives o begins lead sales made m to) came from s

pub returns-clause-in_order : goal.returns-clause-in_order
returns-clause-in_order c = λ start lives o m earlier later s begins lead to made. in_order_is (lower c) (meter c) o m earlier later s (written_are_sold (lower c) start lives o begins lead _ made m to)

pub returns-clause-credit : goal.returns-clause-credit
returns-clause-credit c = λ start lives o m sales came begins lead to made from. credit_is (lower c) (meter c) o m sales (written_are_sold (lower c) start lives o begins lead sales made m to) came from

pub returns-clause-accepted : goal.returns-clause-accepted
returns-clause-accepted c = λ start lives o m sales came s begins lead to made from. accepted_is (lower c) (meter c) o m sales (written_are_sold (lower c) start lives o begins lead sales made m to) came from s

pub returns-clause-at_most_sold : goal.returns-clause-at_most_sold
returns-clause-at_most_sold c = λ start lives o m sales came begins lead to made from. credit_within (lower c) (meter c) o m sales (written_are_sold (lower c) start lives o begins lead sales made m to) came from

pub returns-clause-below_bound : goal.returns-clause-below_bound
returns-clause-below_bound c = λ start lives o m sales begins lead to made. bound_above (lower c) (meter c) o m sales (written_are_sold (lower c) start lives o begins lead sales made m to)

pub returns-clause-cash : goal.returns-clause-cash
returns-clause-cash c = λ start lives forward o ats begins lead. cash_adds_up forward o ats (led_office (lower c) start lives o begins lead)
