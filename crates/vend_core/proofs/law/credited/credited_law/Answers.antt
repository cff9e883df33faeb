use Rattle.office_rules.proofs.DecisionLemmas.NewSaleLemmas.{LowerLaws}
use Rattle.vend_core.proofs.LawLemmas.MeterLemmas.{MeterLaws, accepted_is, bound_above, credit_is, credit_within, first_entry_is, in_order_is}
use Rattle.vend_core.proofs.LawLemmas.WrittenLemmas.{made_for_are_sold}
use Rattle.vend_core.specs.Law.SoldTokens.{reads_by}
use Rattle.vend_core.proofs.law.credited.credited_law.Goals as goal

-- the laws that the body calls
lower : goal.After-meter_law → LowerLaws
lower c = record { fresh = c.fresh_law.ensures.computed; purchase = c.purchase_law.ensures.computed; token = c.token_law.ensures.has_text }

meter : goal.After-meter_law → MeterLaws
meter c =
    let m = c.meter_law.ensures in
    record {
      one_text = c.token_law.ensures.one_text;
      taken = m.taken;
      first_entry = m.first_entry;
      in_order = m.in_order;
      credit = m.credit;
      at_most_sold = m.at_most_sold;
      below_bound = m.below_bound;
    }

pub returns-clause-written : goal.returns-clause-written
returns-clause-written c = λ start lives o m sales are. (made_for_are_sold (lower c) start lives o m sales are).tokens

pub returns-clause-at_most_once : goal.returns-clause-at_most_once
returns-clause-at_most_once c = λ m before between s first again. c.meter_law.ensures.token_once (reads_by m) before between s.digits first again

pub returns-clause-first_entry : goal.returns-clause-first_entry
returns-clause-first_entry c = λ start lives o m sales came s are from. first_entry_is (lower c) (meter c) o m sales (made_for_are_sold (lower c) start lives o m sales are) came from s

pub returns-clause-in_order : goal.returns-clause-in_order
returns-clause-in_order c = λ start lives o m earlier later s are. in_order_is (lower c) (meter c) o m earlier later s (made_for_are_sold (lower c) start lives o m _ are)

pub returns-clause-credit : goal.returns-clause-credit
returns-clause-credit c = λ start lives o m sales came are from. credit_is (lower c) (meter c) o m sales (made_for_are_sold (lower c) start lives o m sales are) came from

pub returns-clause-accepted : goal.returns-clause-accepted
returns-clause-accepted c = λ start lives o m sales came s are from. accepted_is (lower c) (meter c) o m sales (made_for_are_sold (lower c) start lives o m sales are) came from s

pub returns-clause-at_most_sold : goal.returns-clause-at_most_sold
returns-clause-at_most_sold c = λ start lives o m sales came are from. credit_within (lower c) (meter c) o m sales (made_for_are_sold (lower c) start lives o m sales are) came from

pub returns-clause-below_bound : goal.returns-clause-below_bound
returns-clause-below_bound c = λ start lives o m sales are. bound_above (lower c) (meter c) o m sales (made_for_are_sold (lower c) start lives o m sales are)
