use Rattle.std.proofs.Common.{arith, refl}
use Rattle.office_rules.specs.Office.Lookup.{used}
use Rattle.office_rules.specs.declared.decision.refusal.Refusal.TheVariants.{Memory, Store, Stopped}
use Rattle.vend_core.proofs.LawLemmas.AgainLemmas.{imported_again}
use Rattle.vend_core.proofs.LawLemmas.LeaveLemmas.{step_stays}
use Rattle.vend_core.proofs.LawLemmas.AnswerLemmas.{answered_stand, sells_one}
use Rattle.vend_core.proofs.LawLemmas.BaseLemmas.{moves, moves_not_back, moves_not_before, moves_once, present_is_greatest, sales_have_bases}
use Rattle.vend_core.proofs.LawLemmas.CashLemmas.{cash_adds_up}
use Rattle.vend_core.proofs.LawLemmas.DatedLemmas.{adds_no_passed_steps, adds_steps, adds_steps_once, after_same, passed_steps_stay, steps_on_are}
use Rattle.vend_core.proofs.LawLemmas.FoldLemmas.{after_grows, after_keeps_office}
use Rattle.vend_core.proofs.LawLemmas.{new_sale_is, reports_the_shift, reprints_the_sale, sold_again}
use Rattle.office_rules.proofs.OfficeLemmas.RowLemmas.{one_of_tid}
use Rattle.office_rules.proofs.DecisionLemmas.NewSaleLemmas.{LowerLaws, greatest_is_last}
use Rattle.office_rules.proofs.OfficeLemmas.{step_keeps_office}
use Rattle.vend_core.proofs.LawLemmas.PriceLemmas.{keeps_price}
use Rattle.vend_core.proofs.LawLemmas.RefusalLemmas.{never_answers}
use Rattle.vend_core.proofs.LawLemmas.RiseLemmas.{after_rises, after_sells_some}
use Rattle.vend_core.proofs.LawLemmas.TakeBackLemmas.{sets_key, sets_key_once, sets_no_key, withdraws, withdraws_none, withdraws_not}
use Rattle.vend_core.proofs.law.office.office_law.Goals as goal

-- the laws that the body calls
lower : goal.After-token_law → LowerLaws
lower c = record { fresh = c.fresh_law.ensures.computed; purchase = c.purchase_law.ensures.computed; token = c.token_law.ensures.has_text }

pub returns-clause-keeps_office : goal.returns-clause-keeps_office
returns-clause-keeps_office c = step_keeps_office (lower c)

pub returns-clause-keeps_along : goal.returns-clause-keeps_along
returns-clause-keeps_along c = after_keeps_office (lower c)

pub returns-clause-new_sale : goal.returns-clause-new_sale
returns-clause-new_sale c = new_sale_is (lower c)

pub returns-clause-at_most_one : goal.returns-clause-at_most_one
returns-clause-at_most_one c = sells_one (lower c)

pub returns-clause-again : goal.returns-clause-again
returns-clause-again c = sold_again

pub returns-clause-reprinted : goal.returns-clause-reprinted
returns-clause-reprinted c = reprints_the_sale

pub returns-clause-reported : goal.returns-clause-reported
returns-clause-reported c = reports_the_shift

pub returns-clause-answers_stand : goal.returns-clause-answers_stand
returns-clause-answers_stand c = answered_stand

pub returns-clause-grows : goal.returns-clause-grows
returns-clause-grows c = after_grows (lower c)

pub returns-clause-rising : goal.returns-clause-rising
returns-clause-rising c = after_rises (lower c)

pub returns-clause-never_again : goal.returns-clause-never_again
returns-clause-never_again c = one_of_tid

pub returns-clause-cash : goal.returns-clause-cash
returns-clause-cash c = cash_adds_up

pub returns-clause-last : goal.returns-clause-last
returns-clause-last c = greatest_is_last

pub returns-clause-fresh : goal.returns-clause-fresh
returns-clause-fresh c = λ o meter base now. c.fresh_law.ensures.computed (used o meter base) now _ (greatest_is_last (used o meter base))

pub returns-clause-rules_alone : goal.returns-clause-rules_alone
returns-clause-rules_alone c = λ forward o at. (
  never_answers forward o at Memory refl,
  never_answers forward o at Store refl,
  never_answers forward o at Stopped refl,
)

pub returns-clause-some_tenths : goal.returns-clause-some_tenths
returns-clause-some_tenths c = after_sells_some (lower c)

pub returns-clause-stays : goal.returns-clause-stays
returns-clause-stays c = step_stays

pub returns-clause-imported_again : goal.returns-clause-imported_again
returns-clause-imported_again c = imported_again

pub returns-clause-own_base : goal.returns-clause-own_base
returns-clause-own_base c = sales_have_bases

pub returns-clause-present_base : goal.returns-clause-present_base
returns-clause-present_base c = present_is_greatest

pub returns-clause-moved : goal.returns-clause-moved
returns-clause-moved c = moves

pub returns-clause-moved_once : goal.returns-clause-moved_once
returns-clause-moved_once c = moves_once

pub returns-clause-not_moved_back : goal.returns-clause-not_moved_back
returns-clause-not_moved_back c = moves_not_back

pub returns-clause-not_moved_yet : goal.returns-clause-not_moved_yet
returns-clause-not_moved_yet c = moves_not_before

pub returns-clause-steps_of_day : goal.returns-clause-steps_of_day
returns-clause-steps_of_day c = steps_on_are

pub returns-clause-passed_steps : goal.returns-clause-passed_steps
returns-clause-passed_steps c = passed_steps_stay (lower c)

pub returns-clause-keeps_price : goal.returns-clause-keeps_price
returns-clause-keeps_price c = λ forward o at order s later office range. keeps_price (lower c) forward o range office at order s later

pub returns-clause-steps_added : goal.returns-clause-steps_added
returns-clause-steps_added c = adds_steps

pub returns-clause-steps_added_once : goal.returns-clause-steps_added_once
returns-clause-steps_added_once c = adds_steps_once

pub returns-clause-day_past : goal.returns-clause-day_past
returns-clause-day_past c = adds_no_passed_steps

pub returns-clause-withdrawn : goal.returns-clause-withdrawn
returns-clause-withdrawn c = λ forward o at name day steps some asks. withdraws forward o at name day some asks steps

pub returns-clause-withdrawn_once : goal.returns-clause-withdrawn_once
returns-clause-withdrawn_once c = withdraws_none

pub returns-clause-not_withdrawn : goal.returns-clause-not_withdrawn
returns-clause-not_withdrawn c = λ forward o at name day steps some asks. withdraws_not forward o at name day some asks steps

pub returns-clause-begun_steps : goal.returns-clause-begun_steps
returns-clause-begun_steps c = λ forward o ats name day past. after_same day forward o ats past name day (omega arith)

pub returns-clause-key_set : goal.returns-clause-key_set
returns-clause-key_set c = sets_key

pub returns-clause-key_set_once : goal.returns-clause-key_set_once
returns-clause-key_set_once c = sets_key_once

pub returns-clause-no_key_set : goal.returns-clause-no_key_set
returns-clause-no_key_set c = sets_no_key
