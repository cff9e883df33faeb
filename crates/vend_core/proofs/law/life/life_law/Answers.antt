use Rattle.vend_core.proofs.LifeLemmas.ExtendLemmas.{doubted_leaves, fails_at, opens_running, read_leaves, running_leaves, runs_on, runs_on_without_memory, stopped_is_life, stopped_stays}
use Rattle.vend_core.proofs.LifeLemmas.ExtendManyLemmas.{along_none, along_one, handed_is, hands_out_present, hands_out_reply, hands_out_still, left_is, runs_along}
use Rattle.office_rules.proofs.DecisionLemmas.NewSaleLemmas.{LowerLaws}
use Rattle.vend_core.proofs.law.life.life_law.Goals as goal

-- the laws that the body calls
lower : goal.After-token_law → LowerLaws
lower c = record { fresh = c.fresh_law.ensures.computed; purchase = c.purchase_law.ensures.computed; token = c.token_law.ensures.has_text }

pub returns-clause-opens : goal.returns-clause-opens
returns-clause-opens c = opens_running

pub returns-clause-running : goal.returns-clause-running
returns-clause-running c = running_leaves

pub returns-clause-served : goal.returns-clause-served
returns-clause-served c = runs_on

pub returns-clause-no_memory : goal.returns-clause-no_memory
returns-clause-no_memory c = runs_on_without_memory

pub returns-clause-failed : goal.returns-clause-failed
returns-clause-failed c = fails_at

pub returns-clause-doubted : goal.returns-clause-doubted
returns-clause-doubted c = λ life o p at is stamped. doubted_leaves life o at is stamped p

pub returns-clause-read : goal.returns-clause-read
returns-clause-read c = λ life o p at is stamped. read_leaves life o at is stamped p

pub returns-clause-stopped : goal.returns-clause-stopped
returns-clause-stopped c = stopped_is_life

pub returns-clause-stays : goal.returns-clause-stays
returns-clause-stays c = stopped_stays

pub returns-clause-along_none : goal.returns-clause-along_none
returns-clause-along_none c = along_none

pub returns-clause-along_one : goal.returns-clause-along_one
returns-clause-along_one c = along_one

pub returns-clause-served_along : goal.returns-clause-served_along
returns-clause-served_along c = runs_along

pub returns-clause-replied : goal.returns-clause-replied
returns-clause-replied c = hands_out_reply

pub returns-clause-listed : goal.returns-clause-listed
returns-clause-listed c = hands_out_present

pub returns-clause-for_good : goal.returns-clause-for_good
returns-clause-for_good c = hands_out_still

pub returns-clause-left : goal.returns-clause-left
returns-clause-left c = left_is (lower c)

pub returns-clause-handed : goal.returns-clause-handed
returns-clause-handed c = handed_is (lower c)
