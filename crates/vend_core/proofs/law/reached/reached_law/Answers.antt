use Rattle.std.proofs.lemmas.List.Elements.{All-nil}
use Rattle.office_rules.proofs.DecisionLemmas.NewSaleLemmas.{LowerLaws}
use Rattle.office_rules.proofs.OfficeLemmas.{empty_is_office}
use Rattle.office_rules.specs.Office.{empty_office}
use Rattle.vend_core.specs.Law.Reached.{IsWrittenBy}
use Rattle.vend_core.proofs.LawLemmas.PlausibleLemmas.{AmountCodes}
use Rattle.vend_core.proofs.LawLemmas.ReachedLemmas.{after_plausible, empty_plausible, led_plausible, step_plausible}
use Rattle.vend_core.proofs.LawLemmas.WrittenLemmas.{after_writes, led_write, step_writes}
use Rattle.vend_core.proofs.law.reached.reached_law.Goals as goal

-- the laws that the body calls
lower : goal.After-token_law → LowerLaws
lower c = record { fresh = c.fresh_law.ensures.computed; purchase = c.purchase_law.ensures.computed; token = c.token_law.ensures.has_text }

codes : goal.After-token_law → AmountCodes
codes c t is = c.amount_law.ensures.sixteen_bits _ _ (c.amount_law.ensures.each_amount t is)

pub returns-clause-empty : goal.returns-clause-empty
returns-clause-empty c = empty_plausible (lower c) (codes c)

pub returns-clause-keeps : goal.returns-clause-keeps
returns-clause-keeps c = step_plausible (lower c) (codes c)

pub returns-clause-along : goal.returns-clause-along
returns-clause-along c = after_plausible (lower c) (codes c)

pub returns-clause-lives : goal.returns-clause-lives
returns-clause-lives c = λ lives o are. led_plausible (lower c) (codes c) empty_office lives o empty_is_office are (empty_plausible (lower c) (codes c))

pub returns-clause-lives_from : goal.returns-clause-lives_from
returns-clause-lives_from c = led_plausible (lower c) (codes c)

pub returns-clause-keeps_tokens : goal.returns-clause-keeps_tokens
returns-clause-keeps_tokens c = step_writes (lower c)

pub returns-clause-tokens_along : goal.returns-clause-tokens_along
returns-clause-tokens_along c = after_writes (lower c)

pub returns-clause-tokens_of_lives : goal.returns-clause-tokens_of_lives
returns-clause-tokens_of_lives c = λ forward lives o are one. led_write (lower c) forward empty_office lives o empty_is_office are one (All-nil (IsWrittenBy forward empty_office))

pub returns-clause-tokens_of_lives_from : goal.returns-clause-tokens_of_lives_from
returns-clause-tokens_of_lives_from c = led_write (lower c)
