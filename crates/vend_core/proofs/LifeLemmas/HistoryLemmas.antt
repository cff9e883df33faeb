-- The laws over lives: handed sales that agree are one, and a reprint is the first token.
use Rattle.std.proofs.Common.{◌≡◌, List, [], ap}
use Rattle.vend_core.specs.Law.Life.{Answered, IsHanded, LeadTo, Life}
use Rattle.office_rules.specs.Office.{IsOffice, Office}
use Rattle.office_rules.specs.declared.decision.answer.Answer.TheVariants as answers
use Rattle.office_rules.specs.declared.office.sale.Sale.{Sale}
use Rattle.vend_core.proofs.LifeLemmas.{answered_handed, led_office, led_stands}
use Rattle.office_rules.proofs.DecisionLemmas.NewSaleLemmas.{LowerLaws}
use Rattle.office_rules.proofs.OfficeLemmas.RowLemmas.{contains_first, one_of_number, one_of_ref, one_of_tid}

module _ (laws : LowerLaws) (start : Office) (lives : List Life) (o : Office) where
  -- handed sales of one meter, base and identifier are one
  pub one_handed_tid : (a b : Sale) → IsOffice start → LeadTo start lives o → IsHanded lives a → IsHanded lives b → a.meter ≡ b.meter → a.base ≡ b.base → a.tid ≡ b.tid → a ≡ b
  one_handed_tid a b begins lead x y = one_of_tid o a b (led_office laws start lives o begins lead) (led_stands laws start lives o a begins lead x) (led_stands laws start lives o b begins lead y)

  -- handed sales of one number are one
  pub one_handed_number : (a b : Sale) → IsOffice start → LeadTo start lives o → IsHanded lives a → IsHanded lives b → a.number ≡ b.number → a ≡ b
  one_handed_number a b begins lead x y = one_of_number o a b (led_office laws start lives o begins lead) (led_stands laws start lives o a begins lead x) (led_stands laws start lives o b begins lead y)

  -- handed sales under one ref of an operator are one
  pub one_handed_ref : (a b : Sale) → IsOffice start → LeadTo start lives o → IsHanded lives a → IsHanded lives b → a.operator ≡ b.operator → a.order_ref ≡ b.order_ref → a ≡ b
  one_handed_ref a b begins lead x y = one_of_ref o a b (led_office laws start lives o begins lead) (led_stands laws start lives o a begins lead x) (led_stands laws start lives o b begins lead y)

  -- a reprint of a sale has the digits that were first answered
  pub same_digits : (first again : Sale) → IsOffice start → LeadTo start lives o → Answered lives (answers.Sold first)
      → Answered lives (answers.Reprinted again) → again.number ≡ first.number → again.digits ≡ first.digits
  same_digits first again begins lead sold reprinted number =
      ap (λ (s : Sale). s.digits) (one_handed_number again first begins lead
      (answered_handed lives (answers.Reprinted again) again reprinted (contains_first again []))
      (answered_handed lives (answers.Sold first) first sold (contains_first first [])) number)
