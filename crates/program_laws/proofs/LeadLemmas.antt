-- What lives keep that lead on from any office.
use Rattle.std.specs.Prelude.{◌≡◌, List, Contains}
use Rattle.vend_core.specs.Law.Life.{IsHanded, LeadTo, Life}
use Rattle.office_rules.specs.Office.{IsOffice, Office}
use Rattle.office_rules.specs.declared.office.sale.Sale.{Sale}

-- what the law of such lives says of the office that they lead to
pub record LeadingLaws : Type 0 where
  pub offices : (start : Office) (lives : List Life) (o : Office) → IsOffice start → LeadTo start lives o → IsOffice o
  pub stands : (start : Office) (lives : List Life) (o : Office) (s : Sale) → IsOffice start → LeadTo start lives o → IsHanded lives s → Contains o.sales s
  pub one_ref : (start : Office) (lives : List Life) (o : Office) (a b : Sale) → IsOffice start → LeadTo start lives o → IsHanded lives a → IsHanded lives b
      → a.operator ≡ b.operator → a.order_ref ≡ b.order_ref → a ≡ b
