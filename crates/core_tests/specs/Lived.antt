-- An office that a life led to, and one in which a single sale stands.
use Rattle.std.specs.Prelude.{◌≡◌, ℕ, List, [], ◌∷◌, Some, Contains}
use Rattle.sts_fields.specs.Text.{Text}
use Rattle.sts_fields.specs.declared.base.Base.{Base}
use Rattle.sts_token.specs.Token.{BlockFunction}
use Rattle.office_rules.specs.Office.{IsOffice, Office, empty_office}
use Rattle.vend_core.specs.Law.Life.{HandsOut, Life}
use Rattle.vend_core.specs.Law.LifeLaws.{IsRunning}
use Rattle.office_rules.specs.declared.office.meter.Meter.{Meter}
use Rattle.office_rules.specs.declared.office.sale.Sale.{Sale}

-- a life under a transform led from one office to the other, and goes on
pub record IsLived (start : Office) (forward : BlockFunction) (o : Office) : Type 0 where
  pub life : Life
  pub running : IsRunning life o
  pub opening : life.opening ≡ start
  pub forward_is : life.forward ≡ forward

-- and it handed out these sales
pub record HasHanded (start : Office) (forward : BlockFunction) (o : Office) (sales : List Sale) :
    Type 0 where
  pub lived : IsLived start forward o
  pub hands : (s : Sale) → Contains sales s → HandsOut lived.life s

-- the office has a meter of the number, which has the key
pub record HasKey (o : Office) (number : Text) (key : ℕ) : Type 0 where
  pub meter : Meter
  pub meter_is : o.meters number ≡ Some meter
  pub key_is : meter.key ≡ key

-- a life from the empty office on made one sale, to the meter of this number and key, under its
-- base
pub record HasSold (forward : BlockFunction) (number : Text) (key : ℕ) (base : Base) (o : Office)
    (s : Sale) : Type 0 where
  pub begins : IsOffice empty_office
  pub lived : IsLived empty_office forward o
  pub office : IsOffice o
  pub has_key : HasKey o number key
  pub sales : o.sales ≡ s ∷ []
  pub to_meter : s.meter ≡ number
  pub under : s.base ≡ base
