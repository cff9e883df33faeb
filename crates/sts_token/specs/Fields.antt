-- The fields of a credit token.
use Rattle.std.specs.Prelude.{ℕ, ◌<◌, ◌^◌}
use Rattle.sts_fields.specs.Amount.{IsRepresentable}

-- a nibble that is handed in, the identifier, and the amount in tenths of a kWh
pub record TokenFields : Type 0 where
  pub rnd : ℕ
  pub tid : ℕ
  pub tenths : ℕ

-- what a token can carry
pub record AreFields (f : TokenFields) : Type 0 where
  pub rnd : f.rnd < 2 ^ 4
  pub tid : f.tid < 2 ^ 24
  pub tenths : IsRepresentable f.tenths
