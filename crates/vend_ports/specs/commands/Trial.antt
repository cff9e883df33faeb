-- A trial: amounts sold one after another to one meter, from an empty list of sales.
use Rattle.std.specs.Prelude.{◌≡◌, ℕ, ◌+◌, ◌%◌, ◌<◌, ◌≤◌, List, [], length, slice_index}
use Rattle.std.specs.Prelude.{slice_index_or, take, Option, Some, None, Result, Ok, Err}
use Rattle.std.specs.Prelude.{MatchResult}
use Rattle.sts_fields.specs.Amount.{IsRepresentable}
use Rattle.sts_fields.specs.Tid.{FreshOutcome, minute_of}
use Rattle.sts_fields.specs.declared.base.Base.{Base}
use Rattle.sts_fields.specs.declared.fault.TidFault.{TidFault}
use Rattle.sts_token.specs.Token.{IsToken, BlockFunction}
use Rattle.vend_ports.specs.declared.trials.TrialFault.{TrialFault}
use Rattle.vend_ports.specs.declared.trials.TrialFault.TheVariants.{Amount, Tid, Memory}

-- an amount that is sold: a representable one, and not 0
abbrev pub IsSellable : ℕ → Type 0
IsSellable tenths = IsRepresentable tenths × (1 ≤ tenths)

-- what a sale at a moment gets for its identifier, where those in used were sold before
abbrev pub TidOutcome : Base → ℕ → List ℕ → Result ℕ TidFault → Type 0
TidOutcome base moment used outcome =
    MatchResult (minute_of base moment) (λ now. FreshOutcome used now outcome)
    (λ fault. outcome ≡ Err fault)

-- sale number n, from 1: its amount, the fresh identifier after those before, and the token of both
pub record IsSale (forward : BlockFunction) (key : ℕ) (base : Base) (moment : ℕ) (used : List ℕ)
    (n tenths tid : ℕ) (token : List ℕ) : Type 0 where
  pub sellable : IsSellable tenths
  pub fresh : TidOutcome base moment used (Ok tid)
  pub written : IsToken forward key (record { rnd = n % 16; tid = tid; tenths = tenths }) token

-- why the next amount is not sold: the amount is tested first, then the identifier
abbrev pub IsRefusedBy : Base → ℕ → List ℕ → ℕ → TrialFault → Type 0
IsRefusedBy base moment used tenths Amount = ¬ IsSellable tenths
IsRefusedBy base moment used tenths (Tid fault) =
    IsSellable tenths × TidOutcome base moment used (Err fault)
IsRefusedBy base moment used tenths Memory = ⊥

-- why it ends after the sales with these identifiers: all are sold, the next is refused, or there
-- was no room for any
abbrev pub EndsTrialBy : Base → ℕ → List ℕ → List ℕ → Option TrialFault → Type 0
EndsTrialBy base moment amounts tids None = length tids ≡ length amounts
EndsTrialBy base moment amounts tids (Some Memory) = tids ≡ []
EndsTrialBy base moment amounts tids (Some fault) =
    (length tids < length amounts) × IsRefusedBy base moment tids
    (slice_index amounts (length tids)) fault

-- the tokens are those of the first amounts, in order, each with the identifier that is fresh after
-- those before
pub record IsTrial (forward : BlockFunction) (key : ℕ) (base : Base) (moment : ℕ)
    (amounts tids : List ℕ) (tokens : List (List ℕ)) (fault : Option TrialFault) : Type 0 where
  pub one_each : length tokens ≡ length tids
  pub within : length tids ≤ length amounts
  pub sold : (i : ℕ) → i < length tids
      → IsSale forward key base moment (take i tids) (i + 1) (slice_index amounts i)
      (slice_index tids i) (slice_index_or tokens i [])
  pub ends : EndsTrialBy base moment amounts tids fault
