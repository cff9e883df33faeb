-- Token identifiers: the minutes from a base date, and the one that a sale takes.
use Rattle.std.specs.Prelude.{◌≡◌, ℕ, ◌+◌, ◌-◌, ◌/◌, ◌%◌, ◌<◌, ◌≤◌, ◌==◌, max, List, [], Option}
use Rattle.std.specs.Prelude.{Some, None, Result, Ok, Err, if◌then◌else◌, nat_lt, All, Contains}
use Rattle.sts_fields.specs.Base.{base_date}
use Rattle.sts_fields.specs.Moment.{UnixSeconds}
use Rattle.sts_fields.specs.declared.base.Base.{Base}
use Rattle.sts_fields.specs.declared.fault.TidFault.{TidFault}
use Rattle.sts_fields.specs.declared.fault.TidFault.TheVariants.{BeforeBase, PastEnd}
use Rattle.sts_fields.specs.declared.fault.TidFault.TheVariants.{IdentifiersSpent, IdentifierAhead}

-- the greatest identifier, of 24 bits
abbrev pub last_tid : ℕ
last_tid = 16777215

-- how far an identifier may lie ahead of the present minute: a day
abbrev pub greatest_lead : ℕ
greatest_lead = 1440

-- the whole minutes from a base date to a moment that is not before it
abbrev pub minutes_since : Base → UnixSeconds → ℕ
minutes_since base moment = (moment - base_date base) / 60

-- the present minute under a base date, where the moment lies in its range
abbrev pub minute_of : Base → UnixSeconds → Result ℕ TidFault
minute_of base moment =
    if nat_lt moment (base_date base) then Err BeforeBase
    else (if nat_lt last_tid (minutes_since base moment) then Err PastEnd
    else Ok (minutes_since base moment))

-- the second minute of each day is kept for special tokens
abbrev pub IsReserved : ℕ → Type 0
IsReserved t = t % 1440 ≡ 1

-- t may be sold in the minute now to a meter that was sold the identifiers in used
pub record MaySell (used : List ℕ) (now t : ℕ) : Type 0 where
  pub not_past : now ≤ t
  pub from_two : 2 ≤ t
  pub not_reserved : ¬ IsReserved t
  pub above_used : All (λ u. u < t) used
  pub within : t ≤ last_tid

-- t is the fresh identifier: the least that may be sold
pub record IsFresh (used : List ℕ) (now t : ℕ) : Type 0 where
  pub may_sell : MaySell used now t
  pub least : (s : ℕ) → MaySell used now s → t ≤ s

-- what a sale in the minute now gets
abbrev pub FreshOutcome : List ℕ → ℕ → Result ℕ TidFault → Type 0
FreshOutcome used now (Ok t) = IsFresh used now t × (t ≤ now + greatest_lead)
FreshOutcome used now (Err IdentifiersSpent) = (t : ℕ) → ¬ MaySell used now t
FreshOutcome used now (Err IdentifierAhead) =
    (t : ℕ) × IsFresh used now t × (now + greatest_lead < t)
FreshOutcome used now (Err BeforeBase) = ⊥
FreshOutcome used now (Err PastEnd) = ⊥

-- last is the greatest identifier in used, or none where nothing was sold
abbrev pub IsLast : List ℕ → Option ℕ → Type 0
IsLast used None = used ≡ []
IsLast used (Some last) = Contains used last × All (λ u. u ≤ last) used

-- the least identifier above the last one that a sale in the minute now may take
abbrev pub above : ℕ → Option ℕ → ℕ
above now None = max now 2
above now (Some last) = max (max now 2) (last + 1)

-- the minute itself, or the next one where it is reserved
abbrev pub unreserved : ℕ → ℕ
unreserved t = if t % 1440 == 1 then t + 1 else t

-- the fresh identifier where last is the greatest one sold: `FreshOutcome` says what it is
abbrev pub fresh_after : ℕ → Option ℕ → Result ℕ TidFault
fresh_after now last =
    let t = unreserved (above now last) in
    if nat_lt last_tid t then Err IdentifiersSpent
    else (if nat_lt (now + greatest_lead) t then Err IdentifierAhead
    else Ok t)
