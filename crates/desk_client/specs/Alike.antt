-- When two things that replies tell are the same.
use Rattle.std.specs.Prelude.{◌≡◌, ⊤}
use Rattle.desk_client.specs.declared.told.Granted.{Granted}
use Rattle.desk_client.specs.declared.told.Granted.TheVariants as granted
use Rattle.desk_client.specs.declared.told.Told.{Told}
use Rattle.desk_client.specs.declared.told.Told.TheVariants as told

-- the same is granted, value for value; papers and pages are the same where their texts are
abbrev pub GrantAlike : Granted → Granted → Type 0
GrantAlike granted.Done granted.Done = ⊤
GrantAlike (granted.Imported count) (granted.Imported other) = count ≡ other
GrantAlike (granted.Withdrawn count) (granted.Withdrawn other) = count ≡ other
GrantAlike (granted.Shift number) (granted.Shift other) = number ≡ other
GrantAlike (granted.Sale sale) (granted.Sale other) = sale ≡ other
GrantAlike (granted.Meter meter) (granted.Meter other) = meter ≡ other
GrantAlike (granted.Quote quote) (granted.Quote other) = quote ≡ other
GrantAlike (granted.Totals number totals) (granted.Totals other others) =
    (number ≡ other) × (totals ≡ others)
GrantAlike (granted.Paper text) (granted.Paper other) = text.now ≡ other.now
GrantAlike (granted.Page text) (granted.Page other) = text.now ≡ other.now
GrantAlike one other = ⊥

-- the same is told: the same is granted, or refused for the same reason, or there is no moment
abbrev pub TellAlike : Told → Told → Type 0
TellAlike (told.Granted granted) (told.Granted other) = GrantAlike granted other
TellAlike (told.Refused refusal) (told.Refused other) = refusal ≡ other
TellAlike told.NoMoment told.NoMoment = ⊤
TellAlike one other = ⊥
