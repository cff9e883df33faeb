-- The moment at which a command is done.
use Rattle.std.specs.Prelude.{◌≡◌, ⊤, ℕ, ℤ, pos, List, [], ◌∷◌, Option, Some, None}
use Rattle.sts_fields.specs.Moment.{IsMoment}
use Rattle.vend_ports.specs.port.Dial.{Dial}
use Rattle.vend_ports.specs.print.Printed.{clock_line}
use Rattle.vend_ports.specs.print.Told.{Outputs, IsTold}
use Rattle.vend_ports.specs.declared.command_end.CommandEnd.{CommandEnd}
use Rattle.vend_ports.specs.declared.command_end.CommandEnd.TheVariants.{Refused}

-- this is the next answer of a clock, where its answers are known
abbrev pub IsNextAnswer : Option (List ℤ) → ℤ → Type 0
IsNextAnswer None now = ⊤
IsNextAnswer (Some []) now = ⊥
IsNextAnswer (Some (first ∷ others)) now = now ≡ first

-- the clock was read, and gave this
abbrev pub Gave : Dial → ℤ → Type 0
Gave clock now = IsNextAnswer clock.answers now × clock.reads now

-- the moment that the clock gave, or none where that is no moment
abbrev pub IsToldBy : Dial → Option ℕ → Type 0
IsToldBy clock (Some moment) = Gave clock (pos moment)
IsToldBy clock None =
    (now : ℤ) × Gave clock now × ((moment : ℕ) → IsMoment moment → ¬ (now ≡ pos moment))

-- the moment that is given, or else the clock's
abbrev pub IsTakenMoment : Option ℕ → Dial → Option ℕ → Type 0
IsTakenMoment (Some given) clock moment = moment ≡ Some given
IsTakenMoment None clock moment = IsToldBy clock moment

-- what needs a moment is done at this one, or that there is none is told, and nothing was used
abbrev pub IsDoneAt : (Idle : Type 0) → (ℕ → Type 0) → Outputs → CommandEnd → Option ℕ → Type 0
IsDoneAt Idle At o end (Some moment) = At moment
IsDoneAt Idle At o end None = Idle × IsTold o [] clock_line Refused end

-- it is done at the moment that is given, or else at the clock's
abbrev pub IsTimed : (Idle : Type 0) → Option ℕ → Dial → (ℕ → Type 0) → Outputs → CommandEnd
    → Type 0
IsTimed Idle given clock At o end =
    (moment : Option ℕ) × IsTakenMoment given clock moment × IsDoneAt Idle At o end moment
