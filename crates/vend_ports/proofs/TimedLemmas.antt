-- A command that is done at a moment, given or taken from the clock.
use Rattle.std.proofs.Common.{◌≡◌, ℕ, [], Option, Some, None, subst}
use Rattle.vend_ports.specs.port.Dial.{Dial}
use Rattle.vend_ports.specs.print.Printed.{clock_line}
use Rattle.vend_ports.specs.commands.Timed.{IsTakenMoment, IsTimed}
use Rattle.vend_ports.specs.print.Told.{IsTold, Outputs}
use Rattle.vend_ports.specs.declared.command_end.CommandEnd.{CommandEnd}
use Rattle.vend_ports.specs.declared.command_end.CommandEnd.TheVariants.{Refused}

-- it was done at the moment that was taken
pub timed : (Idle : Type 0) (given : Option ℕ) (clock : Dial) (taken : Option ℕ) (moment : ℕ) (At : ℕ → Type 0) (o : Outputs)
    (end : CommandEnd) → IsTakenMoment given clock taken → taken ≡ Some moment → At moment → IsTimed Idle given clock At o end
timed Idle given clock taken moment At o end for is done = (Some moment, subst (IsTakenMoment given clock) is for, done)

-- where there was none, that is told, and nothing was used
pub untimed : (Idle : Type 0) (given : Option ℕ) (clock : Dial) (taken : Option ℕ) (At : ℕ → Type 0) (o : Outputs) (end : CommandEnd)
    → IsTakenMoment given clock taken → taken ≡ None → Idle → IsTold o [] clock_line Refused end → IsTimed Idle given clock At o end
untimed Idle given clock taken At o end for is idle told = (None, subst (IsTakenMoment given clock) is for, (idle, told))
