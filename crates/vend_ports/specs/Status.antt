-- The exit status.
use Rattle.std.specs.Prelude.{ℕ, Bool, true, false}
use Rattle.vend_ports.specs.declared.command_end.CommandEnd.{CommandEnd}
use Rattle.vend_ports.specs.declared.command_end.CommandEnd.TheVariants.{Done, Refused, BadWords}

-- done; refused or failed; words that are none of a command's
abbrev pub exit_status_of : CommandEnd → ℕ
exit_status_of Done = 0
exit_status_of Refused = 1
exit_status_of BadWords = 2

-- the same, but for an output that failed
abbrev pub status_of : CommandEnd → (failed : Bool) → ℕ
status_of end false = exit_status_of end
status_of end true = 1
