-- A request to the office in a file, and what is told of it.
use Rattle.std.specs.Prelude.{ℕ}
use Rattle.sqlite_trees.specs.declared.store.Store.{Ghosts}
use Rattle.sts_fields.specs.Text.{Text}
use Rattle.office_rules.specs.declared.decision.request.Request.{Request}
use Rattle.office_commands.specs.port.Places.{Places}
use Rattle.office_commands.specs.office.Served.{IsServedAndTold}
use Rattle.vend_ports.specs.print.Told.{Outputs}
use Rattle.office_commands.specs.office.Visited.{IsVisited}
use Rattle.command_line.specs.declared.transform.Shipped.{Shipped}
use Rattle.vend_ports.specs.declared.command_end.CommandEnd.{CommandEnd}

-- `base`, `shift`, `sell`, and `import` with the rows that it read: each asks one request of the
-- office in a file
abbrev pub IsAskedAt : {S : Type 0} → Ghosts S → Places → Shipped → (file : Text)
    → (wait moment : ℕ) → Request → Outputs → CommandEnd → Type 0
IsAskedAt store at transform file wait moment request o end =
    IsVisited store (at file wait) transform
    (λ old new. IsServedAndTold moment request old new o end) o end
