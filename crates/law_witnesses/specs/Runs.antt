-- Runs of the program on files in memory.
use Rattle.std.specs.Prelude.{◌≡◌, ℕ, false, List, [], ◌∷◌, Option, Some}
use Rattle.sqlite_disk.specs.declared.Disk as disk
use Rattle.sqlite_disk.specs.declared.Files.{Files}
use Rattle.command_line.specs.Transform.{forward_of}
use Rattle.command_line.specs.declared.transform.Shipped.TheVariants.{Plain}
use Rattle.sts_fields.specs.Text.{Text}
use Rattle.office_rules.specs.Office.{empty_office}
use Rattle.office_rules.specs.declared.decision.request.Order.{Order}
use Rattle.office_rules.specs.declared.office.sale.Sale.{Sale}
use Rattle.program_laws.specs.runs.Files.{AreFoundSo}
use Rattle.program_laws.specs.runs.Here.{Here, ProgramRun}
use Rattle.program_laws.specs.runs.Steps.{AreSoldFor, IsOf}
use Rattle.vend_core.specs.Law.Life.{LeadTo, Life, present}
use Rattle.vend_ports.specs.declared.command_end.CommandEnd.{CommandEnd}

-- A life sold this for an order, from the empty office on, with the plain transform, and these
-- files hold what it left: so do they after a crash.
pub record HasLeft {M : Type 0} (g : disk.Ghosts M) (order : Order) (s : Sale) (files : Files M)
    : Type 0 where
  pub life : Life
  pub plain : life.forward ≡ forward_of Plain
  pub lead : LeadTo empty_office (life ∷ []) (present life)
  pub sold : AreSoldFor (life ∷ []) order s
  pub found : AreFoundSo g files (IsOf empty_office (life ∷ []))

-- A run with these ports and these words ended so, gave this back, and printed this text: no write
-- of it failed.
pub record IsRunOf {P D R W : Type 0} (here : Here P D R W) (ports : P) (words : List Text)
    (end : CommandEnd) (back : Option (here.M × here.M)) (printed : List ℕ) : Type 0 where
  pub run : ProgramRun here
  pub with_ports : run.ports ≡ ports
  pub by_words : run.words ≡ words
  pub ended : run.end ≡ end
  pub gave : run.back ≡ back
  pub before : run.o.old.held ≡ Some []
  pub sound : run.o.old.failed ≡ false
  pub after : run.o.new.held ≡ Some printed
  pub whole : run.o.new.failed ≡ false

-- a crash has left a file so, and leaves no more of it than it could before
pub record IsLeftOf {M : Type 0} (g : disk.Ghosts M) (old new : M) : Type 0 where
  pub left : g.may_leave old (g.seen new)
  pub no_more : (c : List ℕ) → g.may_leave new c → g.may_leave old c
