-- A run over watched writers, told of the writers themselves.
use Rattle.std.proofs.Common.{◌≡◌, ℕ, List, refl}
use Rattle.sqlite_trees.specs.declared.store.Store.{Ghosts}
use Rattle.sts_fields.specs.Text.{Text}
use Rattle.vend_commands.specs.port.Machines.{Machine}
use Rattle.vend_commands.specs.Run.{IsProgramRun}
use Rattle.vend_ports.specs.print.Sink.{Held, Sink, writer}
use Rattle.vend_ports.specs.print.Told.{outputs}
use Rattle.vend_ports.specs.declared.command_end.CommandEnd.{CommandEnd}

-- what a writer holds is what its watch knew of it
pub writer_left : (watched : Sink) (held : Held) (name : ℕ) → held ≡ watched.held → name ≡ watched.name → watched ≡ writer held watched.failed name
writer_left watched held name is same = rw (is, same) refl

-- a run told of other words for the same writers
pub run_of : {S D R W : Type 0} (store : Ghosts S) (m : Machine D R W) (words : List Text)
    (old new err_old err_new out_before out_after err_before err_after : Sink) (end : CommandEnd)
    → old ≡ out_before → new ≡ out_after → err_old ≡ err_before → err_new ≡ err_after
    → IsProgramRun store m words (outputs old new err_old err_new) end → IsProgramRun store m words (outputs out_before out_after err_before err_after) end
run_of store m words old new err_old err_new out_before out_after err_before err_after end p q r s run = rw (← p, ← q, ← r, ← s) run
