-- What a command leaves on its output and its error output.
use Rattle.std.specs.Prelude.{◌≡◌, ℕ, ◌<◌, Bool, true, false, ◌++◌, length, take}
use Rattle.std.specs.Io.KnownBytes.{Appends, Keeps}
use Rattle.sts_fields.specs.Text.{Text}
use Rattle.vend_ports.specs.declared.command_end.CommandEnd.{CommandEnd}
use Rattle.vend_ports.specs.print.Sink.{Held, Sink}

-- behind what the writer held stands a part of the text that lacks its end
abbrev pub IsCut : Held → Held → Text → Type 0
IsCut old new text = (n : ℕ) × (n < length text) × Appends old new (take n text)

-- the text stands whole behind what was held; or a write failed within it; or one had failed
-- before, and nothing more was written
abbrev pub IsTaken : (failed fails : Bool) → Held → Held → Text → Type 0
IsTaken false false old new text = Appends old new text
IsTaken false true old new text = IsCut old new text
IsTaken true true old new text = Keeps old new
IsTaken true false old new text = ⊥

-- a writer was given the text, and nothing else
pub record Takes (old new : Sink) (text : Text) : Type 0 where
  pub same : new.name ≡ old.name
  pub taken : IsTaken old.failed new.failed old.held new.held text

-- A piece came behind the part of a text that is not written yet. Of the two so much was given to
-- the writer, and that is left.
abbrev pub IsPutOn : (old new : Sink) → (unwritten left piece : Text) → Type 0
IsPutOn old new unwritten left piece =
    (written : Text) × Takes old new written × (unwritten ++ piece ≡ written ++ left)

-- the output and the error output before a command, and after it
pub record Outputs : Type 0 where
  pub old : Sink
  pub new : Sink
  pub err_old : Sink
  pub err_new : Sink

abbrev pub outputs : (old new err_old err_new : Sink) → Outputs
outputs old new err_old err_new =
    record { old = old; new = new; err_old = err_old; err_new = err_new }

-- the text goes to the output, the errors to the error output, nothing else to either, and the
-- command ends as it is meant to
abbrev pub IsTold : Outputs → (text errors : Text) → (meant end : CommandEnd) → Type 0
IsTold o text errors meant end =
    Takes o.old o.new text × Takes o.err_old o.err_new errors × (end ≡ meant)
