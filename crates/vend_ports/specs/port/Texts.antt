-- Files that are read whole.
use Rattle.std.specs.Prelude.{ℕ, List}
use Rattle.std.specs.declared.io.ErrorKind.{ErrorKind}
use Rattle.std.specs.declared.io.ErrorKind.TheVariants.{OutOfMemory}
use Rattle.sts_fields.specs.Text.{Text}
use Rattle.vend_ports.specs.declared.port.file_fault.FileFault.{FileFault}
use Rattle.vend_ports.specs.declared.port.file_fault.FileFault.TheVariants.{Memory, Unreadable}
use Rattle.vend_ports.specs.declared.port.text_files.TextFiles as files

-- why a file is not read, by the kind of the error that was met
abbrev pub file_fault_of : ErrorKind → FileFault
file_fault_of OutOfMemory = Memory
file_fault_of _ = Unreadable

-- What is told of them: which bytes the one that was read has, why it is not read, and that none
-- was.
pub record Texts : Type 1 where
  pub reads : Text → List ℕ → Type 0
  pub lacks : Text → FileFault → Type 0
  pub leaves : Type 0

abbrev pub texts_of : {F : Type 0} → files.Ghosts F → F → Texts
texts_of {F} of files = record {
  reads = of.reads files;
  lacks = of.lacks files;
  leaves = of.leaves F files;
}
