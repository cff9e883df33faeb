-- Why a reader gives nothing.
use Rattle.std.specs.Prelude.{◌≡◌, ◌⊎◌}
use Rattle.sqlite.specs.declared.error.ErrorCode.TheVariants.{OutOfMemory}
use Rattle.sqlite.specs.declared.error.Error.TheVariants.{SqliteFailure}
use Rattle.one_table.specs.declared.read_fault.ReadFault.{ReadFault}
use Rattle.one_table.specs.declared.read_fault.ReadFault.TheVariants.{Database, Row}

abbrev pub no_memory : ReadFault
no_memory = Database (SqliteFailure OutOfMemory)

-- a row is refused only for this reason, and nothing else stops the reading of a row but a want of
-- memory
abbrev pub OnlyWhere : Type 0 → ReadFault → Type 0
OnlyWhere Reason fault = (fault ≡ no_memory) ⊎ ((fault ≡ Row) × Reason)
