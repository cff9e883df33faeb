use Rattle.std.proofs.Common.{◌≤◌, ◌<◌, ◌+◌, ℕ}
use Rattle.book_tables.specs.Holds.{HasOfficeOf}
use Rattle.book_tables.specs.row.Rows.{present_format}
use Rattle.book_tables.proofs.format.presence.format_here.Given as goal

-- the database has the tables of none of the formats that were tried
abbrev pub invariant-formats : goal.invariant-formats
invariant-formats l = record { none : (n : ℕ) → n ≤ present_format → present_format < n + l.back → ¬ HasOfficeOf n l.fn.schema }
