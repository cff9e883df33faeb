-- What shows that a file is no office's.
use Rattle.std.specs.Prelude.{◌⊎◌, ◌≤◌, ◌<◌, ℕ, Some, None, IsTrue}
use Rattle.sqlite.specs.Effect.{Database}
use Rattle.sqlite.specs.State.{State}
use Rattle.office_rules.specs.Office.{Office}
use Rattle.book_tables.specs.Holds.{HasOffice, HasOfficeOf}
use Rattle.book_tables.specs.format.Format.{HasFormat}
use Rattle.book_tables.specs.reading.Questions.{the_last_sale, the_sale}
use Rattle.book_tables.specs.reading.Seen.{HasSpoilt, ShowsFirst}
use Rattle.book_tables.specs.row.Rows.{present_format}
use Rattle.audit.specs.Fails.{IsNoOffices}
use Rattle.audit_rows.specs.declared.finding.Finding.{Finding}
use Rattle.book_states.specs.Stores.{StoreStandsFor}

-- The tables are those of no format. Something else has one of their names, or a table of another
-- name refers to one; or some of the tables of a format are there, and others are not.
abbrev pub HasTablesOfNone : Database → Type 0
HasTablesOfNone db = (n : ℕ) → n ≤ present_format → ¬ HasOfficeOf n db.schema

-- The row of the last number shows no number; or there is no row of this number, or it shows no
-- sale, as one that has a column outside its bounds.
abbrev pub IsLastSaleSpoilt : Database → Type 0
IsLastSaleSpoilt db =
    HasSpoilt the_last_sale db
    ⊎ ((last : ℕ) × ShowsFirst the_last_sale db (Some last)
    × (ShowsFirst (the_sale last) db None ⊎ HasSpoilt (the_sale last) db))

-- What NotAnOffice says of a file, in the order in which it is looked at: its tables are those of
-- no format; or `about` tells another format than theirs, or none; or they are of the present one,
-- and the last sale is spoilt; or they are of an older one, and this is what an audit finds of
-- their rows. It says nothing else.
pub data IsNoOffice (db : Database) : Type 0 where
  by_tables : HasTablesOfNone db → IsNoOffice db
  by_about : (n : ℕ) → 1 ≤ n → n ≤ present_format → HasOfficeOf n db.schema → ¬ HasFormat db n
      → IsNoOffice db
  by_last_sale : HasOffice db.schema → IsLastSaleSpoilt db → IsNoOffice db
  by_audit : (n : ℕ) → 1 ≤ n → n < present_format → HasOfficeOf n db.schema
      → (found : Finding) → IsNoOffices found db → IsNoOffice db

-- an open connection shows it, and the store stands for no office
pub record ShowsNoOffice (s : State) : Type 0 where
  pub is_open : IsTrue s.is_open
  pub named : IsNoOffice s.now
  pub none : (o : Office) → ¬ StoreStandsFor s o
