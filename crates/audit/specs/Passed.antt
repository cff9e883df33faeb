-- What a follower of an audit is told, and that it is true of the database.
use Rattle.std.specs.Prelude.{◌≡◌, ◌⊎◌, ℕ, List, [], ◌∷◌, ◌++◌, Result, IfErr, OnOk}
use Rattle.std.specs.List.{AllByRecursion}
use Rattle.sqlite.specs.Effect.{Database}
use Rattle.vend_core.specs.Law.Reached.{IsPlausible}
use Rattle.office_rules.specs.Office.{Office}
use Rattle.audit_rows.specs.declared.finding.AuditFault.{AuditFault}
use Rattle.audit_rows.specs.declared.office_rows.OfficeRows.{OfficeRows}
use Rattle.audit_lists.specs.reached.Finds.{AreRowsOfOffice}
use Rattle.audit.specs.Shown.{AreOfficeRows, IsToldAs}
use Rattle.audit.specs.declared.following.Part.{Part}
use Rattle.audit.specs.declared.following.Part.TheVariants as part

-- requests may have led to each office that has these rows
abbrev pub MayBeReached : OfficeRows → Type 0
MayBeReached rows = (o : Office) → AreRowsOfOffice rows o → IsPlausible o

-- What is so of a database where a part of its audit has passed: its rows were read, and each is an
-- office's by itself; they are an office's; requests may have led to it.
abbrev pub HasPassed : Database → Part → Type 0
HasPassed db part.Rows = (n : ℕ) × (rows : OfficeRows) × IsToldAs n db rows
HasPassed db part.Ties = (n : ℕ) × (rows : OfficeRows) × AreOfficeRows n db rows
HasPassed db part.Requests =
    (n : ℕ) × (rows : OfficeRows) × AreOfficeRows n db rows × MayBeReached rows

-- these parts are the first ones, in their order, and each has passed
pub record ArePassed (db : Database) (parts : List Part) : Type 0 where
  pub later : List Part
  pub first : parts ++ later ≡ part.Rows ∷ part.Ties ∷ part.Requests ∷ []
  pub each : AllByRecursion (HasPassed db) parts

module _ {F : Type 0} (told : F → Part → F → Type 0) (before after : F) where
  -- it was told of the part, of rows to which requests may have led, or of nothing
  abbrev pub TellsReached : OfficeRows → Type 0
  TellsReached rows = (after ≡ before) ⊎ (told before part.Requests after × MayBeReached rows)

module _ {F : Type 0} (told : F → Part → F → Type 0) where
  -- it was told of these parts, one after another, and of nothing else
  abbrev pub AreTold : F → List Part → F → Type 0
  AreTold before [] after = after ≡ before
  AreTold before (part ∷ more) after = (mid : F) × told before part mid × AreTold mid more after

  -- it was told of parts that have passed
  abbrev pub TellsPassed : F → F → Database → Type 0
  TellsPassed before after db =
      (parts : List Part) × AreTold before parts after × ArePassed db parts

  -- the same of a reading, which tells of the first two parts where it succeeds
  abbrev pub TellsRead : F → F → Database → Result OfficeRows AuditFault → Type 0
  TellsRead before after db result =
      IfErr result (λ fault. TellsPassed before after db)
      × OnOk result (AreTold before (part.Rows ∷ part.Ties ∷ []) after)
