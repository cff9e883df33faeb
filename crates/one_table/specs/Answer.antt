-- What a reader gives of the answer of a text.
use Rattle.std.specs.Prelude.{◌≡◌, ◌⊎◌, ℕ, List, [], ◌∷◌, Option, Some, None}
use Rattle.std.specs.Prelude.{IsTrue, Any}
use Rattle.std.specs.List.{AllZip}
use Rattle.sqlite_value.specs.Order.{Row}
use Rattle.sqlite.specs.State.{State, IsUnchanged, IsRolledBack, Shown, Begins, FailsToQuery}
use Rattle.sqlite.specs.Given.{IsPlain}
use Rattle.sqlite.specs.Listing.{understood}
use Rattle.one_table.specs.declared.read_fault.ReadFault.{ReadFault}
use Rattle.one_table.specs.declared.read_fault.ReadFault.TheVariants as fault
use Rattle.one_table.specs.ReadFaults.{no_memory}

-- where the connection is open, the text is understood, writes nothing and does not read the clock
abbrev pub OnlyAsks : List ℕ → State → Type 0
OnlyAsks sql s = IsTrue s.is_open → IsPlain (understood s.now.schema sql)

-- the connection is as it was, or its transaction is undone
abbrev pub IsLeft : State → State → Type 0
IsLeft old new = IsUnchanged old new ⊎ IsRolledBack old new

module _ {X : Type 0} (IsReadAs : Row → X → Type 0) (sql : List ℕ) (params : Row)
    (old new : State) where
  -- an answer of the text has a row for each of the values, in this order, and no other row
  pub record GivesAll (values : List X) : Type 0 where
    pub rows : List Row
    pub shown : Shown sql params old new rows
    pub read : AllZip IsReadAs rows values

  abbrev pub IsFirst : Option X → List Row → Type 0
  IsFirst None rows = rows ≡ []
  IsFirst (Some x) rows = (row : Row) × (more : List Row) × (rows ≡ row ∷ more) × IsReadAs row x

  -- the value is that of the first row of an answer, and there is none only where the answer has no
  -- row
  pub record GivesFirst (value : Option X) : Type 0 where
    pub rows : List Row
    pub shown : Shown sql params old new rows
    pub first : IsFirst value rows

module _ (IsReadable : Row → Type 0) (sql : List ℕ) (params : Row) (old new : State) where
  -- among the first rows of an answer is one that stands for nothing
  pub record HasBadRow : Type 0 where
    pub rows : List Row
    pub begins : Begins sql params new rows
    pub bad : Any (λ row. ¬ IsReadable row) rows

  -- why a reader stops: only what the database said, or a want of memory, or a bad row
  abbrev pub FailsToRead : ReadFault → Type 0
  FailsToRead (fault.Database e) =
      FailsToQuery sql params old new e ⊎ ((fault.Database e ≡ no_memory) × IsUnchanged old new)
  FailsToRead fault.Row = HasBadRow × IsUnchanged old new
