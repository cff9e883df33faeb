-- What an upsert of one row leaves, what it shows, and why it fails.
use Rattle.std.specs.Prelude.{◌≡◌, ◌⊎◌, ℕ, true, false, List, [], ◌∷◌, ◌++◌, Some}
use Rattle.std.specs.List.{list_any}
use Rattle.sqlite_value.specs.declared.value.Value.TheVariants.{Null}
use Rattle.sqlite_value.specs.Order.{Row}
use Rattle.sqlite_trees.specs.Tree.{put_row, rowid, without_rowid}
use Rattle.sqlite_sql.specs.Term.{eval_all}
use Rattle.sqlite_schema.specs.declared.schema.Schema.{Schema}
use Rattle.sqlite_schema.specs.declared.schema.Table.{Table}
use Rattle.sqlite_rules.specs.Cast.{cast_row}
use Rattle.sqlite_rules.specs.Edit.{id_in}
use Rattle.sqlite_rules.specs.Lists.{Has as Member}
use Rattle.sqlite.specs.Effect.{Database}
use Rattle.sqlite.specs.Rows.{shown}
use Rattle.sqlite.specs.State.{State}
use Rattle.one_table.specs.declared.read_fault.ReadFault.{ReadFault}
use Rattle.one_table.specs.declared.read_fault.ReadFault.TheVariants as fault
use Rattle.one_table.specs.InTransaction.{BeginsWith, FailsToWriteAs, HasChanged, PutsRow}
use Rattle.one_table.specs.InTransaction.{ShowsInside}
use Rattle.one_table.specs.Inserting.{new_row}
use Rattle.one_table.specs.Numbered.{IsInOrder}
use Rattle.one_table.specs.Place.{Has}
use Rattle.one_table.specs.ReadFaults.{no_memory}
use Rattle.one_table.specs.Referring.{is_left_alone}
use Rattle.one_table.specs.Standing.{keys_on, own_keys}
use Rattle.one_table.specs.Upserting.{Merging, is_of_key, returning_as, upsert_as}

-- the table stands at this place with no keys but its own, and no reference to it takes an action
pub record StandsForUpserts (s : Schema) (at : ℕ) (t : Table) : Type 0 where
  pub has : Has s at t
  pub keys : keys_on s t.tree ≡ own_keys t
  pub left_alone : is_left_alone s t.tree ≡ true

-- The table stands at this place with no keys but its own, no reference to it takes an action, and
-- its rows are in order.
pub record TakesUpserts (db : Database) (at : ℕ) (t : Table) : Type 0 where
  pub has : Has db.schema at t
  pub keys : keys_on db.schema t.tree ≡ own_keys t
  pub left_alone : is_left_alone db.schema t.tree ≡ true
  pub in_order : IsInOrder (db.trees t.tree)

module _ (t : Table) (m : Merging) (params : Row) where
  -- what is shown of a row
  abbrev pub shown_row : Row → Row
  shown_row row = eval_all m.shown ((params ++ Null ∷ shown t row) ∷ [])

  -- where this row is given, what becomes of the row that has its key
  abbrev pub set_by : Row → Row → Row
  set_by given there =
      cast_row t (eval_all m.sets ((params ++ rowid there ∷ shown t given) ∷ there ∷ []))

  module _ (rows : List Row) where
    -- the row that is given, with the rowid that it would have
    abbrev pub given_row : Row
    given_row = new_row t m.given params rows

    abbrev pub has_key : Row → Type 0
    has_key row = is_of_key (own_keys t) m.key given_row row ≡ true

    -- the row that has the key, as it is set
    abbrev pub set_row : Row → Row
    set_row there = set_by given_row there

  module _ (old new : State) where
    abbrev rows_before : List Row
    rows_before = old.now.trees t.tree

    -- no row has the key of the row that is given, and this is put in
    pub record PutsGiven (row : Row) : Type 0 where
      pub free : list_any (is_of_key (own_keys t) m.key (given_row rows_before)) rows_before ≡ false
      pub is : row ≡ cast_row t (given_row rows_before)
      pub puts : PutsRow t row old new

    -- A row has its key, and is set: as it is set it stands in for itself, and all others stay.
    pub record SetsThere (row : Row) : Type 0 where
      pub there : Row
      pub found : Member rows_before there
      pub keyed : has_key rows_before there
      pub is : row ≡ set_row rows_before there
      pub changed : HasChanged t
          (put_row row (without_rowid (id_in (rowid there)) rows_before)) old new

    -- the row is put in or merged, and this is the row as it is afterwards
    abbrev pub Upserts : Row → Type 0
    Upserts row = PutsGiven row ⊎ SetsThere row

    -- Why an upsert fails: as any write, or the row was written and cannot be told: there was no
    -- memory for it, or what is shown of it stands for nothing.
    abbrev pub FailsToUpsert : ℕ → (Row → Type 0) → ReadFault → Type 0
    FailsToUpsert at IsReadable (fault.Database e) =
        FailsToWriteAs (Some (returning_as m)) (upsert_as at t m) params old new e
        ⊎ ((fault.Database e ≡ no_memory) × (row : Row) × Upserts row)
    FailsToUpsert at IsReadable fault.Row =
        (row : Row) × (¬ IsReadable (shown_row row)) × Upserts row

    -- whatever the order of the rows: only those of the table have changed
    abbrev pub Touches : Type 0
    Touches = (rows : List Row) × HasChanged t rows old new

    -- The same of why an upsert fails. Where a row is the cause, the text was carried out, and does
    -- not show first a row that stands for something.
    abbrev pub FailsToTouch : ℕ → List ℕ → (Row → Type 0) → ReadFault → Type 0
    FailsToTouch at sql IsReadable (fault.Database e) =
        FailsToWriteAs (Some (returning_as m)) (upsert_as at t m) params old new e
        ⊎ ((fault.Database e ≡ no_memory) × Touches)
    FailsToTouch at sql IsReadable fault.Row =
        Touches × ShowsInside (λ rows. ¬ BeginsWith IsReadable rows) sql params old new
