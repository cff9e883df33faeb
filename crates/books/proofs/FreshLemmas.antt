-- A new database stands for the empty office.
use Rattle.std.proofs.Common.{◌≡◌, ◌≢◌, ◌⊎◌, [], refl, sym, subst, inl, inr}
use Rattle.sqlite_trees.specs.declared.memory.MemStore.{MemStore}
use Rattle.sqlite_schema.specs.declared.schema.Schema.{Schema}
use Rattle.sqlite.specs.Effect.{Database}
use Rattle.sqlite.specs.Held.{Held, state}
use Rattle.sqlite.specs.Steps.{IsEmpty, over_memory}
use Rattle.office_rules.specs.Office.{empty_office}
use Rattle.book_tables.specs.Holds.{IsUntaken, StandsFor}
use Rattle.book_states.specs.Stores.{StoreStandsFor}
use Rattle.book_opening.specs.declared.fault.OpenFault.{OpenFault}
use Rattle.book_opening.specs.declared.fault.OpenFault.TheVariants.{NotAnOffice, Store, Memory}

-- a schema with nothing in it
abbrev pub bare : Schema
bare = record { tables = []; indexes = []; views = [] }

-- nothing in it takes a name that the office's tables need
pub bare_untaken : IsUntaken bare
bare_untaken = record { tables = tt; free = refl; unreferred = refl; harmless = refl }

-- an empty store in memory stands for the empty office
pub memory_stands : (c : Held MemStore) → ((db : Database) → IsUntaken db.schema → StandsFor db empty_office)
    → IsEmpty (state over_memory c) → StoreStandsFor (state over_memory c) empty_office
memory_stands c untaken h =
    let s = state over_memory c in
    let stands = untaken s.now (subst IsUntaken (sym h.2) bare_untaken) in
    record {
      office = stands.office;
      now = λ _. stands;
      left = λ trees leaves. (s.committed, (h.1 h.0.is_open).1, leaves, subst (λ (db : Database). StandsFor db empty_office) h.0.clean stands);
    }

-- a fault that does not name the file is one of the store or of memory
pub store_or_memory : (fault : OpenFault) → fault ≢ NotAnOffice → (fault ≡ Store) ⊎ (fault ≡ Memory)
store_or_memory NotAnOffice other = absurd (other refl)
store_or_memory Store other = inl refl
store_or_memory Memory other = inr refl
