-- What is left is found again.
use Rattle.std.proofs.Common.{◌≡◌, IsTrue, refl, sym, ap₂, subst, ◌∙◌}
use Rattle.sqlite_trees.specs.Tree.{Trees}
use Rattle.sqlite_trees.specs.Objects.{catalog_tree}
use Rattle.sqlite_schema.specs.declared.schema.Schema.{Schema}
use Rattle.sqlite_catalog.specs.Listing.{Lists}
use Rattle.sqlite_catalog.proofs.ReadLemmas.{lists_once}
use Rattle.sqlite.specs.Effect.{Database, IsDatabase}
use Rattle.sqlite.specs.Files.{HoldsDatabase, IsEmpty}
use Rattle.sqlite.specs.State.{IsLive, Opens, State}
use Rattle.sqlite.proofs.ListingLemmas.{empty_is_sound}
use Rattle.sqlite_wal.specs.Recovery.{Image}
use Rattle.office_rules.specs.Office.{Office, empty_office}
use Rattle.book_tables.specs.Holds.{IsUntaken, StandsFor}
use Rattle.book_states.specs.Stores.{RecoversTo, StoreStandsFor}
use Rattle.books.specs.Found.{FindsOffice}
use Rattle.books.specs.Path.{StandsIn}
use Rattle.books.proofs.FoundLemmas.{AreTablesInOrder, shows_if_stands, stands_if_ordered}
use Rattle.books.proofs.FreshLemmas.{bare, bare_untaken}

same_parts : (a b : Database) → a.schema ≡ b.schema → a.trees ≡ b.trees → a ≡ b
same_parts a b p q = ap₂ (λ (s : Schema) (t : Trees). let db : Database = record { schema = s; trees = t } in db) p q

-- trees tell their database
pub same_database : (a b : Database) → IsDatabase a → IsDatabase b → a.trees ≡ b.trees → a ≡ b
same_database a b p q same =
    let lists = subst (λ (trees : Trees). Lists (trees catalog_tree) b.schema) (sym same) q.lists in
    let schema = lists_once (a.trees catalog_tree) a.schema b.schema p.lists lists in
    same_parts a b schema same

-- a connection that has just been opened stands for what its trees stand for
pub opened_stands : (s : State) (o : Office) → ((trees : Trees) → s.may_leave trees → IsTrue s.is_open → trees ≡ s.committed.trees)
    → Opens s → IsLive s → RecoversTo s.committed.trees o → StoreStandsFor s o
opened_stands s o settled opens live left =
    let same = same_database left.0 s.committed left.1 (live opens.is_open).1 (sym left.2) in
    let stands = subst (λ (db : Database). StandsFor db o) same left.3 in
    record {
      office = stands.office;
      now = λ _. subst (λ (db : Database). StandsFor db o) (sym opens.clean) stands;
      left = λ trees may. subst (λ (t : Trees). RecoversTo t o) (sym (settled trees may opens.is_open)) left;
    }

-- what a crash leaves stands for no two offices, as a database does not
pub one_office_left : ((db : Database) (o p : Office) → StandsFor db o → StandsFor db p → o ≡ p) → (trees : Trees) (o p : Office)
    → RecoversTo trees o → RecoversTo trees p → o ≡ p
one_office_left once trees o p a b =
    let same = same_database a.0 b.0 a.1 b.1 (sym a.2 ∙ b.2) in
    once b.0 o p (subst (λ (db : Database). StandsFor db o) same a.3) b.3

-- what stands for an office shows it
pub finds_if_left : (trees : Trees) (o : Office) → RecoversTo trees o → FindsOffice trees o
finds_if_left trees o left = (left.0, left.1, left.2, shows_if_stands left.0 o left.3)

-- what a stop may leave of a store that keeps order stands for the office that it shows
pub left_if_found : (Leaves : Trees → Type 0) → ((db : Database) → Leaves db.trees → IsDatabase db → AreTablesInOrder db)
    → (trees : Trees) (o : Office) → Leaves trees → FindsOffice trees o → RecoversTo trees o
left_if_found Leaves ordered trees o may found =
    (found.0, found.1, found.2, stands_if_ordered found.0 o (ordered found.0 (subst Leaves found.2 may) found.1) found.3)

-- files that hold a database stand for what it stands for
pub held_stands : (image : Image) (trees : Trees) (o : Office) → HoldsDatabase image trees → RecoversTo trees o → StandsIn image o
held_stands image trees o held left found may = subst (λ (t : Trees). FindsOffice t o) (sym (may.holds trees held)) (finds_if_left trees o left)

-- trees with nothing in them stand for the empty office
pub empty_stands : ((db : Database) → IsUntaken db.schema → StandsFor db empty_office) → (trees : Trees) → IsEmpty trees → RecoversTo trees empty_office
empty_stands untaken trees h = let db : Database = record { schema = bare; trees = trees } in (db, empty_is_sound trees h.1, refl, untaken db bare_untaken)
