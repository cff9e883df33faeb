-- What books find where something is looked up.
use Rattle.std.specs.Prelude.{◌≡◌, ◌⊎◌, ◌≤◌, ℕ, true, false, List, Result, Ok, Err}
use Rattle.std.specs.Prelude.{Contains}
use Rattle.sqlite_trees.specs.declared.store.Store.{Ghosts}
use Rattle.sts_token.specs.declared.transform.BlockTransform as block
use Rattle.vend_core.specs.Law.Life.{Life, present}
use Rattle.office_rules.specs.Office.{Office}
use Rattle.office_rules.specs.declared.decision.refusal.Refusal.{Refusal}
use Rattle.office_rules.specs.declared.decision.refusal.Refusal.TheVariants.{Memory, Store, Stopped}
use Rattle.office_rules.specs.declared.office.sale.Sale.{Sale}
use Rattle.book_facts.specs.Lookups.{Finds, IsOfRules}
use Rattle.book_facts.specs.LookupsSeen.{IsFoundSeen, LookupSpoilt}
use Rattle.asks.specs.declared.lookup.Lookup.{Lookup}
use Rattle.asks.specs.declared.lookup.Lookup.TheVariants as lookups
use Rattle.book_states.specs.declared.lookup.Found.{Found}
use Rattle.book_states.specs.declared.lookup.Found.TheVariants as found
use Rattle.books.specs.Keeps.{Across, Seen, health_of, seen}
use Rattle.books.specs.Reads.{ReadsBooks, ReadsOfLife}
use Rattle.books.specs.declared.books.Books.{Books}

-- that was found at the moment in the present office of the life, or there was no memory, or the
-- store failed, or the books were stopped
abbrev pub IsFoundAt : Life → ℕ → Lookup → Result Found Refusal → Type 0
IsFoundAt life moment lookup result =
    Finds (present life) moment lookup result
    ⊎ ((result ≡ Err Memory) ⊎ ((result ≡ Err Store) ⊎ (result ≡ Err Stopped)))

-- books were read for what is looked up at a moment, and gave this
abbrev pub LooksUpBooks : ℕ → Lookup → Result Found Refusal → Seen → Seen → Type 0
LooksUpBooks moment lookup found old new =
    ReadsBooks IsOfRules (IsFoundSeen (health_of old) moment lookup) (LookupSpoilt moment lookup)
    found old new

-- What books found of what was looked up at a moment: for each life that they kept what its present
-- office has, or why they had no answer. They were only read.
abbrev pub FoundAt : ℕ → Lookup → Result Found Refusal → Seen → Seen → Type 0
FoundAt moment lookup found old new =
    ReadsOfLife (λ life. IsFoundAt life moment lookup found) IsOfRules
    (IsFoundSeen (health_of old) moment lookup) (LookupSpoilt moment lookup) found old new

-- where their health is looked up, books that are not stopped tell what they know, and nothing is
-- read for it: they are as they were
abbrev pub TellsHealth : {B : Type 0} → (B → Seen) → Lookup → Result Found Refusal → B → B → Type 0
TellsHealth see lookup given old new =
    lookup ≡ lookups.Health → (see old).stopped ≡ false
    → (given ≡ Ok (found.Health (health_of (see old)))) × (new ≡ old)

-- Books found this of what was looked up at a moment, and told their health without a read. Books
-- that were stopped stay as they are.
pub record AnswersLookUp {S T : Type 0} {g : Ghosts S} {h : block.Ghosts T} (moment : ℕ)
    (lookup : Lookup) (found : Result Found Refusal) (old new : Books S T g h) : Type 0 where
  pub says : Across (FoundAt moment lookup found) old new
  pub idle : old.stopped ≡ true → new ≡ old
  pub health : TellsHealth seen lookup found old new

-- the sale is the last one to a meter, by number
pub record IsLastTo (o : Office) (number : List ℕ) (s : Sale) : Type 0 where
  pub stands : Contains o.sales s
  pub meter : s.meter ≡ number
  pub last : (t : Sale) → Contains o.sales t → t.meter ≡ number → t.number ≤ s.number
