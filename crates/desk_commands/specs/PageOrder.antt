-- The order of the members of a page: each one comes after the one before it, so a list ends.
use Rattle.std.specs.Prelude.{◌<◌, ⊤, List, [], ◌∷◌, map, unwrap_or}
use Rattle.asks.specs.declared.lookup.Lookup.{Lookup}
use Rattle.asks.specs.declared.lookup.Lookup.TheVariants as lookups
use Rattle.book_lists.specs.Pages.{ComesBefore}
use Rattle.book_states.specs.declared.lookup.Found.{Found}
use Rattle.book_states.specs.declared.lookup.Found.TheVariants as found

-- the first key comes after this one, and each next one after the one before it
abbrev pub Rise : {Key : Type 0} → (Before : Key → Key → Type 0) → (after : Key) → List Key
    → Type 0
Rise Before after [] = ⊤
Rise Before after (key ∷ keys) = Before after key × Rise Before key keys

-- The members of a page come after what the list begins after, and rise: names and numbers of
-- meters in the order of their bytes. The empty text comes before all others.
abbrev pub ComesAfter : Lookup → Found → Type 0
ComesAfter (lookups.Tariffs after) (found.Tariffs page) =
    Rise ComesBefore (unwrap_or after []) (map (λ t. t.name) page.items)
ComesAfter (lookups.Meters after) (found.Meters page) =
    Rise ComesBefore (unwrap_or after []) (map (λ m. m.number) page.items)
ComesAfter (lookups.Shifts after) (found.Shifts page) =
    Rise (λ a b. a < b) after (map (λ l. l.shift.number) page.items)
ComesAfter (lookups.Sales after) (found.Sales page) =
    Rise (λ a b. a < b) after (map (λ s. s.number) page.items)
ComesAfter list page = ⊥
