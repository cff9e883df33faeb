-- Pages that are told alike have the same order.
use Rattle.std.proofs.Common.{◌≡◌, ◌∙◌, ℕ, ◌<◌, List, [], ◌∷◌, Option, Vec, Global, map, refl, ap, sym, subst}
use Rattle.std.specs.Prelude.{unwrap_or}
use Rattle.asks.specs.declared.lookup.Lookup.{Lookup}
use Rattle.asks.specs.declared.lookup.Lookup.TheVariants as lookups
use Rattle.book_lists.specs.Pages.{ComesBefore}
use Rattle.book_states.specs.declared.lookup.Found.{Found}
use Rattle.book_states.specs.declared.lookup.Found.TheVariants as found
use Rattle.book_states.specs.declared.lookup.ListedMeter.{ListedMeter}
use Rattle.book_states.specs.declared.lookup.ListedShift.{ListedShift}
use Rattle.book_states.specs.declared.lookup.ListedTariff.{ListedTariff}
use Rattle.desk_client.specs.Page.{AreAlike, HasTokens, HaveTokens, tariff_view}
use Rattle.office_rules.specs.declared.office.sale.Sale.{Sale}
use Rattle.desk_commands.specs.PageOrder.{ComesAfter, Rise}

-- the names of tariffs are what is seen of them first
names_seen : (items : List ListedTariff) → map (λ t. t.name) items ≡ map (λ view. view.0) (map tariff_view items)
names_seen [] = refl
names_seen (t ∷ items) = ap (λ (names : List (List ℕ)). t.name ∷ names) (names_seen items)

tariffs_after : (after : Option (List ℕ)) (page : Found) (other : Vec ListedTariff Global) → AreAlike page (found.Tariffs other)
    → ComesAfter (lookups.Tariffs after) (found.Tariffs other) → ComesAfter (lookups.Tariffs after) page
tariffs_after after (found.Tariffs page) other alike is =
    let same = names_seen page.items ∙ ap (λ views. map (λ view. view.0) views) alike ∙ sym (names_seen other.items) in
    subst (λ (names : List (List ℕ)). Rise ComesBefore (unwrap_or after []) names) (sym same) is
tariffs_after after page other alike is = absurd alike

meters_after : (after : Option (List ℕ)) (page : Found) (other : Vec ListedMeter Global) → AreAlike page (found.Meters other)
    → ComesAfter (lookups.Meters after) (found.Meters other) → ComesAfter (lookups.Meters after) page
meters_after after (found.Meters page) other alike is =
    subst (λ items. Rise ComesBefore (unwrap_or after []) (map (λ m. m.number) items)) (sym alike) is
meters_after after page other alike is = absurd alike

shifts_after : (after : ℕ) (page : Found) (other : Vec ListedShift Global) → AreAlike page (found.Shifts other)
    → ComesAfter (lookups.Shifts after) (found.Shifts other) → ComesAfter (lookups.Shifts after) page
shifts_after after (found.Shifts page) other alike is =
    subst (λ items. Rise (λ a b. a < b) after (map (λ l. l.shift.number) items)) (sym alike) is
shifts_after after page other alike is = absurd alike

sales_after : (after : ℕ) (page : Found) (other : Vec Sale Global) → AreAlike page (found.Sales other)
    → ComesAfter (lookups.Sales after) (found.Sales other) → ComesAfter (lookups.Sales after) page
sales_after after (found.Sales page) other alike is =
    subst (λ items. Rise (λ a b. a < b) after (map (λ s. s.number) items)) (sym alike) is
sales_after after page other alike is = absurd alike

-- a page that is told alike with one that comes after what was asked for does so too
pub alike_after : (list : Lookup) (page other : Found) → AreAlike page other → ComesAfter list other → ComesAfter list page
alike_after (lookups.Tariffs after) page (found.Tariffs other) alike is = tariffs_after after page other alike is
alike_after (lookups.Meters after) page (found.Meters other) alike is = meters_after after page other alike is
alike_after (lookups.Shifts after) page (found.Shifts other) alike is = shifts_after after page other alike is
alike_after (lookups.Sales after) page (found.Sales other) alike is = sales_after after page other alike is
alike_after list page other alike is = absurd is

tokens_of : (page : Found) (other : Vec Sale Global) → AreAlike page (found.Sales other) → HasTokens (found.Sales other) → HasTokens page
tokens_of (found.Sales page) other alike is = subst HaveTokens (sym alike) is
tokens_of page other alike is = absurd alike

-- so do its sales have tokens, where the other's have
pub alike_tokens : (page other : Found) → AreAlike page other → HasTokens other → HasTokens page
alike_tokens page (found.Sales other) alike is = tokens_of page other alike is
alike_tokens (found.Sales page) other alike is = absurd alike
alike_tokens page other alike is = tt
