-- The pages of a list: what is looked up for each, and what is printed of one.
use Rattle.std.specs.Prelude.{◌≡◌, ℕ, ◌-◌, ◌^◌, ◌==◌, Bool, List, [], ◌∷◌, length, slice_get}
use Rattle.std.specs.Prelude.{Option, Some, None, option_map, Ok, if◌then◌else◌}
use Rattle.book_lists.specs.Pages.{page_size}
use Rattle.book_facts.specs.Lookups.{Finds}
use Rattle.asks.specs.declared.lookup.Lookup.{Lookup}
use Rattle.asks.specs.declared.lookup.Lookup.TheVariants as lookups
use Rattle.book_states.specs.declared.lookup.Found.{Found}
use Rattle.book_states.specs.declared.lookup.Found.TheVariants as found
use Rattle.office_rules.specs.Office.{Office}
use Rattle.desk_commands.specs.print.ListTexts.{page_text}
use Rattle.vend_ports.specs.print.Sink.{Sink}
use Rattle.vend_ports.specs.print.Told.{Takes}

-- the last member of a page that is full
abbrev pub last_of_full : {A : Type 0} → List A → Option A
last_of_full page =
    if length page == page_size then slice_get page (length page - 1) else None

-- the list behind a page, after its last member; none where the page is not full
abbrev pub list_behind : Found → Option Lookup
list_behind (found.Tariffs page) =
    option_map (λ t. lookups.Tariffs (Some t.name)) (last_of_full page.items)
list_behind (found.Meters page) =
    option_map (λ m. lookups.Meters (Some m.number)) (last_of_full page.items)
list_behind (found.Shifts page) =
    option_map (λ l. lookups.Shifts l.shift.number) (last_of_full page.items)
list_behind (found.Sales page) =
    option_map (λ s. lookups.Sales s.number) (last_of_full page.items)
list_behind page = None

-- These are pages of a list in an office, at a moment: the first, and each next one the first of
-- the list behind the one before it. What is left is the list behind the last of them.
abbrev pub ArePages : Office → (moment : ℕ) → Option Lookup → List Found → (left : Option Lookup)
    → Type 0
ArePages o moment list [] left = left ≡ list
ArePages o moment None (page ∷ pages) left = ⊥
ArePages o moment (Some list) (page ∷ pages) left =
    Finds o moment list (Ok page)
    × ArePages o moment (list_behind page) pages left

-- more pages than an office in a file can have
abbrev pub most_pages : ℕ
most_pages = 2 ^ 64 - 1

-- The page is printed, and the list behind it is to follow, but where a write failed.
abbrev pub IsPagePut : Found → (json first : Bool) → (before after : Sink)
    → (next : Option Lookup) → Type 0
IsPagePut page json first before after next = Takes before after (page_text json first page)
    × (next ≡ (if after.failed then None else list_behind page))
