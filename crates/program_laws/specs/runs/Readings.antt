-- What a run read of an office, and the sales in it.
use Rattle.std.specs.Prelude.{◌≡◌, ℕ, Bool, true, false, List, [], ◌∷◌, ◌++◌, Option, Some, Result}
use Rattle.std.specs.Prelude.{Ok, Err, Contains}
use Rattle.std.specs.List.{flat_map}
use Rattle.asks.specs.declared.lookup.Lookup.{Lookup}
use Rattle.book_states.specs.declared.lookup.Found.{Found}
use Rattle.books.specs.Keeps.{Seen}
use Rattle.books.specs.Looking.{IsFoundAt}
use Rattle.papers.specs.Export.{export_of}
use Rattle.sts_fields.specs.Text.{Text}
use Rattle.vend_core.specs.Law.Life.{Life, present}
use Rattle.office_rules.specs.declared.decision.refusal.Refusal.{Refusal}
use Rattle.office_rules.specs.declared.office.sale.Sale.{Sale}
use Rattle.office_commands.specs.commands.LookedUp.{IsRead, ReadsEmpty}
use Rattle.desk_commands.specs.print.Pages.{ArePages, list_behind}
use Rattle.vend_ports.specs.print.Told.{Outputs}
use Rattle.program_laws.specs.SalesTold.{sales_found}
use Rattle.vend_ports.specs.declared.command_end.CommandEnd.{CommandEnd}

-- something was looked up, and this was found, or was why nothing was; or the pages of a list were
-- found, and this was left of it; or the sales were exported by this text
pub data Reading : Type 0 where
  one_found : Lookup → Result Found Refusal → Reading
  pages_found : Lookup → List Found → (left : Option Lookup) → Reading
  exported : Text → Reading

-- it was read at the moment in the present office of the life
abbrev pub IsReadIn : Life → (moment : ℕ) → Reading → Type 0
IsReadIn life moment (one_found lookup found) = IsFoundAt life moment lookup found
IsReadIn life moment (pages_found list pages left) =
    ArePages (present life) moment (Some list) pages left
IsReadIn life moment (exported text) =
    (rest : Text) × (text ++ rest ≡ export_of true (present life).sales)

-- the text begins with the export of the sales up to this one
abbrev pub ExportsUpTo : Text → List Sale → Sale → Type 0
ExportsUpTo text sales s = (front : List Sale) × (back : List Sale) × (rest : Text)
    × (sales ≡ front ++ s ∷ back) × (text ≡ export_of true (front ++ s ∷ []) ++ rest)

-- the sale is in what was read of the life
abbrev pub IsSaleRead : Life → Reading → Sale → Type 0
IsSaleRead life (one_found lookup found) s = Contains (sales_found found) s
IsSaleRead life (pages_found list pages left) s =
    Contains (flat_map (λ page. sales_found (Ok page)) pages) s
IsSaleRead life (exported text) s = ExportsUpTo text (present life).sales s

-- what a command read, which it told
abbrev pub reading_of : (moment : ℕ) → (paged : Bool) → (lookup : Lookup) → (json : Bool)
    → (old new : Seen) → (o : Outputs) → (end : CommandEnd)
    → IsRead moment paged lookup json old new o end → Reading
reading_of moment false lookup json old new o end done = one_found lookup done.found
reading_of moment true list json old new o end done = pages_found list done.pages done.left

-- what a command read of the empty office, of which a list has one page
abbrev pub empty_page : Lookup → Result Found Refusal → Reading
empty_page list (Ok page) = pages_found list (page ∷ []) (list_behind page)
empty_page list (Err refusal) = pages_found list [] (Some list)

abbrev pub empty_reading : (moment : ℕ) → (paged : Bool) → (lookup : Lookup) → (json : Bool)
    → (o : Outputs) → (end : CommandEnd) → ReadsEmpty moment paged lookup json o end → Reading
empty_reading moment false lookup json o end (found, finds, told) = one_found lookup found
empty_reading moment true list json o end (found, finds, told) = empty_page list found
