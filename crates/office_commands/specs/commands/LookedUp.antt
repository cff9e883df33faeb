-- What `show` and `list` print, and `quote` of a file: what is looked up in the office there.
use Rattle.std.specs.Prelude.{◌≡◌, ◌⊎◌, ℕ, Bool, true, false, [], Some, Result, Ok, Err}
use Rattle.sqlite.specs.State.{HasCleanDisk}
use Rattle.sqlite_trees.specs.declared.store.Store.{Ghosts}
use Rattle.book_facts.specs.Lookups.{Finds}
use Rattle.asks.specs.declared.lookup.Lookup.{Lookup}
use Rattle.book_states.specs.declared.lookup.Found.{Found}
use Rattle.book_states.specs.declared.lookup.Quote.{Quote}
use Rattle.books.specs.Keeps.{Represents, Seen}
use Rattle.books.specs.Looking.{IsFoundAt, LooksUpBooks}
use Rattle.command_line.specs.declared.place.FilePlace.{FilePlace}
use Rattle.command_line.specs.declared.transform.Shipped.TheVariants.{Plain}
use Rattle.sts_fields.specs.Text.{Text}
use Rattle.tariff.specs.Purchase.{purchase_of}
use Rattle.office_rules.specs.Decision.{MeterAccount, account_of}
use Rattle.vend_core.specs.Law.Life.{Life}
use Rattle.office_rules.specs.Office.{Office, empty_office}
use Rattle.office_rules.specs.declared.decision.refusal.Refusal.{Refusal}
use Rattle.office_rules.specs.declared.decision.refusal.Refusal.TheVariants.{Memory}
use Rattle.vend_ports.specs.commands.Timed.{IsTimed}
use Rattle.office_commands.specs.office.Visited.{IsVisited}
use Rattle.vend_ports.specs.port.Dial.{Dial}
use Rattle.office_commands.specs.port.Places.{Places, where_present}
use Rattle.desk_commands.specs.print.FoundTexts.{IsMadeWhole, found_text, purchase_in}
use Rattle.desk_commands.specs.print.ListTexts.{page_text}
use Rattle.office_commands.specs.print.Listing.{IsListed}
use Rattle.vend_ports.specs.print.Printed.{file_line, refusal_line}
use Rattle.vend_ports.specs.print.Told.{IsTold, Outputs}
use Rattle.vend_ports.specs.declared.command_end.CommandEnd.{CommandEnd}
use Rattle.vend_ports.specs.declared.command_end.CommandEnd.TheVariants.{Done, Refused}

-- the text of what was found is told; or there is no room to make it, and that is told
abbrev pub TellsText : (json : Bool) → Lookup → Found → Outputs → CommandEnd → Type 0
TellsText json lookup found o end =
    IsTold o (found_text json lookup found) [] Done end
    ⊎ (IsMadeWhole json lookup found × IsTold o [] (refusal_line Memory) Refused end)

-- what was found is told, or the refusal is
abbrev pub TellsFound : (json : Bool) → Lookup → Result Found Refusal → Outputs → CommandEnd
    → Type 0
TellsFound json lookup (Ok found) o end = TellsText json lookup found o end
TellsFound json lookup (Err refusal) o end = IsTold o [] (refusal_line refusal) Refused end

-- What is found at this moment in the present office of each life that the books kept is told, or
-- why nothing is. The books were only read: they keep what they kept, and nothing was written.
pub record IsLookedUp (moment : ℕ) (lookup : Lookup) (json : Bool) (old new : Seen) (o : Outputs)
    (end : CommandEnd) : Type 0 where
  pub found : Result Found Refusal
  pub is_found : HasCleanDisk new.state → (life : Life) → Represents life old
      → IsFoundAt life moment lookup found
  pub reads : LooksUpBooks moment lookup found old new
  pub told : TellsFound json lookup found o end

-- one thing is looked up, or the pages of a list are, from the one that this looks up on
abbrev pub IsRead : (moment : ℕ) → (paged : Bool) → Lookup → (json : Bool) → (old new : Seen)
    → Outputs → CommandEnd → Type 0
IsRead moment false lookup json old new o end = IsLookedUp moment lookup json old new o end
IsRead moment true list json old new o end = IsListed moment list json old new o end

-- the first page of a list is told, or there is no room for its text
abbrev pub TellsPage : (json : Bool) → Result Found Refusal → Outputs → CommandEnd → Type 0
TellsPage json (Ok page) o end =
    IsTold o (page_text json true page) [] Done end
    ⊎ IsTold o [] (refusal_line Memory) Refused end
TellsPage json (Err refusal) o end = IsTold o [] (refusal_line refusal) Refused end

-- where a file has no office: what the empty one has at this moment, of which a list is one page
abbrev pub ReadsEmpty : (moment : ℕ) → (paged : Bool) → Lookup → (json : Bool) → Outputs
    → CommandEnd → Type 0
ReadsEmpty moment false lookup json o end =
    (found : Result Found Refusal) × Finds empty_office moment lookup found
    × TellsFound json lookup found o end
ReadsEmpty moment true list json o end =
    (found : Result Found Refusal) × Finds empty_office moment list found
    × TellsPage json found o end

-- The file is not there, and is not made, and that is told; or it has none of the office's tables,
-- and is left as it was, and the empty office is looked up in; or the office there is, where no
-- token is written.
pub data IsShownAt {S : Type 0} (store : Ghosts S) (at : Places) (file : Text) (wait moment : ℕ)
    (paged : Bool) (lookup : Lookup) (json : Bool) (o : Outputs) (end : CommandEnd) : Type 0 where
  absent : (at file wait).misses → IsTold o [] file_line Refused end
      → IsShownAt store at file wait moment paged lookup json o end
  vacant : (at file wait).vacant → ReadsEmpty moment paged lookup json o end
      → IsShownAt store at file wait moment paged lookup json o end
  present : IsVisited store (where_present (at file wait)) Plain
      (λ old new. IsRead moment paged lookup json old new o end) o end
      → IsShownAt store at file wait moment paged lookup json o end

-- so at the moment that is given, or else at the clock's
abbrev pub IsShown : {S : Type 0} → Ghosts S → Places → (untouched : Type 0) → (clock : Dial)
    → FilePlace → (paged : Bool) → Lookup → (json : Bool) → Outputs → CommandEnd → Type 0
IsShown store places untouched clock file paged lookup json o end =
    IsTimed untouched file.at clock
    (λ moment. IsShownAt store places file.path.now file.wait moment paged lookup json o end) o end

-- what is quoted is what `quote` prints of the steps that hold for the meter on the day, after the
-- tenths that its month has before
pub record IsPurchaseFor (office : Office) (moment : ℕ) (meter : Text) (tender : ℕ)
    (quoted : Quote) : Type 0 where
  pub account : MeterAccount
  pub of_meter : account_of office meter moment ≡ Some account
  pub bought : purchase_of account.steps account.prior tender ≡ Some (purchase_in quoted)
