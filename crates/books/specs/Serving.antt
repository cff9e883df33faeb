-- How a request ends at books.
use Rattle.std.specs.Prelude.{◌≡◌, ◌⊎◌, ◌+◌, ◌-◌, ◌^◌, ◌<◌, ℕ, Bool, true, false, Option, Some}
use Rattle.std.specs.Prelude.{None, Result, Ok, Err, length}
use Rattle.sts_token.specs.Token.{BlockFunction}
use Rattle.office_rules.specs.Decision.{decision}
use Rattle.office_rules.specs.Decision.Fold.{reply, step}
use Rattle.office_rules.specs.Office.{Office}
use Rattle.office_rules.specs.declared.decision.answer.Answer.{Answer}
use Rattle.office_rules.specs.declared.decision.change.Change.{Change}
use Rattle.office_rules.specs.declared.decision.change.Edit.{Edit}
use Rattle.office_rules.specs.declared.decision.change.Edit.TheVariants.{AddSale}
use Rattle.office_rules.specs.declared.decision.refusal.Refusal.{Refusal}
use Rattle.office_rules.specs.declared.decision.refusal.Refusal.TheVariants.{Memory, Store}
use Rattle.office_rules.specs.declared.decision.request.Stamped.{Stamped}
use Rattle.book_states.specs.Changing.{IsCounted}
use Rattle.book_states.specs.Failing.{IsChangeRead, RefusesUnchanged}
use Rattle.book_edits.specs.Transaction.{FailsToEdit, HasEdit, MayBeLeft}
use Rattle.book_states.specs.Health.{last_moment}
use Rattle.book_states.specs.Stores.{Stores}
use Rattle.books.specs.Keeps.{KnowTheSame, Seen}
use Rattle.book_states.specs.Same.{ChangesNothing}

-- the books hold the office
pub record HoldsOffice (o : Office) (books : Seen) : Type 0 where
  pub at : Stores books.state o
  pub next : books.next_number ≡ length o.sales + 1
  pub last : books.last_moment ≡ last_moment o

-- the rules grant the request with this edit, or with none, in whichever office the books hold
abbrev pub IsGrantedWith : Stamped → Seen → Option Edit → Type 0
IsGrantedWith at books edit =
    (o : Office) → HoldsOffice o books
    → (change : Change) × (decision books.forward o at ≡ Ok change) × (change.edit ≡ edit)

abbrev pub IsDecidedFor : Stamped → Seen → Edit → Type 0
IsDecidedFor at books edit = IsGrantedWith at books (Some edit)

-- What a change left: where it has no edit, nothing was written and a crash leaves nothing new;
-- else its edit was committed, and the tenths that are told of a sale's month are these and its
-- own.
abbrev pub IsMade : Option Edit → ℕ → Seen → Seen → Type 0
IsMade None prior old new = ChangesNothing old.state new.state
IsMade (Some edit) prior old new =
    HasEdit edit old.state new.state × IsCounted edit prior old.state.now

-- how many sales an edit adds, or none
abbrev pub sales_added : Option Edit → ℕ
sales_added (Some (AddSale sale)) = 1
sales_added edit = 0

-- the moment of the last sale, which was this before the edit
abbrev pub moment_after : Option Edit → Option ℕ → Option ℕ
moment_after (Some (AddSale sale)) last = Some sale.moment
moment_after edit last = last

-- whether a write failed and none was made since, where it was so before the edit was committed
abbrev pub failed_after : Option Edit → Bool → Bool
failed_after (Some edit) failed = false
failed_after None failed = failed

-- A granted request: the rules grant its change, by the facts that were read, and it was made. The
-- books know the number and the moment of a new sale, as far as a u64 counts, and that a write was
-- made.
pub record ServesGranted (at : Stamped) (answer : Answer) (old new : Seen) : Type 0 where
  pub change : Change
  pub answers : change.answer ≡ answer
  pub granted : IsGrantedWith at old change.edit
  pub prior : ℕ
  pub read : IsChangeRead old.forward at old.next_number old.state change prior
  pub made : IsMade change.edit prior old new
  pub next : old.next_number < 2 ^ 64 - 1
      → new.next_number ≡ old.next_number + sales_added change.edit
  pub last : new.last_moment ≡ moment_after change.edit old.last_moment
  pub writes : new.write_failed ≡ failed_after change.edit old.write_failed

-- what books know where an edit is not known to be committed: the sales are those from before, and
-- the write failed, unless there was no memory for it
pub record KnowUnmade (refusal : Refusal) (old new : Seen) : Type 0 where
  pub next : new.next_number ≡ old.next_number
  pub last : new.last_moment ≡ old.last_moment
  pub store : refusal ≡ Store → new.write_failed ≡ true
  pub memory : refusal ≡ Memory → new.write_failed ≡ old.write_failed

-- Why a request is refused by books that are not stopped. It was refused before anything changed,
-- or its edit is not known to be committed.
abbrev pub FailsToServe : Stamped → Seen → Seen → Refusal → Type 0
FailsToServe at old new refusal =
    (ChangesNothing old.state new.state
    × RefusesUnchanged old.forward at old.next_number old.state new.state refusal
    × KnowTheSame old new)
    ⊎ ((edit : Edit) × IsDecidedFor at old edit × KnowUnmade refusal old new
    × ((change : Change) × (change.edit ≡ Some edit)
    × ((prior : ℕ) × IsChangeRead old.forward at old.next_number old.state change prior
    × FailsToEdit old.been edit prior old.state new.state refusal)))

-- the office served the request, and the books hold the office after it; or no memory was found,
-- and they hold the office from before; or the store failed, and may be opened again with either,
-- while the next number is that of the office from before
abbrev pub ServingEnds : BlockFunction → Office → Stamped → Result Answer Refusal → Seen → Type 0
ServingEnds forward o at answer new =
    ((answer ≡ reply forward o at) × HoldsOffice (step forward o at) new)
    ⊎ (((answer ≡ Err Memory) × HoldsOffice o new)
    ⊎ ((answer ≡ Err Store) × MayBeLeft new.state o (step forward o at)
    × (new.next_number ≡ length o.sales + 1)))
