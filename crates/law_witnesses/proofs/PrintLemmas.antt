-- The text of pages, and what commands printed.
use Rattle.std.proofs.Common.{◌≡◌, Bool, false, true, [], ◌∷◌, Some, append-nil, subst}
use Rattle.book_states.specs.declared.lookup.Found.{Found}
use Rattle.desk_commands.specs.print.ListTexts.{page_text, pages_text}
use Rattle.sts_fields.specs.Text.{Text}
use Rattle.vend_ports.specs.print.Sink.{Held, Sink}
use Rattle.vend_ports.specs.print.Told.{IsTaken, Outputs, Takes}
use Rattle.law_witnesses.specs.Printed.{HasPrinted}

-- one page alone is its text
pub one_page : (page : Found) → pages_text false (page ∷ []) ≡ page_text false true page
one_page page = append-nil (page_text false true page)

-- where no write failed, an empty writer holds the text that it was given
pub taken_whole : (old new : Sink) (text printed : Text) → Takes old new text → old.held ≡ Some [] → old.failed ≡ false → new.failed ≡ false
    → new.held ≡ Some printed → printed ≡ text
taken_whole old new text printed takes empty sound whole held =
    let Was : Bool → Type 0 = λ was. IsTaken was new.failed old.held new.held text in
    let Is : Bool → Type 0 = λ is. IsTaken false is old.held new.held text in
    let Old : Held → Type 0 = λ before. IsTaken false false before new.held text in
    let New : Held → Type 0 = λ after. IsTaken false false (Some []) after text in
    subst New held (subst Old empty (subst Is whole (subst Was sound takes.taken)))

-- a command printed what it gave its output
pub printed_is : {Did : Outputs → Type 0} (printed text : Text) (it : HasPrinted Did printed) → Takes it.o.old it.o.new text → printed ≡ text
printed_is printed text it takes = taken_whole it.o.old it.o.new text printed takes it.before it.sound it.whole it.after
