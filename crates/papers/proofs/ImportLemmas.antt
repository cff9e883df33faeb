-- Files that are read so far, and their first faults.
use Rattle.std.proofs.Common.{◌≡◌, ◌≢◌, ◌∙◌, ◌+◌, ◌-◌, ◌<◌, ◌≤◌, ℕ, zero, suc, [], ◌∷◌, ◌++◌, List, length, get_or, slice_get, Some, Result, Ok, Err, Bool, true, false, ap, inl, inr, refl, subst, arith, sym, length-append}
use Rattle.std.specs.Prelude.{◌==◌}
use Rattle.std.specs.Result.{IfErr, IsErrAnd, OnOk, is_ok}
use Rattle.papers.specs.File.{Fields, IsFirstOutside, IsFromText, IsTariffText, KeepsRuleAt, RecordSays, RecordSaysTariff, base_text, header_of, kind_of}
use Rattle.papers.specs.Import.{AreRowsIn, AreSaid, HasCause, HasForm, FileHasFault, IsFault, IsFirstFault, IsNoRow, IsReading, IsRowAt, IsRowFault, TakesRoom}
use Rattle.papers.specs.declared.row_fault.RowFault.{RowFault}
use Rattle.papers.specs.declared.row_fault.RowFault.TheVariants.{At, Memory}
use Rattle.office_rules.specs.Name.{IsName}
use Rattle.office_rules.specs.Office.Rows.{greatest_rows}
use Rattle.papers.specs.declared.file_form.FileForm.{FileForm}
use Rattle.papers.specs.declared.file_form.FileForm.TheVariants.{Meters, Tariffs, DatedTariffs}
use Rattle.papers.specs.declared.file_kind.FileKind.{FileKind}
use Rattle.papers.specs.declared.file_kind.FileKind.TheVariants as kinds
use Rattle.sts_fields.specs.Day.{IsDayText}
use Rattle.tariff.specs.declared.step.Step.{Step}
use Rattle.office_rules.specs.declared.office.row.Row.{Row}
use Rattle.office_rules.specs.declared.office.row.Row.TheVariants.{Tariff, Meter, Steps}
use Rattle.office_rules.specs.declared.decision.row_cause.RowCause.{RowCause}
use Rattle.office_rules.specs.declared.decision.row_cause.RowCause.TheVariants.{Header, Columns, Field, TooManyRows, Differs, NoTariff, DayPast}

-- forms differ by how many fields their headers have
pub same-form : (a b : FileForm) → length (header_of a) ≡ length (header_of b) → a ≡ b
same-form Meters Meters same = refl
same-form Meters Tariffs same = absurd (omega (arith, same))
same-form Meters DatedTariffs same = absurd (omega (arith, same))
same-form Tariffs Meters same = absurd (omega (arith, same))
same-form Tariffs Tariffs same = refl
same-form Tariffs DatedTariffs same = absurd (omega (arith, same))
same-form DatedTariffs Meters same = absurd (omega (arith, same))
same-form DatedTariffs Tariffs same = absurd (omega (arith, same))
same-form DatedTariffs DatedTariffs same = refl

-- so a file has one form
pub one-form : (kind other : FileKind) (records : List Fields) (a b : FileForm) → HasForm kind records a → HasForm other records b → a ≡ b
one-form kind other records a b h k =
    let headers : header_of a ≡ header_of b = cc in
    same-form a b (ap length headers)

-- a record that says a row has the fields of the header, and each keeps its rule
pub says-count : (form : FileForm) (fields : Fields) (row : Row) → RecordSays form fields row → length fields ≡ length (header_of form)
says-count Meters fields (Meter number m) says = rw says.four
says-count Meters fields (Tariff name steps) says = absurd says
says-count Meters fields (Steps name day steps) says = absurd says
says-count Tariffs fields (Meter number m) says = absurd says
says-count Tariffs fields (Tariff name steps) says = rw says.are
says-count Tariffs fields (Steps name day steps) says = absurd says
says-count DatedTariffs fields (Meter number m) says = absurd says
says-count DatedTariffs fields (Tariff name steps) says = rw says.are
says-count DatedTariffs fields (Steps name day steps) says = rw says.2.are

-- of a record that says a tariff behind a first day or none
dated-rules : (fields : Fields) (from name : List ℕ) (steps : List Step) (place : ℕ) → RecordSaysTariff fields (from ∷ []) name steps → IsFromText from
    → place < length fields → KeepsRuleAt DatedTariffs fields place
dated-rules fields from name steps place says dated within = rw says.are (at place (rw says.are at within))
  where
    at : (place : ℕ) → place < 3 → KeepsRuleAt DatedTariffs (name ∷ says.steps_text ∷ from ∷ []) place
    at zero h = says.named
    at (suc zero) h = (steps, says.written, says.priced)
    at (suc (suc zero)) h = dated
    at (suc (suc (suc n))) h = absurd (omega (arith, h))

-- each field of a record that says a row keeps its rule
pub says-rules : (form : FileForm) (fields : Fields) (row : Row) (place : ℕ) → RecordSays form fields row → place < length fields
    → KeepsRuleAt form fields place
says-rules Meters fields (Meter number m) place says within = rw says.four (at place (rw says.four at within))
  where
    at : (place : ℕ) → place < 4 → KeepsRuleAt Meters (number ∷ base_text m.base ∷ m.tariff ∷ says.key_text ∷ []) place
    at zero h = says.numbered
    at (suc zero) h = (m.base, refl)
    at (suc (suc zero)) h = says.named
    at (suc (suc (suc zero))) h = says.keyed.digits
    at (suc (suc (suc (suc n)))) h = absurd (omega (arith, h))
says-rules Meters fields (Tariff name steps) place says within = absurd says
says-rules Meters fields (Steps name day steps) place says within = absurd says
says-rules Tariffs fields (Meter number m) place says within = absurd says
says-rules Tariffs fields (Tariff name steps) place says within = rw says.are (at place (rw says.are at within))
  where
    at : (place : ℕ) → place < 2 → KeepsRuleAt Tariffs (name ∷ says.steps_text ∷ []) place
    at zero h = says.named
    at (suc zero) h = (steps, says.written, says.priced)
    at (suc (suc n)) h = absurd (omega (arith, h))
says-rules Tariffs fields (Steps name day steps) place says within = absurd says
says-rules DatedTariffs fields (Meter number m) place says within = absurd says
says-rules DatedTariffs fields (Tariff name steps) place says within = dated-rules fields [] name steps place says (inl refl) within
says-rules DatedTariffs fields (Steps name day steps) place says within = dated-rules fields says.0 name steps place says.2 (inr (day, says.1)) within

-- so there is no cause to refuse it
no-cause : (form : FileForm) (fields : Fields) (row : Row) (cause : RowCause) → RecordSays form fields row → ¬ HasCause form fields cause
no-cause form fields row Header says h = h
no-cause form fields row Columns says h = h (says-count form fields row says)
no-cause form fields row (Field k) says h = h.1.outside (says-rules form fields row (k - 1) says (omega (arith, h.1.from_one, h.1.within)))
no-cause form fields row TooManyRows says h = h
no-cause form fields row Differs says h = h
no-cause form fields row NoTariff says h = h
no-cause form fields row DayPast says h = h

-- of a record of tariffs with a good name the steps are the first field outside its rule
pub steps-outside : (form : FileForm) (fields : Fields) → kind_of form ≡ kinds.Tariffs → length fields ≡ length (header_of form) → IsName (get_or fields 0 [])
    → ¬ IsTariffText (get_or fields 1 []) → IsFirstOutside form fields 2
steps-outside Meters fields tariffs count named wrong = absurd cc
steps-outside Tariffs fields tariffs count named wrong = record { from_one = omega arith; within = omega (arith, count); outside = wrong; before = first }
  where
    first : (place : ℕ) → place < 1 → KeepsRuleAt Tariffs fields place
    first zero h = named
    first (suc n) h = absurd (omega (arith, h))
steps-outside DatedTariffs fields tariffs count named wrong = record { from_one = omega arith; within = omega (arith, count); outside = wrong; before = first }
  where
    first : (place : ℕ) → place < 1 → KeepsRuleAt DatedTariffs fields place
    first zero h = named
    first (suc n) h = absurd (omega (arith, h))

-- and of one with good steps, a first day that is none
pub from-outside : (fields rest : Fields) (name : List ℕ) (steps : List Step) → RecordSaysTariff fields rest name steps → length fields ≡ 3
    → ¬ IsFromText (get_or fields 2 []) → IsFirstOutside DatedTariffs fields 3
from-outside fields rest name steps says count wrong = record {
  from_one = omega arith;
  within = omega (arith, count);
  outside = wrong;
  before = λ place below. rw says.are (first place below);
}
  where
    first : (place : ℕ) → place < 2 → KeepsRuleAt DatedTariffs (name ∷ says.steps_text ∷ rest) place
    first zero h = says.named
    first (suc zero) h = (steps, says.written, says.priced)
    first (suc (suc n)) h = absurd (omega (arith, h))

-- which is neither nothing nor a day
pub no-from : (text : List ℕ) → text ≢ [] → ((day : ℕ) → ¬ IsDayText text day) → ¬ IsFromText text
no-from text some none h = elim h [ inl empty ↦ some empty | inr dated ↦ none dated.0 dated.1 ]

-- a text whose length is found not to be zero is not empty
pub not-empty : (found : Bool) (text : List ℕ) → found ≡ (length text == 0) → found ≡ false → text ≢ []
not-empty found [] is full none = cc
not-empty found (c ∷ text) is full none = cc

-- one more record that says one more row
AreSaid-more : (form : FileForm) (records : List Fields) (rows : List Row) (fields : Fields) (row : Row)
    → AreSaid form records rows → RecordSays form fields row → AreSaid form (records ++ fields ∷ []) (rows ++ row ∷ [])
unfolding AreSaid
AreSaid-more form [] [] fields row said says = (says, tt)
AreSaid-more form [] (r ∷ rows) fields row said says = absurd said
AreSaid-more form (f ∷ records) [] fields row said says = absurd said
AreSaid-more form (f ∷ records) (r ∷ rows) fields row said says = (said.0, AreSaid-more form records rows fields row said.1 says)

-- as many records as rows
pub said-count : (form : FileForm) (records : List Fields) (rows : List Row) → AreSaid form records rows → length records ≡ length rows
unfolding AreSaid
said-count form [] [] said = refl
said-count form [] (r ∷ rows) said = absurd said
said-count form (f ∷ records) [] said = absurd said
said-count form (f ∷ records) (r ∷ rows) said = omega (arith, said-count form records rows said.1)

-- the record at a place says a row
said-at : (form : FileForm) (records : List Fields) (rows : List Row) (more : List Fields) (i : ℕ) (fields : Fields)
    → AreSaid form records rows → i < length records → slice_get (records ++ more) i ≡ Some fields → (row : Row) × RecordSays form fields row
unfolding AreSaid
said-at form [] rows more i fields said within there = absurd (omega (arith, within))
said-at form (f ∷ records) [] more i fields said within there = absurd said
said-at form (f ∷ records) (r ∷ rows) more zero fields said within there = let same : f ≡ fields = cc in (r, rw (← same) said.0)
said-at form (f ∷ records) (r ∷ rows) more (suc i) fields said within there = said-at form records rows more i fields said.1 (omega (arith, within)) there

-- where each record says a row, none is the fault of a row
says-none : (form : FileForm) (body more : List Fields) (rows : List Row) (earlier : ℕ) (other : RowCause) → AreSaid form body rows
    → earlier < length body + 1 → ¬ IsNoRow (kind_of form) (header_of form ∷ (body ++ more)) earlier other
says-none form body more rows zero other said within h = omega (arith, h.3.from_one)
says-none form body more rows (suc i) other said within h =
    let row = said-at form body rows more i h.2 said (omega (arith, within)) h.3.there in
    let mine : HasForm (kind_of form) (header_of form ∷ (body ++ more)) form = record { of_kind = refl; headed = refl } in
    let same = one-form _ _ _ h.0 form h.1 mine in
    no-cause form h.2 row.0 other row.1 (rw same at h.4)

-- rows that were read have no fault
pub no-fault-within : (form : FileForm) (body more : List Fields) (rows : List Row) (earlier : ℕ) (other : RowCause) → AreSaid form body rows
    → length rows ≤ greatest_rows → earlier < length body + 1 → ¬ FileHasFault (kind_of form) (header_of form ∷ (body ++ more)) earlier other
no-fault-within form body more rows earlier Header said few within h = h.1 form (record { of_kind = refl; headed = refl })
no-fault-within form body more rows earlier Columns said few within h = says-none form body more rows earlier Columns said within h
no-fault-within form body more rows earlier (Field k) said few within h = says-none form body more rows earlier (Field k) said within h
no-fault-within form body more rows earlier TooManyRows said few within h = omega (arith, h.0, within, few, said-count form body rows said)
no-fault-within form body more rows earlier Differs said few within h = h
no-fault-within form body more rows earlier NoTariff said few within h = h
no-fault-within form body more rows earlier DayPast said few within h = h

-- a file that was read so far has no fault before what comes next
no-fault-before : (form : FileForm) (before more : List Fields) (rows : List Row) (earlier : ℕ) (other : RowCause)
    → AreRowsIn form before rows → earlier < length before → ¬ FileHasFault (kind_of form) (before ++ more) earlier other
no-fault-before form before more rows earlier other so_far within =
    let P : List Fields → Type 0 = λ records. earlier < length records → ¬ FileHasFault (kind_of form) (records ++ more) earlier other in
    subst P (sym so_far.headed) (λ h. no-fault-within form so_far.body more rows earlier other so_far.said so_far.few (omega (arith, h))) within

-- a fault of what comes next is the first one
first-fault : (form : FileForm) (before more : List Fields) (rows : List Row) (number : ℕ) (cause : RowCause) → AreRowsIn form before rows
    → number ≡ length before → FileHasFault (kind_of form) (before ++ more) number cause → IsFirstFault (kind_of form) (before ++ more) number cause
first-fault form before more rows number cause so_far at here = record {
  here = here;
  before = λ earlier other less. no-fault-before form before more rows earlier other so_far (omega (arith, less, at));
}

-- how many rows were read so far, behind the header
pub read-count : (form : FileForm) (before : List Fields) (rows : List Row) → AreRowsIn form before rows
    → (length before ≡ length rows + 1) × (length rows ≤ greatest_rows)
read-count form before rows so_far = (ap length so_far.headed ∙ omega (arith, said-count form so_far.body rows so_far.said), so_far.few)

-- so such a file has a record
pub some-record : (form : FileForm) (before more : List Fields) (rows : List Row) → AreRowsIn form before rows → 0 < length (before ++ more)
some-record form before more rows so_far = let count = read-count form before rows so_far in omega (arith, count.0, length-append before more)

-- the record behind some others
slice_get-behind : (before after : List Fields) (fields : Fields) (number : ℕ) → number ≡ length before
    → slice_get (before ++ fields ∷ after) number ≡ Some fields
slice_get-behind [] after fields number at = rw at refl
slice_get-behind (f ∷ before) after fields zero at = absurd (omega (arith, at))
slice_get-behind (f ∷ before) after fields (suc number) at = slice_get-behind before after fields number (omega (arith, at))

-- a file that was read so far has its form, whatever comes next
form-before : (form : FileForm) (before more : List Fields) (rows : List Row) → AreRowsIn form before rows → HasForm (kind_of form) (before ++ more) form
form-before form before more rows so_far = record {
  of_kind = refl;
  headed = ap (λ records. slice_get (records ++ more) 0) so_far.headed;
}

-- the header begins a file
pub header-read : (form : FileForm) (fields : Fields) → fields ≡ header_of form → AreRowsIn form (fields ∷ []) []
unfolding AreSaid
header-read form fields header = record { body = []; headed = rw header; said = tt; few = omega arith }

-- a record in its place that is no header of the kind is a fault
pub header-missing : (kind : FileKind) (fields : Fields) (after : List Fields) → ((form : FileForm) → kind_of form ≡ kind → fields ≢ header_of form)
    → IsFirstFault kind (fields ∷ after) 0 Header
header-missing kind fields after other = record {
  here = (refl, λ form has. let equal : fields ≡ header_of form = let there = has.headed in cc in other form has.of_kind equal);
  before = λ earlier cause less. absurd (omega (arith, less));
}

-- so is a record behind the last row
pub one-too-many : (form : FileForm) (before after : List Fields) (rows : List Row) (fields : Fields) (number : ℕ) → AreRowsIn form before rows
    → number ≡ length before → greatest_rows < number → IsFirstFault (kind_of form) (before ++ fields ∷ after) number TooManyRows
one-too-many form before after rows fields number so_far at many =
    let count = read-count form before rows so_far in
    let behind = length-append before (fields ∷ after) in
    first-fault form before (fields ∷ after) rows number TooManyRows so_far at (omega (arith, at, many, count.0, count.1), omega (arith, at, behind))

-- and one that says no row
pub no-row : (form : FileForm) (before after : List Fields) (rows : List Row) (fields : Fields) (number : ℕ) (cause : RowCause) → AreRowsIn form before rows
    → number ≡ length before → number ≤ greatest_rows → HasCause form fields cause → IsFirstFault (kind_of form) (before ++ fields ∷ after) number cause
no-row form before after rows fields number cause so_far at few has =
    let count = read-count form before rows so_far in
    let there = slice_get-behind before after fields number at in
    let row : IsRowAt (before ++ fields ∷ after) number fields = record { from_one = omega (arith, at, count.0); few = few; there = there } in
    let mine = form-before form before (fields ∷ after) rows so_far in
    first-fault form before (fields ∷ after) rows number cause so_far at (fault cause mine row has)
  where
    fault : (cause : RowCause) → HasForm (kind_of form) (before ++ fields ∷ after) form → IsRowAt (before ++ fields ∷ after) number fields
        → HasCause form fields cause → FileHasFault (kind_of form) (before ++ fields ∷ after) number cause
    fault Header mine row h = absurd h
    fault Columns mine row h = (form, mine, fields, row, h)
    fault (Field k) mine row h = (form, mine, fields, row, h)
    fault TooManyRows mine row h = absurd h
    fault Differs mine row h = absurd h
    fault NoTariff mine row h = absurd h
    fault DayPast mine row h = absurd h

-- a name and steps that are good take room, and so does a record that says a row
pub steps-take : (form : FileForm) (fields : Fields) → kind_of form ≡ kinds.Tariffs → length fields ≡ length (header_of form) → IsName (get_or fields 0 [])
    → IsTariffText (get_or fields 1 []) → TakesRoom form fields
steps-take Meters fields tariffs count named priced = cc
steps-take Tariffs fields tariffs count named priced = record { count = count; good = good }
  where
    good : (place : ℕ) → place < 2 → KeepsRuleAt Tariffs fields place
    good zero h = named
    good (suc zero) h = priced
    good (suc (suc n)) h = absurd (omega (arith, h))
steps-take DatedTariffs fields tariffs count named priced = record { count = count; good = good }
  where
    good : (place : ℕ) → place < 2 → KeepsRuleAt DatedTariffs fields place
    good zero h = named
    good (suc zero) h = priced
    good (suc (suc n)) h = absurd (omega (arith, h))

-- the same of the fault that a row has
pub row-fault : (form : FileForm) (before after : List Fields) (rows : List Row) (fields : Fields) (number : ℕ) (fault : RowFault) → AreRowsIn form before rows
    → number ≡ length before → number ≤ greatest_rows → IsRowFault form fields number fault → IsFault (kind_of form) (before ++ fields ∷ after) fault
row-fault form before after rows fields number (At row cause) so_far at few h = rw h.0 (no-row form before after rows fields number cause so_far at few h.1)
row-fault form before after rows fields number Memory so_far at few h = omega (arith, length-append before (fields ∷ after))

-- a record that says a row adds it
pub row-read : (form : FileForm) (before : List Fields) (rows : List Row) (fields : Fields) (row : Row) → AreRowsIn form before rows
    → length before ≤ greatest_rows → RecordSays form fields row → AreRowsIn form (before ++ fields ∷ []) (rows ++ row ∷ [])
row-read form before rows fields row so_far few says =
    let count = read-count form before rows so_far in
    let longer = length-append rows (row ∷ []) in
    record {
      body = so_far.body ++ fields ∷ [];
      headed = ap (λ records. records ++ fields ∷ []) so_far.headed;
      said = AreSaid-more form so_far.body rows fields row so_far.said says;
      few = omega (arith, few, count.0, longer);
    }

-- a file without a record has no header
pub no-header : (kind : FileKind) → IsFirstFault kind [] 0 Header
no-header kind = record { here = (refl, λ form has. let there = has.headed in cc); before = λ earlier other less. absurd (omega (arith, less)) }

-- what holds where a result is a value
pub on_ok : {T E P : Type 0} (r : Result T E) → (is_ok r ≡ true → P) → OnOk r P
on_ok (Ok x) f = f refl
on_ok (Err e) f = tt

-- and where it is an error, which is that of a callee
pub if_err : {T : Type 0} (r : Result T RowFault) (fault : RowFault) (P : RowFault → Type 0) → IsErrAnd r (λ e. e ≡ fault) → P fault → IfErr r P
if_err (Ok x) fault P is holds = absurd is
if_err (Err e) fault P is holds = subst P (sym is) holds

-- what a reading answers then
pub reading_err : (r : Result (List Row) RowFault) (fault : RowFault) (kind : FileKind) (records : List Fields)
    → IsErrAnd r (λ e. e ≡ fault) → IsFault kind records fault → IsReading kind records r
reading_err (Ok rows) fault kind records is holds = absurd is
reading_err (Err e) fault kind records is holds = subst (IsFault kind records) (sym is) holds
