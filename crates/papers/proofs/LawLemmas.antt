-- A file has one reading.
use Rattle.std.proofs.Common.{◌≡◌, ◌∙◌, ◌+◌, ◌-◌, ◌<◌, ◌^◌, lit<, ℕ, zero, suc, [], ◌∷◌, List, length, slice_get, Some, None, ap, refl, sym, subst, arith}
use Rattle.std.proofs.lemmas.List.{append-nil}
use Rattle.csv.specs.Machine.{next_record}
use Rattle.csv.specs.Reading.{AreRecords, Reached, default_config}
use Rattle.csv.specs.declared.parser.State.{State}
use Rattle.std.proofs.lemmas.Fmt.{decimal_injective}
use Rattle.sts_fields.specs.Base.{year_of}
use Rattle.papers.proofs.ImportLemmas.{no-fault-within, one-form, same-form}
use Rattle.papers.specs.File.{Fields, IsFirstOutside, RecordSays, RecordSaysTariff, base_text, header_of, kind_of}
use Rattle.papers.specs.Import.{AreRows, AreSaid, FileHasFault, HasCause, IsFirstFault, IsNoRow}
use Rattle.papers.specs.declared.file_form.FileForm.{FileForm}
use Rattle.papers.specs.declared.file_form.FileForm.TheVariants.{Meters, Tariffs, DatedTariffs}
use Rattle.papers.specs.declared.file_kind.FileKind.{FileKind}
use Rattle.sts_fields.specs.declared.base.Base.{Base}
use Rattle.sts_fields.specs.declared.base.Base.TheVariants.{Y1993, Y2014, Y2035}
use Rattle.sts_fields.specs.Day.{IsDayText, iso_date}
use Rattle.tariff.specs.StepsText.{IsStepsText}
use Rattle.tariff.specs.declared.step.Step.{Step}
use Rattle.office_rules.specs.declared.office.row.Row.{Row}
use Rattle.office_rules.specs.declared.office.row.Row.TheVariants.{Tariff, Meter, Steps}
use Rattle.office_rules.specs.declared.decision.row_cause.RowCause.{RowCause}
use Rattle.office_rules.specs.declared.decision.row_cause.RowCause.TheVariants.{Header, Columns, Field, TooManyRows, Differs, NoTariff, DayPast}

-- a text has one list of records
pub one-list : (s : State) (xs : List ℕ) (a b : List Fields) → AreRecords default_config s xs a → AreRecords default_config s xs b → a ≡ b
unfolding Reached
one-list s xs [] [] p q = refl
one-list s xs [] (r ∷ b) p q = let none : next_record default_config s [] [] xs ≡ None = rw (p.2.0, p.2.1) p.3 in let some = q.2.1 in cc
one-list s xs (r ∷ a) [] p q = let none : next_record default_config s [] [] xs ≡ None = rw (q.2.0, q.2.1) q.3 in let some = p.2.1 in cc
one-list s xs (r ∷ a) (t ∷ b) p q =
    let first = p.2.1 in
    let second = q.2.1 in
    let same : q.2.0 ≡ p.2.0 = cc in
    let back : AreRecords default_config q.2.0.1 q.2.0.2 b = (q.0, q.1, q.2.3, q.3) in
    let rest : a ≡ b = one-list p.2.0.1 p.2.0.2 a b (p.0, p.1, p.2.3, p.3) (rw same at back) in
    let head : r ≡ t = p.2.2 ∙ ap (λ read. read.0) (sym same) ∙ sym q.2.2 in
    rw (head, rest)

-- where something stands at a place, the place is within
place-within : {X : Type 0} (xs : List X) (i : ℕ) (x : X) → slice_get xs i ≡ Some x → i < length xs
place-within [] i x there = cc
place-within (y ∷ xs) zero x there = omega arith
place-within (y ∷ xs) (suc i) x there = let less = place-within xs i x there in omega (arith, less)

-- a fault behind the header is at a record
row-within : (kind : FileKind) (head : Fields) (body : List Fields) (number : ℕ) (cause : RowCause) → FileHasFault kind (head ∷ body) number cause
    → number < length body + 1
row-within kind head body number Header h = omega (arith, h.0)
row-within kind head body number Columns h = let less = place-within (head ∷ body) number h.2 h.3.there in omega (arith, less)
row-within kind head body number (Field k) h = let less = place-within (head ∷ body) number h.2 h.3.there in omega (arith, less)
row-within kind head body number TooManyRows h = omega (arith, h.1)
row-within kind head body number Differs h = absurd h
row-within kind head body number NoTariff h = absurd h
row-within kind head body number DayPast h = absurd h

-- a file that has rows has no fault
pub no-fault : (kind : FileKind) (records : List Fields) (rows : List Row) (number : ℕ) (cause : RowCause) → AreRows kind records rows
    → ¬ FileHasFault kind records number cause
no-fault kind records rows number cause are =
    let form = are.0 in
    let P : List Fields → Type 0 = λ all. ¬ FileHasFault (kind_of form) all number cause in
    let none : P records = subst P (sym are.2.headed) (λ h.
    let within = row-within (kind_of form) (header_of form) are.2.body number cause h in
    no-fault-within form are.2.body [] rows number cause are.2.said are.2.few within (rw append-nil h)) in
    rw are.1 at none

-- two numbers of which neither comes first are one
neither-first : (a b : ℕ) → ¬ (a < b) → ¬ (b < a) → a ≡ b
neither-first a b not_before not_behind = omega (arith, not_before, not_behind)

-- the first field outside its rule is one
same-field : (form : FileForm) (fields : Fields) (j k : ℕ) → IsFirstOutside form fields j → IsFirstOutside form fields k → j ≡ k
same-field form fields j k a b =
    neither-first j k
    (λ less. a.outside (b.before (j - 1) (omega (arith, less, a.from_one))))
    (λ less. b.outside (a.before (k - 1) (omega (arith, less, b.from_one))))

-- two records at one place are one
same-fields : (records : List Fields) (number : ℕ) (f g : Fields) → slice_get records number ≡ Some f → slice_get records number ≡ Some g → f ≡ g
same-fields records number f g a b = cc

-- two causes at one number are those of one record in one form
same-row : (kind : FileKind) (records : List Fields) (n : ℕ) (c d : RowCause) (h : IsNoRow kind records n c) → IsNoRow kind records n d → HasCause h.0 h.2 d
same-row kind records n c d h k =
    let forms : k.0 ≡ h.0 = one-form kind kind records k.0 h.0 k.1 h.1 in
    let fields : k.2 ≡ h.2 = same-fields records n k.2 h.2 k.3.there h.3.there in
    rw (forms, fields) at k.4

-- at one number a file has one fault
same-cause : (kind : FileKind) (records : List Fields) (n : ℕ) (c d : RowCause) → FileHasFault kind records n c → FileHasFault kind records n d → c ≡ d
same-cause kind records n Header Header h k = refl
same-cause kind records n Header Columns h k = absurd (omega (arith, h.0, k.3.from_one))
same-cause kind records n Header (Field j) h k = absurd (omega (arith, h.0, k.3.from_one))
same-cause kind records n Header TooManyRows h k = absurd (omega (arith, h.0, k.0))
same-cause kind records n Header Differs h k = absurd k
same-cause kind records n Header NoTariff h k = absurd k
same-cause kind records n Header DayPast h k = absurd k
same-cause kind records n Columns Header h k = absurd (omega (arith, k.0, h.3.from_one))
same-cause kind records n Columns Columns h k = refl
same-cause kind records n Columns (Field j) h k = let other = same-row kind records n Columns (Field j) h k in absurd (h.4 other.0)
same-cause kind records n Columns TooManyRows h k = absurd (omega (arith, h.3.few, k.0))
same-cause kind records n Columns Differs h k = absurd k
same-cause kind records n Columns NoTariff h k = absurd k
same-cause kind records n Columns DayPast h k = absurd k
same-cause kind records n (Field i) Header h k = absurd (omega (arith, k.0, h.3.from_one))
same-cause kind records n (Field i) Columns h k = let other = same-row kind records n (Field i) Columns h k in absurd (other h.4.0)
same-cause kind records n (Field i) (Field j) h k =
    let other = same-row kind records n (Field i) (Field j) h k in
    ap (λ number. Field number) (same-field h.0 h.2 i j h.4.1 other.1)
same-cause kind records n (Field i) TooManyRows h k = absurd (omega (arith, h.3.few, k.0))
same-cause kind records n (Field i) Differs h k = absurd k
same-cause kind records n (Field i) NoTariff h k = absurd k
same-cause kind records n (Field i) DayPast h k = absurd k
same-cause kind records n TooManyRows Header h k = absurd (omega (arith, h.0, k.0))
same-cause kind records n TooManyRows Columns h k = absurd (omega (arith, k.3.few, h.0))
same-cause kind records n TooManyRows (Field j) h k = absurd (omega (arith, k.3.few, h.0))
same-cause kind records n TooManyRows TooManyRows h k = refl
same-cause kind records n TooManyRows Differs h k = absurd k
same-cause kind records n TooManyRows NoTariff h k = absurd k
same-cause kind records n TooManyRows DayPast h k = absurd k
same-cause kind records n Differs d h k = absurd h
same-cause kind records n NoTariff d h k = absurd h
same-cause kind records n DayPast d h k = absurd h

-- a file has one first fault
pub one-fault : (kind : FileKind) (records : List Fields) (n m : ℕ) (c d : RowCause)
    → IsFirstFault kind records n c → IsFirstFault kind records m d → (n ≡ m) × (c ≡ d)
one-fault kind records n m c d a b =
    let same = neither-first n m (λ less. b.before n c less a.here) (λ less. a.before m d less b.here) in
    let there = rw (← same) at b.here in
    (same, same-cause kind records n c d a.here there)

short : (base : Base) → year_of base < 2 ^ 64
short Y1993 = lit< tt
short Y2014 = lit< tt
short Y2035 = lit< tt

years : (a b : Base) → base_text a ≡ base_text b → year_of a ≡ year_of b
years a b e = decimal_injective (year_of a) (year_of b) (short a) (short b) e

base-same : (a b : Base) → base_text a ≡ base_text b → a ≡ b
base-same Y1993 Y1993 e = refl
base-same Y1993 Y2014 e = absurd (omega (arith, years Y1993 Y2014 e))
base-same Y1993 Y2035 e = absurd (omega (arith, years Y1993 Y2035 e))
base-same Y2014 Y1993 e = absurd (omega (arith, years Y2014 Y1993 e))
base-same Y2014 Y2014 e = refl
base-same Y2014 Y2035 e = absurd (omega (arith, years Y2014 Y2035 e))
base-same Y2035 Y1993 e = absurd (omega (arith, years Y2035 Y1993 e))
base-same Y2035 Y2014 e = absurd (omega (arith, years Y2035 Y2014 e))
base-same Y2035 Y2035 e = refl

-- a text of steps is that of one list of them
abbrev OneSteps : Type 0
OneSteps = (text : List ℕ) (steps others : List Step) → IsStepsText text steps → IsStepsText text others → steps ≡ others

-- and that of a day is that of one day
abbrev OneDay : Type 0
OneDay = (day other : ℕ) (text : List ℕ) → IsDayText text day → IsDayText text other → day ≡ other

-- a day has a text
no-day-text : (day : ℕ) → ¬ IsDayText [] day
unfolding iso_date
no-day-text day said = let none = said.written in cc

-- a record says one name, and steps, behind a day or none
record AreTheSame (from other name other_name : List ℕ) (steps others : List Step) : Type 0 where
  texts : from ≡ other
  names : name ≡ other_name
  lists : steps ≡ others

tariff-one : OneSteps → (fields : Fields) (from other name other_name : List ℕ) (steps others : List Step) → RecordSaysTariff fields (from ∷ []) name steps
    → RecordSaysTariff fields (other ∷ []) other_name others → AreTheSame from other name other_name steps others
tariff-one one fields from other name other_name steps others a b =
    let same = sym a.are ∙ b.are in
    let texts : b.steps_text ≡ a.steps_text = cc in
    record { texts = cc; names = cc; lists = one a.steps_text steps others a.written (rw texts at b.written) }

-- a record says one row
says-one : OneSteps → OneDay → (form : FileForm) (fields : Fields) (row other : Row) → RecordSays form fields row → RecordSays form fields other → row ≡ other
says-one one one_day Meters fields (Meter number m) (Meter number' m') a b =
    let same = sym a.four ∙ b.four in
    let numbers : number ≡ number' = cc in
    let bases = base-same m.base m'.base cc in
    let tariffs : m.tariff ≡ m'.tariff = cc in
    let texts : b.key_text ≡ a.key_text = cc in
    let keys : m.key ≡ m'.key = sym a.keyed.number ∙ rw texts at b.keyed.number in
    let meters : m ≡ m' = λ i. record { base = bases i; tariff = tariffs i; key = keys i } in
    cc
says-one one one_day Meters fields (Meter number m) (Tariff name steps) a b = absurd b
says-one one one_day Meters fields (Meter number m) (Steps name day steps) a b = absurd b
says-one one one_day Meters fields (Tariff name steps) other a b = absurd a
says-one one one_day Meters fields (Steps name day steps) other a b = absurd a
says-one one one_day Tariffs fields (Meter number m) other a b = absurd a
says-one one one_day Tariffs fields (Steps name day steps) other a b = absurd a
says-one one one_day Tariffs fields (Tariff name steps) (Meter number m) a b = absurd b
says-one one one_day Tariffs fields (Tariff name steps) (Steps name' day steps') a b = absurd b
says-one one one_day Tariffs fields (Tariff name steps) (Tariff name' steps') a b =
    let same = sym a.are ∙ b.are in
    let names : name ≡ name' = cc in
    let texts : b.steps_text ≡ a.steps_text = cc in
    let lists = one a.steps_text steps steps' a.written (rw texts at b.written) in
    cc
says-one one one_day DatedTariffs fields (Meter number m) other a b = absurd a
says-one one one_day DatedTariffs fields (Tariff name steps) (Meter number m) a b = absurd b
says-one one one_day DatedTariffs fields (Tariff name steps) (Tariff name' steps') a b =
    let same = tariff-one one fields [] [] name name' steps steps' a b in
    let names = same.names in
    let lists = same.lists in
    cc
says-one one one_day DatedTariffs fields (Tariff name steps) (Steps name' day steps') a b =
    let same = tariff-one one fields [] b.0 name name' steps steps' a b.2 in
    absurd (no-day-text day (rw (← same.texts) at b.1))
says-one one one_day DatedTariffs fields (Steps name day steps) (Meter number m) a b = absurd b
says-one one one_day DatedTariffs fields (Steps name day steps) (Tariff name' steps') a b =
    let same = tariff-one one fields a.0 [] name name' steps steps' a.2 b in
    absurd (no-day-text day (rw same.texts at a.1))
says-one one one_day DatedTariffs fields (Steps name day steps) (Steps name' day' steps') a b =
    let same = tariff-one one fields a.0 b.0 name name' steps steps' a.2 b.2 in
    let days = one_day day day' b.0 (rw same.texts at a.1) b.1 in
    let names = same.names in
    let lists = same.lists in
    cc

said-one : OneSteps → OneDay → (form : FileForm) (records : List Fields) (rows others : List Row) → AreSaid form records rows
    → AreSaid form records others → rows ≡ others
unfolding AreSaid
said-one one one_day form [] [] [] a b = refl
said-one one one_day form [] [] (r ∷ others) a b = absurd b
said-one one one_day form [] (r ∷ rows) others a b = absurd a
said-one one one_day form (f ∷ records) [] others a b = absurd a
said-one one one_day form (f ∷ records) (r ∷ rows) [] a b = absurd b
said-one one one_day form (f ∷ records) (r ∷ rows) (s ∷ others) a b =
    let head = says-one one one_day form f r s a.0 b.0 in
    let rest = said-one one one_day form records rows others a.1 b.1 in
    cc

-- a file has one list of rows
pub one-rows : OneSteps → OneDay → (kind : FileKind) (records : List Fields) (rows others : List Row) → AreRows kind records rows
    → AreRows kind records others → rows ≡ others
one-rows one one_day kind records rows others a b =
    let headed = sym a.2.headed ∙ b.2.headed in
    let headers : header_of b.0 ≡ header_of a.0 = cc in
    let forms : b.0 ≡ a.0 = same-form b.0 a.0 (ap length headers) in
    let bodies : b.2.body ≡ a.2.body = cc in
    said-one one one_day a.0 a.2.body rows others a.2.said (rw (forms, bodies) at b.2.said)
