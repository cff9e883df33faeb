-- Faults that are told on.
use Rattle.std.proofs.Common.{◌≡◌, ◌≢◌, ◌≤◌, List, Result, Ok, Err, inl, inr, length, sym, subst}
use Rattle.std.specs.Prelude.{IfErr, IsErrAnd}
use Rattle.tariff.specs.declared.fault.StepsFault.{StepsFault}
use Rattle.tariff.specs.declared.fault.StepsFault.TheVariants as steps_fault
use Rattle.office_rules.specs.Office.{Office}
use Rattle.office_rules.specs.declared.office.shift.Shift.{Shift}
use Rattle.audit_rows.specs.declared.finding.Finding.{Finding}
use Rattle.audit_rows.specs.declared.office_rows.OfficeRows.{OfficeRows}
use Rattle.audit_lists.specs.Ties.{IsFirst, IsTieKept, Says}
use Rattle.audit_lists.specs.declared.fault.OfficeFault.{OfficeFault}
use Rattle.audit_lists.specs.declared.fault.OfficeFault.TheVariants as fault
use Rattle.audit_lists.specs.reached.Finds.{AreRowsOfOffice, TellsUnreached, closed_first}
use Rattle.audit_lists.specs.reached.Prices.{told_of_steps}
use Rattle.audit_lists.specs.reached.Walk.{TellsSale}

-- the same fault, as `?` hands it on
pub told_on : {T : Type 0} (P : OfficeFault → Type 0) (r : Result T OfficeFault) (e : OfficeFault) → IsErrAnd r (λ y. y ≡ e) → P e → IfErr r P
told_on P (Ok x) e is p = tt
told_on P (Err y) e is p = subst P (sym is) p

-- a fault says what follows from what it says
pub says_weaker : (P Q : Finding → Type 0) (e : OfficeFault) → ((f : Finding) → P f → Q f) → Says P e → Says Q e
says_weaker P Q (fault.Found f) weaker says = weaker f says
says_weaker P Q fault.Memory weaker says = tt

-- what is told of steps that are not made is of steps that no tariff may have, or there was no
-- memory
pub says_steps : (P : Type 0) (f : Finding) (why : StepsFault) → (why ≢ steps_fault.Memory → P) → Says (λ _. P) (told_of_steps f why)
says_steps P f steps_fault.NoStep other = other (λ e. cc)
says_steps P f steps_fault.TooMany other = other (λ e. cc)
says_steps P f steps_fault.NotRising other = other (λ e. cc)
says_steps P f steps_fault.BadPrice other = other (λ e. cc)
says_steps P f steps_fault.EndMissing other = other (λ e. cc)
says_steps P f steps_fault.Memory other = tt
says_steps P f steps_fault.BadText other = other (λ e. cc)

-- a fault where the rows are no office's, or there was no memory
pub tells_sale : (r : OfficeRows) (e : OfficeFault) → 1 ≤ length r.sales.items → Says (λ _. (o : Office) → ¬ AreRowsOfOffice r o) e → TellsSale r e
tells_sale r (fault.Found f) some none = λ o are. absurd (none o are)
tells_sale r fault.Memory some none = some

-- ---- what is told of all rows

-- the shifts of an office keep their rule where those of its rows do
pub shifts_kept : (r : OfficeRows) (o : Office) → AreRowsOfOffice r o → IsTieKept (closed_first r.shifts.items) → IsTieKept (closed_first o.shifts)
shifts_kept r o are kept = subst (λ (l : List Shift). IsTieKept (closed_first l)) are.members.shifts kept

-- what is told of the shifts is told of the rows that no requests lead to
pub tells_shift : (r : OfficeRows) (f : Finding) → IsFirst (closed_first r.shifts.items) f → TellsUnreached r (fault.Found f)
tells_shift r f first o are = inl (subst (λ (l : List Shift). IsFirst (closed_first l) f) are.members.shifts first)

-- and so is what is told of the sales, where the shifts keep their rule
pub tells_sales : (r : OfficeRows) → IsTieKept (closed_first r.shifts.items) → (e : OfficeFault) → TellsSale r e → TellsUnreached r e
tells_sales r kept (fault.Found f) first = λ o are. inr (shifts_kept r o are kept, first o are)
tells_sales r kept fault.Memory some = (kept, some)
