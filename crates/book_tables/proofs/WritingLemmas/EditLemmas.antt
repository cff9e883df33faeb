-- The rows after an edit are the members of the office after it.
use Rattle.std.proofs.Common.{◌≡◌, ◌≢◌, false, List, [], ◌∷◌, ◌++◌, None, refl, sym, ap, true≢false}
use Rattle.std.specs.Prelude.{map}
use Rattle.std.proofs.lemmas.Bool.{false≢true}
use Rattle.office_rules.specs.Decision.Edits.{applied, with_row, with_rows}
use Rattle.office_rules.specs.Office.{Office, empty_office}
use Rattle.office_rules.specs.Law.Store.{MeetRows, Meets, MeetsRow}
use Rattle.office_rules.specs.declared.decision.change.Edit.{Edit}
use Rattle.office_rules.specs.declared.decision.change.Edit.TheVariants as edits
use Rattle.office_rules.specs.declared.office.row.Row.{Row}
use Rattle.office_rules.specs.declared.office.row.Row.TheVariants as kinds
use Rattle.book_tables.specs.writing.Edited.{edited, is_sale, no_rows, row_added, rows_added, shift_closed}
use Rattle.book_tables.specs.row.Rows.{Rows}
use Rattle.book_tables.specs.Stands.{AreApart, AreDatedApart, AreMembersOf, AreRowsOf, AreTotalsOf}
use Rattle.book_tables.proofs.ListLemmas.{contains_none, no_pairs}
use Rattle.book_tables.proofs.WritingLemmas.MeterEditLemmas.{base_moved, key_set, meter_added, tariff_set}
use Rattle.book_tables.proofs.WritingLemmas.PutLemmas.{none_some, same_totals}
use Rattle.book_tables.proofs.WritingLemmas.TariffEditLemmas.{steps_added, tariff_added}
use Rattle.book_tables.proofs.WritingLemmas.WithdrawEditLemmas.{steps_withdrawn}

-- ---- every edit

row_members : (rows : Rows) (o : Office) (row : Row) → AreMembersOf rows o → MeetsRow row o → AreMembersOf (row_added row rows) (with_row row o)
row_members rows o (kinds.Tariff name steps) are meets = tariff_added rows o are name steps meets.2
row_members rows o (kinds.Steps name day steps) are meets = steps_added rows o are name day steps meets.free
row_members rows o (kinds.Meter number m) are meets = meter_added rows o are number m meets.free (meets.no_base m.base)

rows_members : (new : List Row) (rows : Rows) (o : Office) → AreMembersOf rows o → MeetRows new o → AreMembersOf (rows_added new rows) (with_rows new o)
rows_members [] rows o are meet = are
rows_members (row ∷ new) rows o are meet = rows_members new (row_added row rows) (with_row row o) (row_members rows o row are meet.0) meet.1

-- after any edit but a sale, the rows are the members of the office that it makes
pub edited_members : (rows : Rows) (o : Office) (edit : Edit) → AreMembersOf rows o → Meets edit o → is_sale edit ≡ false
    → AreMembersOf (edited edit rows) (applied edit o)
edited_members rows o (edits.AddTariff name steps) are meets no_sale = row_members rows o (kinds.Tariff name steps) are meets
edited_members rows o (edits.AddSteps name day steps) are meets no_sale = row_members rows o (kinds.Steps name day steps) are meets
edited_members rows o (edits.WithdrawSteps name day) are meets no_sale = steps_withdrawn rows o are name day
edited_members rows o (edits.AddMeter number m) are meets no_sale = row_members rows o (kinds.Meter number m) are meets
edited_members rows o (edits.AddRows new) are meets no_sale = rows_members new rows o are meets.1
edited_members rows o (edits.SetTariff number name) are meets no_sale = tariff_set rows o are number name
edited_members rows o (edits.MoveBase number base) are meets no_sale = base_moved rows o are number base meets.no_base
edited_members rows o (edits.SetKey number key) are meets no_sale = key_set rows o are number key
edited_members rows o (edits.OpenShift s) are meets no_sale = record {
  tariffs = are.tariffs;
  steps = are.steps;
  meters = are.meters;
  bases = are.bases;
  dated_steps = are.dated_steps;
  shifts = ap (λ xs. xs ++ s ∷ []) are.shifts;
  sales = are.sales;
  totals = same_totals o.sales rows _ refl refl refl are.totals;
  tariffs_once = are.tariffs_once;
  steps_once = are.steps_once;
  meters_once = are.meters_once;
  bases_once = are.bases_once;
  dated_once = are.dated_once;
}
edited_members rows o (edits.CloseShift number moment) are meets no_sale = record {
  tariffs = are.tariffs;
  steps = are.steps;
  meters = are.meters;
  bases = are.bases;
  dated_steps = are.dated_steps;
  shifts = ap (map (shift_closed number moment)) are.shifts;
  sales = are.sales;
  totals = same_totals o.sales rows _ refl refl refl are.totals;
  tariffs_once = are.tariffs_once;
  steps_once = are.steps_once;
  meters_once = are.meters_once;
  bases_once = are.bases_once;
  dated_once = are.dated_once;
}
edited_members rows o (edits.AddSale s) are meets no_sale = absurd (true≢false no_sale)

none_of : {K V : Type 0} → AreRowsOf {K = K} {V = V} [] (λ _. None)
none_of = record {
  members = λ key value. (λ e. absurd (none_some None value refl e), λ there. absurd (contains_none (key, value) there));
  once = no_pairs (λ a b. a.0 ≢ b.0);
}

-- where the tables of totals have no rows, these are the totals of no sales
pub no_totals : (rows : Rows) → rows.last_ids ≡ [] → rows.month_tenths ≡ [] → rows.shift_totals ≡ [] → AreTotalsOf [] rows
no_totals rows ids months shifts = same_totals [] no_rows rows (sym ids) (sym months) (sym shifts)
    (record { last_ids = none_of; month_tenths = none_of; shift_totals = none_of; by_shift = tt })

-- no rows are the members of the empty office
pub no_members : AreMembersOf no_rows empty_office
no_members = record {
  tariffs = λ name. (λ some. absurd (false≢true some), λ there. absurd (contains_none name there));
  steps = λ r. (λ has. absurd (none_some None has.0 refl has.1), λ there. absurd (contains_none r there));
  meters = λ number m. (λ e. absurd (none_some None m refl e), λ there. absurd (contains_none (number, m) there));
  bases = λ number base. (λ e. absurd (false≢true e), λ there. absurd (contains_none (number, base) there));
  dated_steps = λ r. (λ has. absurd (none_some None has.0 refl has.1), λ there. absurd (contains_none r there));
  shifts = refl;
  sales = refl;
  totals = no_totals no_rows refl refl refl;
  tariffs_once = no_pairs (λ a b. a ≢ b);
  steps_once = no_pairs AreApart;
  meters_once = no_pairs (λ a b. a.0 ≢ b.0);
  bases_once = no_pairs (λ a b. a ≢ b);
  dated_once = no_pairs AreDatedApart;
}
