-- Each table of the office by its name, whatever its place in the list of all.
use Rattle.std.proofs.Common.{List, [], ◌∷◌, inl, inr, refl}
use Rattle.std.specs.List.{AllByRecursion}
use Rattle.sqlite_keyed.proofs.ListLemmas.{all_weaker}
use Rattle.sqlite_rules.specs.Lists.{Has as Member}
use Rattle.book_tables.specs.Kept.{Kept, about_kept, bases_kept, dated_steps_kept, kept, last_ids_kept, meters_kept, month_tenths_kept, sales_kept, shift_totals_kept, shifts_kept, steps_kept, tariffs_kept, upto}
use Rattle.book_tables.specs.row.Rows.{present_format}

-- what holds of each table of the present format
pub record OfEach (P : Kept → Type 0) : Type 0 where
  pub about : P about_kept
  pub tariffs : P tariffs_kept
  pub steps : P steps_kept
  pub meters : P meters_kept
  pub shifts : P shifts_kept
  pub sales : P sales_kept
  pub last_ids : P last_ids_kept
  pub month_tenths : P month_tenths_kept
  pub shift_totals : P shift_totals_kept
  pub bases : P bases_kept
  pub dated_steps : P dated_steps_kept

-- what holds of all of them holds of each
pub by_name : (P : Kept → Type 0) → AllByRecursion P (upto present_format) → OfEach P
by_name P (about, (tariffs, (steps, (meters, (shifts, (sales, (last_ids, (month_tenths, (shift_totals, (bases, (dated_steps, _))))))))))) = record {
  about = about;
  tariffs = tariffs;
  steps = steps;
  meters = meters;
  shifts = shifts;
  sales = sales;
  last_ids = last_ids;
  month_tenths = month_tenths;
  shift_totals = shift_totals;
  bases = bases;
  dated_steps = dated_steps;
}

all_there : (ks : List Kept) → AllByRecursion (Member ks) ks
all_there [] = tt
all_there (k ∷ ks) = (inl refl, all_weaker (Member ks) (Member (k ∷ ks)) (λ j there. inr there) ks (all_there ks))

-- each is in the list of all
pub each_there : OfEach (Member kept)
each_there = by_name (Member kept) (all_there kept)
