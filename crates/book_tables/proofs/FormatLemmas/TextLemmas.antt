-- The texts define the tables, and each is a CREATE TABLE from its first byte to its last.
use Rattle.std.proofs.Common.{◌≡◌, ℕ, Bool, true, false, not, cond, List, [], ◌∷◌, filter, nat_le, refl}
use Rattle.std.specs.Prelude.{Ok}
use Rattle.std.specs.List.{AllByRecursion, list_all}
use Rattle.sqlite_resolve.specs.Compile.{table_defined_by}
use Rattle.sqlite_tied.specs.Compute.{everything}
use Rattle.one_table.specs.Comparing.{IsPlainTable}
use Rattle.one_table.specs.Making.{AreAmong, AreDefined, AreIdle, is_creation}
use Rattle.one_table.specs.Referring.{is_among, is_idle}
use Rattle.book_tables.specs.Holds.{table_names}
use Rattle.book_tables.specs.Kept.{Kept, kept, kept_tables, kept_texts, later, upto}
use Rattle.book_tables.specs.Tables.{about_table, dated_steps_table, last_ids_table, meter_bases_table, meters_table, month_tenths_table, sales_table, shift_totals_table, shifts_table, tariff_steps_table, tariffs_table}
use Rattle.book_tables.specs.Texts.{about_text, dated_steps_text, last_ids_text, meter_bases_text, meters_text, month_tenths_text, sales_text, shift_totals_text, shifts_text, tariff_steps_text, tariffs_text}

-- the text of `about` defines its table
pub about_defined : table_defined_by about_text ≡ Ok (about_table 0)
unfolding everything
about_defined = refl

-- the text of `tariffs` does
pub tariffs_defined : table_defined_by tariffs_text ≡ Ok (tariffs_table 0)
unfolding everything
tariffs_defined = refl

-- the text of `tariff_steps` does
pub tariff_steps_defined : table_defined_by tariff_steps_text ≡ Ok (tariff_steps_table 0)
unfolding everything
tariff_steps_defined = refl

-- the text of `meters` does
pub meters_defined : table_defined_by meters_text ≡ Ok (meters_table 0)
unfolding everything
meters_defined = refl

-- the text of `shifts` does
pub shifts_defined : table_defined_by shifts_text ≡ Ok (shifts_table 0)
unfolding everything
shifts_defined = refl

-- the text of `sales` does
pub sales_defined : table_defined_by sales_text ≡ Ok (sales_table 0)
unfolding everything
sales_defined = refl

-- the text of `last_ids` does
pub last_ids_defined : table_defined_by last_ids_text ≡ Ok (last_ids_table 0)
unfolding everything
last_ids_defined = refl

-- the text of `month_tenths` does
pub month_tenths_defined : table_defined_by month_tenths_text ≡ Ok (month_tenths_table 0)
unfolding everything
month_tenths_defined = refl

-- the text of `shift_totals` does
pub shift_totals_defined : table_defined_by shift_totals_text ≡ Ok (shift_totals_table 0)
unfolding everything
shift_totals_defined = refl

-- the text of `meter_bases` does
pub meter_bases_defined : table_defined_by meter_bases_text ≡ Ok (meter_bases_table 0)
unfolding everything
meter_bases_defined = refl

-- the text of `dated_steps` does
pub dated_steps_defined : table_defined_by dated_steps_text ≡ Ok (dated_steps_table 0)
unfolding everything
dated_steps_defined = refl

-- a table's text defines it, and is one CREATE TABLE; the table is plain, its name is one of the
-- office's, and its references take no action
pub record IsText (k : Kept) : Type 0 where
  pub defined : table_defined_by k.text ≡ Ok k.table
  pub plain : IsPlainTable k.table
  pub creation : is_creation k.text ≡ true
  pub among : is_among table_names k.table.name ≡ true
  pub idle : list_all is_idle k.table.references ≡ true

all_texts : AllByRecursion IsText kept
unfolding everything is_creation
all_texts = (
  record {
    defined = about_defined;
    plain = record { defaults = refl; checks = refl; stamps = refl };
    creation = refl;
    among = refl;
    idle = refl;
  },
  (
    record {
      defined = tariffs_defined;
      plain = record { defaults = refl; checks = refl; stamps = refl };
      creation = refl;
      among = refl;
      idle = refl;
    },
    (
      record {
        defined = tariff_steps_defined;
        plain = record { defaults = refl; checks = refl; stamps = refl };
        creation = refl;
        among = refl;
        idle = refl;
      },
      (
        record {
          defined = meters_defined;
          plain = record { defaults = refl; checks = refl; stamps = refl };
          creation = refl;
          among = refl;
          idle = refl;
        },
        (
          record {
            defined = shifts_defined;
            plain = record { defaults = refl; checks = refl; stamps = refl };
            creation = refl;
            among = refl;
            idle = refl;
          },
          (
            record {
              defined = sales_defined;
              plain = record { defaults = refl; checks = refl; stamps = refl };
              creation = refl;
              among = refl;
              idle = refl;
            },
            (
              record {
                defined = last_ids_defined;
                plain = record { defaults = refl; checks = refl; stamps = refl };
                creation = refl;
                among = refl;
                idle = refl;
              },
              (
                record {
                  defined = month_tenths_defined;
                  plain = record { defaults = refl; checks = refl; stamps = refl };
                  creation = refl;
                  among = refl;
                  idle = refl;
                },
                (
                  record {
                    defined = shift_totals_defined;
                    plain = record { defaults = refl; checks = refl; stamps = refl };
                    creation = refl;
                    among = refl;
                    idle = refl;
                  },
                  (
                    record {
                      defined = meter_bases_defined;
                      plain = record { defaults = refl; checks = refl; stamps = refl };
                      creation = refl;
                      among = refl;
                      idle = refl;
                    },
                    (
                      record {
                        defined = dated_steps_defined;
                        plain = record { defaults = refl; checks = refl; stamps = refl };
                        creation = refl;
                        among = refl;
                        idle = refl;
                      },
                      tt,
                    ),
                  ),
                ),
              ),
            ),
          ),
        ),
      ),
    ),
  ),
)

each_defined : (ks : List Kept) → AllByRecursion IsText ks → AllByRecursion (λ k. table_defined_by k.text ≡ Ok k.table) ks
each_defined [] all = tt
each_defined (k ∷ ks) all = (all.0.defined, each_defined ks all.1)

-- each of the office's tables is the one that its text defines
pub all_defined : AllByRecursion (λ k. table_defined_by k.text ≡ Ok k.table) kept
all_defined = each_defined kept all_texts

kept_first : (P : Kept → Type 0) (p : Kept → Bool) (k : Kept) (ks : List Kept) (b : Bool) → P k → AllByRecursion P (filter p ks)
    → AllByRecursion P (cond b (k ∷ filter p ks) (filter p ks))
kept_first P p k ks true first rest = (first, rest)
kept_first P p k ks false first rest = rest

kept_some : (P : Kept → Type 0) (p : Kept → Bool) (ks : List Kept) → AllByRecursion P ks → AllByRecursion P (filter p ks)
kept_some P p [] all = tt
kept_some P p (k ∷ ks) all = kept_first P p k ks (p k) all.0 (kept_some P p ks all.1)

-- the tables of a format have such texts
pub upto_texts : (n : ℕ) → AllByRecursion IsText (upto n)
upto_texts n = kept_some IsText (λ k. nat_le k.since n) kept all_texts

-- the tables that a format lacks have such texts
pub later_texts : (n : ℕ) → AllByRecursion IsText (later n)
later_texts n = kept_some IsText (λ k. not (nat_le k.since n)) kept all_texts

-- the texts of such tables define them, one by one
pub are_defined : (ks : List Kept) → AllByRecursion IsText ks → AreDefined (kept_texts ks) (kept_tables ks)
are_defined [] all = tt
are_defined (k ∷ ks) all = (all.0.defined, are_defined ks all.1)

-- each of the texts is one CREATE TABLE
pub are_creations : (ks : List Kept) → AllByRecursion IsText ks → list_all is_creation (kept_texts ks) ≡ true
are_creations [] all = refl
are_creations (k ∷ ks) all = rw (all.0.creation, are_creations ks all.1) refl

-- the names of such tables are the office's
pub are_among : (ks : List Kept) → AllByRecursion IsText ks → AreAmong table_names (kept_tables ks)
are_among [] all = tt
are_among (k ∷ ks) all = (all.0.among, are_among ks all.1)

-- no reference of such tables takes an action
pub are_idle : (ks : List Kept) → AllByRecursion IsText ks → AreIdle (kept_tables ks)
are_idle [] all = tt
are_idle (k ∷ ks) all = (all.0.idle, are_idle ks all.1)
