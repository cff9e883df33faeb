-- The office's tables, as their texts define them, each by the number of its tree.
use Rattle.std.specs.Prelude.{ℕ, Bool, true, false, List, [], ◌∷◌, map, Option, Some, None, codes}
use Rattle.sqlite.specs.Collation.TheVariants.{Binary}
use Rattle.sqlite.specs.Kind.{Kind}
use Rattle.sqlite.specs.Kind.TheVariants.{Integer, Text}
use Rattle.sqlite.specs.Table.{Table}
use Rattle.sqlite_schema.specs.declared.schema.Action.TheVariants.{NoAction}
use Rattle.sqlite_schema.specs.declared.schema.Column.{Column}
use Rattle.sqlite_schema.specs.declared.schema.Reference.{Reference}
use Rattle.sqlite.specs.declared.types.Value.TheVariants.{Null}
use Rattle.sqlite_value.specs.declared.keys.Order.{Order}

-- a column of a kind of values, which may be NULL or not
abbrev pub column_of : Kind → Bool → List ℕ → Column
column_of kind not_null name = record {
  name = name;
  kind = kind;
  is_strict = true;
  not_null = not_null;
  default = Null;
  collation = Binary;
}

-- a column of whole numbers, one of texts, and one of whole numbers that may be NULL
abbrev pub number_column : List ℕ → Column
number_column name = column_of Integer true name

abbrev pub text_column : List ℕ → Column
text_column name = column_of Text true name

abbrev pub optional_column : List ℕ → Column
optional_column name = column_of Integer false name

-- the column that is the number of the row
abbrev pub key_column : List ℕ → Column
key_column name = optional_column name

-- the order of an index whose columns all ascend by their bytes
abbrev pub ascending : Order
ascending = record { digits = 0 }

-- a column that names a row of another table by that table's key
abbrev pub reference_to : ℕ → List ℕ → List ℕ → Reference
reference_to place parent key = record {
  columns = place ∷ [];
  parent = parent;
  parent_columns = key ∷ [];
  on_delete = NoAction;
  on_update = NoAction;
  is_deferred = false;
}

-- a table of these columns: its number, if it has one, its keys and its references
abbrev pub strict_table : List ℕ → ℕ → List Column → Option ℕ → List ℕ → List (List ℕ)
    → List Reference → Table
strict_table name tree columns key primary uniques references = record {
  name = name;
  tree = tree;
  columns = columns;
  key = key;
  primary = primary;
  uniques = uniques;
  orders = map (λ _. ascending) uniques;
  checks = [];
  references = references;
  computed = [];
  stamps = record { places = []; terms = []; formats = [] };
  is_counted = false;
}

abbrev pub about_table : ℕ → Table
about_table tree =
    strict_table (codes "about") tree
    (key_column (codes "id") ∷ number_column (codes "format") ∷ [])
    (Some 0) (0 ∷ []) [] []

abbrev pub tariffs_table : ℕ → Table
tariffs_table tree =
    strict_table (codes "tariffs") tree (text_column (codes "name") ∷ []) None (1 ∷ [])
    ((1 ∷ []) ∷ []) []

abbrev pub tariff_steps_table : ℕ → Table
tariff_steps_table tree =
    strict_table (codes "tariff_steps") tree
    (text_column (codes "tariff") ∷ number_column (codes "place") ∷ optional_column (codes "ends")
    ∷ number_column (codes "price") ∷ [])
    None [] ((1 ∷ 2 ∷ []) ∷ []) (reference_to 1 (codes "tariffs") (codes "name") ∷ [])

abbrev pub meters_table : ℕ → Table
meters_table tree =
    strict_table (codes "meters") tree
    (text_column (codes "meter") ∷ number_column (codes "base") ∷ text_column (codes "tariff")
    ∷ text_column (codes "secret") ∷ [])
    None (1 ∷ []) ((1 ∷ []) ∷ []) (reference_to 3 (codes "tariffs") (codes "name") ∷ [])

abbrev pub shifts_table : ℕ → Table
shifts_table tree =
    strict_table (codes "shifts") tree
    (key_column (codes "number") ∷ text_column (codes "operator") ∷ number_column (codes "opened")
    ∷ optional_column (codes "closed") ∷ [])
    (Some 0) (0 ∷ []) [] []

abbrev pub sales_table : ℕ → Table
sales_table tree =
    strict_table (codes "sales") tree
    (key_column (codes "number") ∷ number_column (codes "moment") ∷ number_column (codes "month")
    ∷ number_column (codes "shift") ∷ text_column (codes "operator") ∷ text_column (codes "ref")
    ∷ text_column (codes "meter") ∷ number_column (codes "base") ∷ number_column (codes "tid")
    ∷ number_column (codes "rnd") ∷ number_column (codes "tenths") ∷ number_column (codes "price")
    ∷ number_column (codes "tender") ∷ text_column (codes "digits") ∷ [])
    (Some 0) (0 ∷ []) ((5 ∷ 6 ∷ []) ∷ (7 ∷ 8 ∷ 9 ∷ []) ∷ [])
    (reference_to 4 (codes "shifts") (codes "number") ∷ reference_to 7 (codes "meters")
    (codes "meter") ∷ [])

abbrev pub last_ids_table : ℕ → Table
last_ids_table tree =
    strict_table (codes "last_ids") tree
    (text_column (codes "meter") ∷ number_column (codes "base") ∷ number_column (codes "tid") ∷ [])
    None [] ((1 ∷ 2 ∷ []) ∷ []) []

abbrev pub month_tenths_table : ℕ → Table
month_tenths_table tree =
    strict_table (codes "month_tenths") tree
    (text_column (codes "meter") ∷ number_column (codes "month") ∷ number_column (codes "tenths")
    ∷ [])
    None [] ((1 ∷ 2 ∷ []) ∷ []) []

abbrev pub shift_totals_table : ℕ → Table
shift_totals_table tree =
    strict_table (codes "shift_totals") tree
    (key_column (codes "shift") ∷ number_column (codes "sales") ∷ number_column (codes "tenths")
    ∷ number_column (codes "cash") ∷ [])
    (Some 0) (0 ∷ []) [] []

abbrev pub meter_bases_table : ℕ → Table
meter_bases_table tree =
    strict_table (codes "meter_bases") tree
    (text_column (codes "meter") ∷ number_column (codes "base") ∷ [])
    None [] ((1 ∷ 2 ∷ []) ∷ []) (reference_to 1 (codes "meters") (codes "meter") ∷ [])

abbrev pub dated_steps_table : ℕ → Table
dated_steps_table tree =
    strict_table (codes "dated_steps") tree
    (text_column (codes "tariff") ∷ number_column (codes "day") ∷ number_column (codes "place")
    ∷ optional_column (codes "ends") ∷ number_column (codes "price") ∷ [])
    None [] ((1 ∷ 2 ∷ 3 ∷ []) ∷ []) (reference_to 1 (codes "tariffs") (codes "name") ∷ [])
