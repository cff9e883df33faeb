-- Upserts into small tables at any place, what they mean and what they make of values: one that
-- sets, one that adds, and one by an INTEGER PRIMARY KEY that counts and adds.
use Rattle.std.proofs.Common.{◌≡◌, ◌+◌, ◌<◌, ◌^◌, ◌==◌, ◌&&◌, ℕ, ℤ, Bool, true, false, List, [], ◌∷◌, map, bytes_eq, Option, Some, None, refl, codes, pos}
use Rattle.sqlite_value.specs.declared.keys.Collation.TheVariants.{Binary}
use Rattle.sqlite_value.specs.declared.keys.Order.{Order}
use Rattle.sqlite_value.specs.declared.value.Value.TheVariants.{Null, Int, Text as Words}
use Rattle.sqlite_value.specs.Order.{Row}
use Rattle.sqlite_schema.specs.declared.schema.Column.{Column}
use Rattle.sqlite_schema.specs.declared.schema.Kind.{Kind}
use Rattle.sqlite_schema.specs.declared.schema.Kind.TheVariants.{Integer, Text}
use Rattle.sqlite_schema.specs.declared.schema.Table.{Table}
use Rattle.sqlite_sql.specs.Term.{Term, lit, col, op2}
use Rattle.sqlite_sql.specs.declared.ops.ArithOp.TheVariants.{Add}
use Rattle.sqlite_sql.specs.declared.ops.BinaryOp.TheVariants.{Arith}
use Rattle.sqlite_rules.specs.Lists.{Has as Member}
use Rattle.sqlite_tied.specs.Compute.{everything}
use Rattle.one_table.specs.Inserting.{puts_meant}
use Rattle.one_table.specs.Merges.{shown_row}
use Rattle.one_table.specs.Upserting.{IsUpsert, Merging, set_meant, shown_meant, upsert_by, upsert_in, upsert_meant}
use Rattle.one_table.proofs.CastLemmas.{cast_int, cast_no_int}
use Rattle.one_table.proofs.HiddenMergeLemmas.{MergesHidden}
use Rattle.one_table.proofs.MergeLemmas.{MergesAs, given_numbered}
use Rattle.one_table.proofs.SameKeyLemmas.{of_number, of_text_and_number}
use Rattle.one_table.proofs.SumLemmas.{cast_sum}

abbrev column : Kind → List ℕ → Column
column kind name = record { name = name; kind = kind; is_strict = true; not_null = true; default = Null; collation = Binary }

abbrev ascending : Order
ascending = record { digits = 0 }

abbrev table : List ℕ → ℕ → List Column → Option ℕ → List ℕ → List (List ℕ) → Table
table name tree columns key primary uniques = record {
  name = name;
  tree = tree;
  columns = columns;
  key = key;
  primary = primary;
  uniques = uniques;
  orders = map (λ _. ascending) uniques;
  checks = [];
  references = [];
  computed = [];
  stamps = record { places = []; terms = []; formats = [] };
  is_counted = false;
}

-- ---- a UNIQUE of two columns

abbrev tops : ℕ → Table
tops tree = table (codes "tops") tree (column Text (codes "owner") ∷ column Integer (codes "kind") ∷ column Integer (codes "number") ∷ [])
    None [] ((1 ∷ 2 ∷ []) ∷ [])

abbrev merging : Term → Merging
merging set = record {
  count = 3;
  given = lit Null ∷ col 0 0 ∷ col 0 1 ∷ col 0 2 ∷ [];
  key = 1 ∷ 2 ∷ [];
  sets = col 1 0 ∷ col 1 1 ∷ col 1 2 ∷ set ∷ [];
  names = codes "number" ∷ [];
  shown = col 0 7 ∷ [];
}

top_means : (tree : ℕ) → IsUpsert (tops tree) (merging (col 0 7))
    (codes "INSERT INTO tops (owner, kind, number) VALUES (?1, ?2, ?3) ON CONFLICT (owner, kind) DO UPDATE SET number = excluded.number RETURNING number")
unfolding everything upsert_meant upsert_in upsert_by puts_meant set_meant shown_meant
top_means tree = record { means = refl; whole = refl; shows_some = refl; shows_each = refl; uncounted = refl; unstamped = refl }

sum_means : (tree : ℕ) → IsUpsert (tops tree) (merging (op2 (Arith Add) (col 1 3) (col 0 7)))
    (codes "INSERT INTO tops (owner, kind, number) VALUES (?1, ?2, ?3) ON CONFLICT (owner, kind) DO UPDATE SET number = number + excluded.number RETURNING number")
unfolding everything upsert_meant upsert_in upsert_by puts_meant set_meant shown_meant
sum_means tree = record { means = refl; whole = refl; shows_some = refl; shows_each = refl; uncounted = refl; unstamped = refl }

pub record Top : Type 0 where
  pub owner : List ℕ
  pub kind : ℕ
  pub number : ℕ

abbrev top_row : Top → Row
top_row top = Words top.owner ∷ Int (pos top.kind) ∷ Int (pos top.number) ∷ []

abbrev has_key_of : Top → Top → Bool
has_key_of given top = bytes_eq top.owner given.owner && (top.kind == given.kind)

abbrev numbered : ℕ → Top → Top
numbered number top = record top { number = number }

top_sets : (tree : ℕ) (given : Top) (held : List Top)
    → MergesHidden (tops tree) (merging (col 0 7)) (top_row given) top_row given (has_key_of given) (numbered given.number) held
top_sets tree given held = record {
  source = rw (cast_no_int, cast_int (pos given.kind), cast_int (pos given.number)) refl;
  fits = rw (cast_int (pos given.kind), cast_int (pos given.number)) refl;
  meets = λ number n top. of_text_and_number given.owner top.owner given.kind top.kind number n (Int (pos given.number) ∷ []) (Int (pos top.number) ∷ []);
  becomes = λ number n top there met. rw (cast_int n, cast_int (pos top.kind), cast_int (pos given.number)) refl;
}

-- where each sum is below 2 ^ 63
sum_sets : (tree : ℕ) (given : Top) (held : List Top) → ((top : Top) → Member held top → has_key_of given top ≡ true → top.number + given.number < 2 ^ 63)
    → MergesHidden (tops tree) (merging (op2 (Arith Add) (col 1 3) (col 0 7))) (top_row given) top_row given (has_key_of given)
    (λ top. numbered (top.number + given.number) top) held
sum_sets tree given held low = record {
  source = rw (cast_no_int, cast_int (pos given.kind), cast_int (pos given.number)) refl;
  fits = rw (cast_int (pos given.kind), cast_int (pos given.number)) refl;
  meets = λ number n top. of_text_and_number given.owner top.owner given.kind top.kind number n (Int (pos given.number) ∷ []) (Int (pos top.number) ∷ []);
  becomes = λ number n top there met. rw (cast_int n, cast_int (pos top.kind), cast_sum top.number given.number (low top there met)) refl;
}

top_shown : (tree : ℕ) (set : Term) (given top : Top) (number : ℤ)
    → shown_row (tops tree) (merging set) (top_row given) (Int number ∷ top_row top) ≡ Int (pos top.number) ∷ []
top_shown tree set given top number = refl

-- ---- an INTEGER PRIMARY KEY

abbrev totals : ℕ → Table
totals tree = table (codes "totals") tree
    (record { name = codes "number"; kind = Integer; is_strict = true; not_null = false; default = Null; collation = Binary }
    ∷ column Integer (codes "count") ∷ column Integer (codes "amount") ∷ column Integer (codes "cash") ∷ [])
    (Some 0) (0 ∷ []) []

abbrev adding : Merging
adding = record {
  count = 3;
  given = col 0 0 ∷ lit Null ∷ lit (Int (pos 1)) ∷ col 0 1 ∷ col 0 2 ∷ [];
  key = 0 ∷ [];
  sets = col 1 0 ∷ lit Null ∷ op2 (Arith Add) (col 1 2) (lit (Int (pos 1))) ∷ op2 (Arith Add) (col 1 3) (col 0 7) ∷ op2 (Arith Add) (col 1 4) (col 0 8) ∷ [];
  names = codes "count" ∷ codes "amount" ∷ codes "cash" ∷ [];
  shown = col 0 6 ∷ col 0 7 ∷ col 0 8 ∷ [];
}

adding_means : (tree : ℕ) → IsUpsert (totals tree) adding
    (codes "INSERT INTO totals (number, count, amount, cash) VALUES (?1, 1, ?2, ?3) ON CONFLICT (number) DO UPDATE SET count = count + 1, amount = amount + excluded.amount, cash = cash + excluded.cash RETURNING count, amount, cash")
unfolding everything upsert_meant upsert_in upsert_by puts_meant set_meant shown_meant
adding_means tree = record { means = refl; whole = refl; shows_some = refl; shows_each = refl; uncounted = refl; unstamped = refl }

pub record Total : Type 0 where
  pub number : ℕ
  pub count : ℕ
  pub amount : ℕ
  pub cash : ℕ

abbrev total_row : Total → Row
total_row total = Int (pos total.number) ∷ Null ∷ Int (pos total.count) ∷ Int (pos total.amount) ∷ Int (pos total.cash) ∷ []

abbrev first_of : ℕ → ℕ → ℕ → Total
first_of number amount cash = record { number = number; count = 1; amount = amount; cash = cash }

abbrev with_one : ℕ → ℕ → Total → Total
with_one amount cash total = record total { count = total.count + 1; amount = total.amount + amount; cash = total.cash + cash }

-- where the number's counts and sums are below 2 ^ 63
total_adds : (tree number amount cash : ℕ) (rows : List Row) (held : List Total)
    → ((total : Total) → Member held total → (total.number == number) ≡ true → (total.count + 1 < 2 ^ 63)
    × (total.amount + amount < 2 ^ 63) × (total.cash + cash < 2 ^ 63))
    → MergesAs (totals tree) adding (Int (pos number) ∷ Int (pos amount) ∷ Int (pos cash) ∷ []) rows (λ total. pos total.number) total_row
    (first_of number amount cash) (λ total. total.number == number) (with_one amount cash) held
total_adds tree number amount cash rows held low = record {
  keyed = λ total. refl;
  gives = given_numbered (totals tree) adding (Int (pos number) ∷ Int (pos amount) ∷ Int (pos cash) ∷ []) (total_row (first_of number amount cash)) (pos number)
      (rw (cast_int (pos number), cast_no_int, cast_int (pos 1), cast_int (pos amount), cast_int (pos cash)) refl) refl rows;
  fits = rw (cast_int (pos number), cast_no_int, cast_int (pos 1), cast_int (pos amount), cast_int (pos cash)) refl;
  meets = λ total. of_number number total.number (Null ∷ Int (pos 1) ∷ Int (pos amount) ∷ Int (pos cash) ∷ [])
      (Null ∷ Int (pos total.count) ∷ Int (pos total.amount) ∷ Int (pos total.cash) ∷ []);
  becomes = λ total there met. let sums = low total there met in
      rw (cast_int (pos total.number), cast_no_int, cast_sum total.count 1 sums.0, cast_sum total.amount amount sums.1, cast_sum total.cash cash sums.2) refl;
  stays = λ total. refl;
}
