-- What of all tables of the office stays where the rows of one of them do but for those of a key.
use Rattle.std.proofs.Common.{◌≡◌, ℕ, ℤ, pos, Bool, true, false, not, ◌&&◌, ◌||◌, IsTrue, if◌then◌else◌, Some, List, [], ◌∷◌, ◌++◌, bytes_eq, filter, is_eq, is_lt, refl, sym, ap, ap₂, subst, ◌∙◌, inl, inr}
use Rattle.std.specs.List.{AllByRecursion, list_all}
use Rattle.std.specs.Float.{minus_two_to}
use Rattle.std.proofs.lemmas.Bool.{and_parts, cases_Bool, false≢true, or_cases}
use Rattle.std.proofs.lemmas.Cmp.{tied_itself}
use Rattle.std.proofs.lemmas.Slice.Eq.{bytes_eq-Decides}
use Rattle.sqlite.specs.Effect.{Database}
use Rattle.sqlite.specs.Order.{Row}
use Rattle.sqlite.specs.State.{State}
use Rattle.sqlite_keyed.proofs.ListLemmas.{all_both, all_weaker}
use Rattle.sqlite_schema.specs.declared.schema.Schema.{Schema}
use Rattle.sqlite_value.specs.Keys.{first_key, plain}
use Rattle.sqlite_value.specs.Order.{column, value_cmp}
use Rattle.sqlite_value.specs.declared.keys.Collation.TheVariants.{Binary}
use Rattle.sqlite_value.specs.declared.value.Value.{Value}
use Rattle.sqlite_value.specs.declared.value.Value.TheVariants.{Null, Int, Real, Text, Blob}
use Rattle.sqlite_sql.specs.declared.ops.BinaryOp.TheVariants.{Compare}
use Rattle.sqlite_sql.specs.declared.ops.CompareOp.TheVariants.{Eq}
use Rattle.sqlite_sql.specs.declared.ops.UnaryOp.TheVariants.{ToInt}
use Rattle.sqlite_sql.specs.Ops.{binary, from_truth, is_null, is_true, unary}
use Rattle.sqlite_schema.specs.declared.schema.Kind.TheVariants as kind
use Rattle.sqlite_rules.specs.Cast.{cast, cast_row}
use Rattle.sqlite_sql.specs.Term.{Term, col, eval_all, holds}
use Rattle.sqlite_trees.specs.Tree.{rowid}
use Rattle.one_table.proofs.CastLemmas.{cast_int}
use Rattle.sqlite_value.proofs.OrderLemmas.{value_cmp-apart, value_cmp_total}
use Rattle.sqlite_trees.specs.View.{is_int}
use Rattle.one_table.specs.InTransaction.{PutsRow, SetsRows}
use Rattle.one_table.specs.Listed.{no_limit, query_on}
use Rattle.one_table.specs.Merges.{Upserts, given_row, set_row}
use Rattle.one_table.specs.Numbered.{IsInOrder}
use Rattle.one_table.specs.Standing.{own_keys, tree_in}
use Rattle.one_table.specs.Upserting.{Merging, is_of_key}
use Rattle.book_tables.specs.Holds.{HasOffice, IsKept, rows_in, table_names}
use Rattle.book_tables.specs.Kept.{Kept, kept_names, upto}
use Rattle.book_tables.specs.row.Rows.{present_format}
use Rattle.book_tables.specs.writing.Keeping.{AreInOrder, Key, Keys, KeepsRows, has_key, is_own, others_in}
use Rattle.book_tables.specs.reading.Reading.{HasAllTables}
use Rattle.book_tables.proofs.OfficeTableLemmas.{IsInOffice}
use Rattle.book_tables.proofs.KeptLemmas.{ChangesOnly, names_differ, rows_kept}
use Rattle.book_tables.proofs.WritingLemmas.OtherRowsLemmas.{drop_own, eq_is, keep_first, merge_keeps, others, put_in_order, put_keeps, set_keeps}

-- ---- one table

module _ (keys : Keys) (a b : Database) (k : Kept) (there : IsKept a.schema k) (only : ChangesOnly k.table.name a b)
    (same : others_in keys b k.table.name ≡ others_in keys a k.table.name) where
  stays_in : (j : Kept) → IsKept a.schema j → others_in keys b j.table.name ≡ others_in keys a j.table.name
  stays_in j stands = elim (cases_Bool (bytes_eq j.table.name k.table.name)) [
    | inl e ↦ subst (λ (n : List ℕ). others_in keys b n ≡ others_in keys a n) (sym ((bytes_eq-Decides j.table.name k.table.name).0 e)) same
    | inr e ↦ ap (λ (l : List Row). filter (λ row. not (is_own keys j.table.name row)) l)
        (rows_kept a b j.table k.table only stands.0 there.0 (names_differ _ _ e))
  ]

  stays_in_all : (js : List Kept) → AllByRecursion (IsKept a.schema) js → AllByRecursion (λ name. others_in keys b name ≡ others_in keys a name) (kept_names js)
  stays_in_all [] stand = tt
  stays_in_all (j ∷ js) stand = (stays_in j stand.0, stays_in_all js stand.1)

  module _ (in_order : IsInOrder (rows_in a k.table.name) → IsInOrder (rows_in b k.table.name)) where
    order_in : (j : Kept) → IsKept a.schema j → IsInOrder (rows_in a j.table.name) → IsInOrder (rows_in b j.table.name)
    order_in j stands held = elim (cases_Bool (bytes_eq j.table.name k.table.name)) [
      | inl e ↦ subst (λ (n : List ℕ). IsInOrder (rows_in a n) → IsInOrder (rows_in b n)) (sym ((bytes_eq-Decides j.table.name k.table.name).0 e)) in_order held
      | inr e ↦ subst IsInOrder (sym (rows_kept a b j.table k.table only stands.0 there.0 (names_differ _ _ e))) held
    ]

    order_in_all : (js : List Kept) → AllByRecursion (IsKept a.schema) js → AreInOrder (kept_names js) a → AreInOrder (kept_names js) b
    order_in_all [] stand held = tt
    order_in_all (j ∷ js) stand held = (order_in j stand.0 held.0, order_in_all js stand.1 held.1)

    keeps_all : HasOffice a.schema → KeepsRows keys a b
    keeps_all has = record { others = stays_in_all (upto present_format) has.tables; order = order_in_all (upto present_format) has.tables }

-- the rows of one table but for those of the keys stay, and the other tables do
pub keeps_in : (keys : Keys) (a b : Database) (k : Kept) → IsKept a.schema k → HasOffice a.schema → ChangesOnly k.table.name a b
    → others (is_own keys k.table.name) (b.trees (tree_in a.schema k.table.name)) ≡ others (is_own keys k.table.name) (a.trees (tree_in a.schema k.table.name))
    → (IsInOrder (a.trees (tree_in a.schema k.table.name)) → IsInOrder (b.trees (tree_in a.schema k.table.name))) → KeepsRows keys a b
keeps_in keys a b k there has only same in_order =
    let rows_are = ap (λ (s : Schema). b.trees (tree_in s k.table.name)) only.schema in
    keeps_all keys a b k there only (ap (others (is_own keys k.table.name)) rows_are ∙ same) (λ held. subst IsInOrder (sym rows_are) (in_order held)) has

or_right : (a : Bool) {b : Bool} → b ≡ true → (a || b) ≡ true
or_right true h = refl
or_right false h = h

-- ---- several writes

-- a row of these keys is one of more
abbrev pub AreAmongKeys : Keys → Keys → Type 0
AreAmongKeys keys more = (name : List ℕ) (row : Row) → is_own keys name row ≡ true → is_own more name row ≡ true

fewer : (p q : Row → Bool) → ((r : Row) → p r ≡ true → q r ≡ true) → (rows : List Row) → others q (others p rows) ≡ others q rows
fewer p q weaker [] = refl
fewer p q weaker (r ∷ rs) = go (p r) refl (fewer p q weaker rs)
  where
    go : (b : Bool) → p r ≡ b → others q (others p rs) ≡ others q rs → others q (if not b then r ∷ others p rs else others p rs) ≡ others q (r ∷ rs)
    go true e same = same ∙ sym (drop_own q r rs (weaker r e))
    go false e same = keep_first q r (others p rs) rs same

-- a write that leaves all rows but those of some keys leaves all but those of more
pub keeps_more : (keys more : Keys) → AreAmongKeys keys more → (a b : Database) → KeepsRows keys a b → KeepsRows more a b
keeps_more keys more among a b kept = record {
  others = all_weaker (λ name. others_in keys b name ≡ others_in keys a name) (λ name. others_in more b name ≡ others_in more a name) (λ name same.
      let weaker = fewer (is_own keys name) (is_own more name) (among name) in
      sym (weaker (rows_in b name)) ∙ ap (others (is_own more name)) same ∙ weaker (rows_in a name)) table_names kept.others;
  order = kept.order;
}

-- two writes that leave all rows but those of these keys, one after the other, do so too
pub keeps_both : (keys : Keys) (a b c : Database) → KeepsRows keys a b → KeepsRows keys b c → KeepsRows keys a c
keeps_both keys a b c first second = record {
  others = all_both (λ name. others_in keys b name ≡ others_in keys a name) (λ name. others_in keys c name ≡ others_in keys b name)
      (λ name. others_in keys c name ≡ others_in keys a name)
      (λ name before after. after ∙ before) table_names first.others second.others;
  order = λ held. second.order (first.order held);
}

-- of two lists of keys, those of the first are among all of them
pub own_left : (keys more : Keys) → AreAmongKeys keys (keys ++ more)
own_left [] more name row h = absurd (false≢true h)
own_left (k ∷ keys) more name row h = elim (or_cases (bytes_eq k.0 name && has_key k.1 row) (is_own keys name row) h) [
  | inl here ↦ ap (λ (b : Bool). b || is_own (keys ++ more) name row) here
  | inr later ↦ or_right (bytes_eq k.0 name && has_key k.1 row) (own_left keys more name row later)
]

-- and so are those of the second
pub own_right : (keys more : Keys) → AreAmongKeys more (keys ++ more)
own_right [] more name row h = h
own_right (k ∷ keys) more name row h = or_right (bytes_eq k.0 name && has_key k.1 row) (own_right keys more name row h)

-- what two writes leave, one after the other
pub keeps_then : (keys more : Keys) (a b c : Database) → KeepsRows keys a b → KeepsRows more b c → KeepsRows (keys ++ more) a c
keeps_then keys more a b c first second =
    keeps_both (keys ++ more) a b c (keeps_more keys (keys ++ more) (own_left keys more) a b first)
    (keeps_more more (keys ++ more) (own_right keys more) b c second)

-- ---- rows of a key

-- the values stand at its places
pub has_values : (key : Key) (row : Row) → AllByRecursion (λ part. column row part.0 ≡ part.1) key → has_key key row ≡ true
has_values [] row are = refl
has_values (part ∷ key) row are = ap₂ ◌&&◌ (ap (λ (v : Value). is_eq (value_cmp v part.1)) are.0
    ∙ ap is_eq (tied_itself value_cmp_total part.1)) (has_values key row are.1)

one_name : (name : List ℕ) → bytes_eq name name ≡ true
one_name name = (bytes_eq-Decides name name).1 refl

-- where there is but one key, in this table, a row that has it is of the keys
pub own_of_key : (name : List ℕ) (key : Key) (row : Row) → has_key key row ≡ true → is_own ((name, key) ∷ []) name row ≡ true
own_of_key name key row has = ap₂ (λ (a b : Bool). a && b || false) (one_name name) has

-- and a row that is of the keys has it
pub key_of_own : (name : List ℕ) (key : Key) (row : Row) → is_own ((name, key) ∷ []) name row ≡ true → has_key key row ≡ true
key_of_own name key row own = elim (or_cases (bytes_eq name name && has_key key row) false own) [
  | inl here ↦ (and_parts (bytes_eq name name) (has_key key row) here).1
  | inr none ↦ absurd (false≢true none)
]

-- ---- values that are found, and what a column makes of them

-- what is equal as a test has it compares as equal
pub compares : (a b : Value) → is_true (binary (Compare Eq Binary) a b) ≡ true → is_eq (value_cmp a b) ≡ true
unfolding binary
compares a b h = go (is_null a || is_null b) h
  where
    go : (n : Bool) → is_true (if n then Null else from_truth (Some (is_eq (value_cmp a b)))) ≡ true → is_eq (value_cmp a b) ≡ true
    go true h = absurd (false≢true h)
    go false h = told (is_eq (value_cmp a b)) h
      where
        told : (e : Bool) → is_true (from_truth (Some e)) ≡ true → e ≡ true
        told true h = refl
        told false h = absurd (false≢true h)

-- one that compares as equal to a text stays so in a column of texts
pub text_stays : (v : Value) (t : List ℕ) → is_eq (value_cmp v (Text t)) ≡ true → is_eq (value_cmp (cast kind.Text v) (Text t)) ≡ true
text_stays Null t h = absurd (false≢true (sym (ap is_eq (value_cmp-apart Null (Text t) (λ same. cc))) ∙ h))
text_stays (Int n) t h = absurd (false≢true (sym (ap is_eq (value_cmp-apart (Int n) (Text t) (λ same. cc))) ∙ h))
text_stays (Real x) t h = absurd (false≢true (sym (ap is_eq (value_cmp-apart (Real x) (Text t) (λ same. cc))) ∙ h))
text_stays (Text s) t h = h
text_stays (Blob b) t h = absurd (false≢true (sym (ap is_eq (value_cmp-apart (Blob b) (Text t) (λ same. cc))) ∙ h))

-- and to a number in a column of numbers
pub number_stays : (v : Value) (n : ℤ) → is_eq (value_cmp v (Int n)) ≡ true → is_eq (value_cmp (cast kind.Integer v) (Int n)) ≡ true
number_stays Null n h = absurd (false≢true (sym (ap is_eq (value_cmp-apart Null (Int n) (λ same. cc))) ∙ h))
number_stays (Int m) n h = ap (λ (w : Value). is_eq (value_cmp w (Int n))) (cast_int m) ∙ h
number_stays (Real x) n h = whole (is_eq (value_cmp (unary ToInt (Real x)) (Real x))) refl (is_lt (value_cmp (Real (minus_two_to 63)) (Real x)))
  where
    whole : (b : Bool) → is_eq (value_cmp (unary ToInt (Real x)) (Real x)) ≡ b → (c : Bool)
        → is_eq (value_cmp (if b && c then unary ToInt (Real x) else Real x) (Int n)) ≡ true
    whole true e true = ap is_eq (value_cmp_total.congr (unary ToInt (Real x)) (Real x) (Int n) (eq_is _ e)) ∙ h
    whole true e false = h
    whole false e c = h
number_stays (Text t) n h = absurd (false≢true (sym (ap is_eq (value_cmp-apart (Text t) (Int n) (λ same. cc))) ∙ h))
number_stays (Blob b) n h = absurd (false≢true (sym (ap is_eq (value_cmp-apart (Blob b) (Int n) (λ same. cc))) ∙ h))

-- the number of a row stays
pub number_kept : (v : Value) → IsTrue (is_int v) → cast kind.Integer v ≡ v
number_kept Null h = absurd (false≢true h)
number_kept (Int n) h = cast_int n
number_kept (Real x) h = absurd (false≢true h)
number_kept (Text t) h = absurd (false≢true h)
number_kept (Blob b) h = absurd (false≢true h)

-- ---- a row that is put in

-- a row of these keys is put in, under a number: all other rows stay
pub keeps_put : (keys : Keys) (old new : State) (k : Kept) → IsInOffice k → HasAllTables old → (row : Row)
    → PutsRow (record k.table { tree = tree_in old.now.schema k.table.name }) row old new → ChangesOnly k.table.name old.now new.now
    → is_own keys k.table.name row ≡ true → IsTrue (is_int (rowid row)) → KeepsRows keys old.now new.now
keeps_put keys old new k is_in has row puts only own is_number =
    let here = has puts.changed.inside.was_open in
    keeps_in keys old.now new.now k (is_in.there old.now.schema here) here only
    (put_keeps (is_own keys k.table.name) (record k.table { tree = tree_in old.now.schema k.table.name }) row old new puts own)
    (put_in_order (record k.table { tree = tree_in old.now.schema k.table.name }) row old new puts is_number)

-- a row of the values of a key
pub keeps_new : (key : Key) (old new : State) (k : Kept) → IsInOffice k → HasAllTables old → (row stored : Row)
    → PutsRow (record k.table { tree = tree_in old.now.schema k.table.name }) row old new → ChangesOnly k.table.name old.now new.now
    → row ≡ stored → IsTrue (is_int (rowid stored)) → AllByRecursion (λ part. column stored part.0 ≡ part.1) key
    → KeepsRows ((k.table.name, key) ∷ []) old.now new.now
keeps_new key old new k is_in has row stored puts only is is_number values =
    keeps_put ((k.table.name, key) ∷ []) old new k is_in has row puts only
    (own_of_key k.table.name key row (ap (has_key key) is ∙ has_values key stored values))
    (subst (λ (r : Row). IsTrue (is_int (rowid r))) (sym is) is_number)

-- ---- rows that are found by a key, and that keep it

module _ (name : List ℕ) where
  -- the text in front
  pub text_found : (t : List ℕ) (r : Row) → (is_true (binary (Compare Eq Binary) (column r 1) (Text t)) && true) ≡ true
      → is_own ((name, (1, Text t) ∷ []) ∷ []) name r ≡ true
  text_found t r found =
      own_of_key name ((1, Text t) ∷ []) r (ap (λ (b : Bool). b && true)
      (compares (column r 1) (Text t) (and_parts (is_true (binary (Compare Eq Binary) (column r 1) (Text t))) true found).0))

  -- and what such a row becomes is still of this key, as a column of texts casts it
  pub text_kept : (t : List ℕ) (r n : Row) → column n 1 ≡ cast kind.Text (column r 1) → is_own ((name, (1, Text t) ∷ []) ∷ []) name r
      ≡ true → is_own ((name, (1, Text t) ∷ []) ∷ []) name n ≡ true
  text_kept t r n is own =
      let here = (and_parts (is_eq (value_cmp (column r 1) (Text t))) true (key_of_own name ((1, Text t) ∷ []) r own)).0 in
      own_of_key name ((1, Text t) ∷ []) n (ap (λ (b : Bool). b && true) (ap (λ (v : Value). is_eq (value_cmp v (Text t))) is ∙ text_stays (column r 1) t here))

  -- the text in front and the number after it, which are one UNIQUE
  pub pair_found : (t : List ℕ) (b : ℕ) (given r : Row) → column given 1 ≡ Text t → column given 2 ≡ Int (pos b)
      → is_of_key ((true, 1 ∷ 2 ∷ [], plain) ∷ []) (1 ∷ 2 ∷ []) given r ≡ true
      → is_own ((name, (1, Text t) ∷ (2, Int (pos b)) ∷ []) ∷ []) name r ≡ true
  unfolding first_key
  pair_found t b given r text number found =
      let first : Bool = is_true (binary (Compare Eq Binary) (column r 1) (column given 1)) in
      let second : Bool = is_true (binary (Compare Eq Binary) (column r 2) (column given 2)) in
      let both : (first && (second && true)) ≡ true = elim (or_cases (first && (second && true)) false found) [
        | inl it ↦ it
        | inr none ↦ absurd (false≢true none)
      ] in
      let parts = and_parts first (second && true) both in
      let last = (and_parts second true parts.1).0 in
      own_of_key name ((1, Text t) ∷ (2, Int (pos b)) ∷ []) r (ap₂ (λ (x y : Bool). x && (y && true))
      (ap (λ (v : Value). is_eq (value_cmp (column r 1) v)) (sym text) ∙ compares (column r 1) (column given 1) parts.0)
      (ap (λ (v : Value). is_eq (value_cmp (column r 2) v)) (sym number) ∙ compares (column r 2) (column given 2) last))

  -- and what such a row becomes is still of this key, as the two columns cast it
  pub pair_kept : (t : List ℕ) (b : ℕ) (r n : Row) → column n 1 ≡ cast kind.Text (column r 1) → column n 2 ≡ cast kind.Integer (column r 2)
      → is_own ((name, (1, Text t) ∷ (2, Int (pos b)) ∷ []) ∷ []) name r ≡ true
      → is_own ((name, (1, Text t) ∷ (2, Int (pos b)) ∷ []) ∷ []) name n ≡ true
  pair_kept t b r n text number own =
      let parts = and_parts (is_eq (value_cmp (column r 1) (Text t))) (is_eq (value_cmp (column r 2) (Int (pos b))) && true)
      (key_of_own name ((1, Text t) ∷ (2, Int (pos b)) ∷ []) r own) in
      let last = (and_parts (is_eq (value_cmp (column r 2) (Int (pos b)))) true parts.1).0 in
      own_of_key name ((1, Text t) ∷ (2, Int (pos b)) ∷ []) n (ap₂ (λ (x y : Bool). x && (y && true))
      (ap (λ (v : Value). is_eq (value_cmp v (Text t))) text ∙ text_stays (column r 1) t parts.0)
      (ap (λ (v : Value). is_eq (value_cmp v (Int (pos b)))) number ∙ number_stays (column r 2) (pos b) last))

  -- the row's own number
  pub number_found : (b : ℕ) (given r : Row) → column given 0 ≡ Int (pos b) → is_of_key [] (0 ∷ []) given r ≡ true
      → is_own ((name, (0, Int (pos b)) ∷ []) ∷ []) name r ≡ true
  unfolding first_key
  number_found b given r number found =
      let first : Bool = is_true (binary (Compare Eq Binary) (column r 0) (column given 0)) in
      let both : (first && true) ≡ true = elim (or_cases (first && true) false found) [
        | inl it ↦ it
        | inr none ↦ absurd (false≢true none)
      ] in
      own_of_key name ((0, Int (pos b)) ∷ []) r (ap (λ (b : Bool). b && true)
      (ap (λ (v : Value). is_eq (value_cmp (column r 0) v)) (sym number) ∙ compares (column r 0) (column given 0) (and_parts first true both).0))

  -- and what such a row becomes is still of this key, where it keeps its number
  pub own_number_kept : (b : ℕ) (r n : Row) → column n 0 ≡ column r 0 → is_own ((name, (0, Int (pos b)) ∷ []) ∷ []) name r ≡ true
      → is_own ((name, (0, Int (pos b)) ∷ []) ∷ []) name n ≡ true
  own_number_kept b r n same own =
      own_of_key name ((0, Int (pos b)) ∷ []) n (ap (λ (v : Value). is_eq (value_cmp v (Int (pos b))) && true) same
      ∙ key_of_own name ((0, Int (pos b)) ∷ []) r own)

-- ---- statements by a key

-- rows of a table of the office are set
pub keeps_set : (keys : Keys) (old new : State) (k : Kept) → IsInOffice k → HasAllTables old → (tests rest : List Term) (params : Row)
    → SetsRows (record k.table { tree = tree_in old.now.schema k.table.name })
    (query_on (tree_in old.now.schema k.table.name) tests (col 1 0 ∷ rest) [] no_limit) params old new → ChangesOnly k.table.name old.now new.now
    → ((r : Row) → list_all (holds (params ∷ r ∷ [])) tests ≡ true → is_own keys k.table.name r ≡ true)
    → ((r : Row) → IsTrue (is_int (rowid r)) → is_own keys k.table.name r ≡ true
    → (is_own keys k.table.name (cast_row k.table (eval_all rest (params ∷ r ∷ []))) ≡ true)
    × (rowid (cast_row k.table (eval_all rest (params ∷ r ∷ []))) ≡ rowid r))
    → AreInOrder (k.table.name ∷ []) old.now → KeepsRows keys old.now new.now
keeps_set keys old new k is_in has tests rest params sets only passes becomes order =
    let here = has sets.changed.inside.was_open in
    let kept = set_keeps (is_own keys k.table.name) (record k.table { tree = tree_in old.now.schema k.table.name }) tests rest params old
    new order.0 sets passes becomes in
    keeps_in keys old.now new.now k (is_in.there old.now.schema here) here only kept.0 (λ _. kept.1)

-- a row of a table of the office is put in or merged
pub keeps_merge : (keys : Keys) (old new : State) (k : Kept) → IsInOffice k → HasAllTables old → (m : Merging) (params row : Row)
    → Upserts (record k.table { tree = tree_in old.now.schema k.table.name }) m params old new row
    → ChangesOnly k.table.name old.now new.now → IsTrue old.is_open
    → is_own keys k.table.name (cast_row k.table (given_row k.table m params (old.now.trees (tree_in old.now.schema k.table.name)))) ≡ true
    → IsTrue (is_int (rowid (cast_row k.table (given_row k.table m params (old.now.trees (tree_in old.now.schema k.table.name))))))
    → ((r : Row) → is_of_key (own_keys k.table) m.key (given_row k.table m params (old.now.trees (tree_in old.now.schema k.table.name))) r
    ≡ true → is_own keys k.table.name r ≡ true)
    → ((r : Row) → IsTrue (is_int (rowid r)) → is_own keys k.table.name r ≡ true
    → (is_own keys k.table.name (set_row k.table m params (old.now.trees (tree_in old.now.schema k.table.name)) r) ≡ true)
    × (rowid (set_row k.table m params (old.now.trees (tree_in old.now.schema k.table.name)) r) ≡ rowid r))
    → AreInOrder (k.table.name ∷ []) old.now → KeepsRows keys old.now new.now
keeps_merge keys old new k is_in has m params row merged only runs given given_number keyed becomes order =
    let here = has runs in
    let kept = merge_keeps (is_own keys k.table.name) (record k.table { tree = tree_in old.now.schema k.table.name }) m params old new row
    order.0 merged given given_number keyed becomes in
    keeps_in keys old.now new.now k (is_in.there old.now.schema here) here only kept.0 (λ _. kept.1)

-- ---- a key of fewer parts

has_front : (key rest : Key) (row : Row) → has_key (key ++ rest) row ≡ true → has_key key row ≡ true
has_front [] rest row has = refl
has_front (part ∷ key) rest row has =
    let parts = and_parts (is_eq (value_cmp (column row part.0) part.1)) (has_key (key ++ rest) row) has in
    ap₂ ◌&&◌ parts.0 (has_front key rest row parts.1)

-- a row of a key is a row of the key that has only its first parts
pub fewer_parts : (table : List ℕ) (key rest : Key) → AreAmongKeys ((table, key ++ rest) ∷ []) ((table, key) ∷ [])
fewer_parts table key rest name row own = elim (or_cases (bytes_eq table name && has_key (key ++ rest) row) false own) [
  | inl here ↦ let parts = and_parts (bytes_eq table name) (has_key (key ++ rest) row) here in
      ap₂ (λ (x y : Bool). x && y || false) parts.0 (has_front key rest row parts.1)
  | inr none ↦ absurd (false≢true none)
]

-- ---- another table stays in order

-- a table's rows stay in the order of their numbers where only another was written
pub still_in_order : (j k : Kept) → IsInOffice j → IsInOffice k → (a b : Database) → HasOffice a.schema → ChangesOnly k.table.name a b
    → bytes_eq j.table.name k.table.name ≡ false
    → IsInOrder (rows_in a j.table.name) → IsInOrder (rows_in b j.table.name)
still_in_order j k j_in k_in a b has only apart order =
    subst IsInOrder (sym (rows_kept a b j.table k.table only (j_in.there a.schema has).0 (k_in.there a.schema has).0 (names_differ _ _ apart))) order
