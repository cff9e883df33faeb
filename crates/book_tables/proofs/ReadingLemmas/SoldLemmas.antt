-- Whether something was sold, to a meter or since a day, as the statements find it.
use Rattle.std.proofs.Common.{get_or, ◌≡◌, ◌∙◌, ◌+◌, ◌*◌, ◌≤◌, ◌<◌, ℕ, true, false, List, [], ◌∷◌, Option, None, Some, IfSome, arith, is_some, map, nat_le, option_map, pos, refl, sym, ap, ap₂, subst}
use Rattle.std.specs.Prelude.{◌||◌, ◌&&◌, All, Bool, Contains, bytes_eq, cond, filter, codes}
use Rattle.std.specs.List.{last_or, list_any}
use Rattle.std.specs.Option.{option_to_list}
use Rattle.std.proofs.lemmas.Bool.{and_from, and_parts, false≢true, le-leb, leb-true}
use Rattle.std.proofs.lemmas.List.Elements.{All-filter, All-head, All-map, All-tail, All-weaker, Contains-get_or}
use Rattle.std.proofs.lemmas.List.Folds.{Any-from_list_any, list_any_at}
use Rattle.std.proofs.lemmas.Slice.Eq.{bytes_eq-Decides}
use Rattle.sqlite.specs.declared.types.Value.TheVariants.{Int, Text}
use Rattle.sqlite_sql.specs.Ops.{binary, is_true}
use Rattle.sqlite_sql.specs.Term.{lit}
use Rattle.sqlite_sql.specs.declared.ops.BinaryOp.TheVariants.{Compare}
use Rattle.sqlite_sql.specs.declared.ops.CompareOp.TheVariants.{Ge}
use Rattle.sqlite_typed.proofs.TestLemmas.{at_ints, last_term}
use Rattle.sqlite_value.specs.declared.keys.Collation.TheVariants.{Binary}
use Rattle.sts_fields.specs.Base.{base_eq}
use Rattle.sts_fields.specs.Day.{day_at}
use Rattle.sts_fields.specs.Moment.{IsMoment, first_moment}
use Rattle.sts_fields.specs.Tid.{last_tid}
use Rattle.sts_fields.specs.declared.base.Base.{Base}
use Rattle.sts_fields.specs.declared.base.Base.TheVariants.{Y1993, Y2014, Y2035}
use Rattle.office_rules.specs.Office.Lookup.{greatest_of}
use Rattle.office_rules.specs.declared.office.sale.Sale.{Sale}
use Rattle.one_table.proofs.ListedLemmas.{last_by_key}
use Rattle.one_table.proofs.TestsLemmas.{text_is}
use Rattle.book_tables.specs.Kept.{last_ids_kept, sales_kept}
use Rattle.book_tables.specs.Stands.{sales_under}
use Rattle.book_tables.specs.Tables.{last_ids_table, sales_table}
use Rattle.book_tables.specs.declared.row.total_records.Tid.{Tid}
use Rattle.book_tables.specs.reading.Questions.{first_second}
use Rattle.book_tables.specs.reading.Reading.{AreOfOffice}
use Rattle.book_tables.specs.row.Rows.{Rows, last_id_columns, number, shown_number}
use Rattle.book_tables.specs.row.Values.{AreSaleValues, IsNumber, IsTid}
use Rattle.book_tables.proofs.ReadingLemmas.DatedDayLemmas.{TellsGreatest}
use Rattle.book_tables.proofs.ReadingLemmas.FindLemmas.{Finds}
use Rattle.book_tables.proofs.ReadingLemmas.LastLemmas.{last_number_keeps, last_number_shown, numbers_rise}
use Rattle.book_tables.proofs.ReadingLemmas.LatestLemmas.{greatest_hidden}
use Rattle.book_tables.proofs.ReadingLemmas.SaleLemmas.{numbered, sales_keep_values}
use Rattle.book_tables.proofs.ReadingLemmas.SaleTexts.{sold_since_asks, sold_since_query, sold_since_text}
use Rattle.book_tables.proofs.RowLemmas.RecordLemmas.{one_number}
use Rattle.book_tables.proofs.SalesOfLemmas.{greatest_within}
use Rattle.book_tables.proofs.ReadingLemmas.TotalsReadLemmas.{keeps_of, one_tid, own_totals, tid_of, tids_within}
use Rattle.book_tables.proofs.WritingLemmas.TotalsTexts.{last_id_names, last_id_of_meter_asks, last_id_of_meter_query, last_id_of_meter_text}

-- ---- whether some element passes

-- as two tests that agree on each element have it
any_alike : {X : Type 0} (p q : X → Bool) (xs : List X) → All (λ x. p x ≡ q x) xs → list_any p xs ≡ list_any q xs
any_alike p q [] alike = refl
any_alike p q (x ∷ xs) alike = ap₂ ◌||◌ (All-head (λ x. p x ≡ q x) x xs alike) (any_alike p q xs (All-tail (λ x. p x ≡ q x) x xs alike))

same_bool : (a b : Bool) → (a ≡ true → b ≡ true) → (b ≡ true → a ≡ true) → a ≡ b
same_bool true b there back = sym (there refl)
same_bool false true there back = back refl
same_bool false false there back = refl

found_in : {X : Type 0} (p : X → Bool) (xs : List X) → list_any p xs ≡ true → (x : X) × Contains xs x × (p x ≡ true)
found_in p xs e = let there = Any-from_list_any p xs e in (there.1, (there.0, there.2, there.3), there.4)

one_in : {X : Type 0} (p : X → Bool) (xs : List X) (x : X) → Contains xs x → p x ≡ true → list_any p xs ≡ true
one_in p xs x there passes = list_any_at p xs there.0 x there.1 (ap p there.2 ∙ passes)

some_after : {X : Type 0} (o : Option X) (xs : List X) → is_some o ≡ true → is_some (last_or o xs) ≡ true
some_after o [] some = some
some_after o (x ∷ xs) some = some_after (Some x) xs refl

-- there is a last one of those that pass exactly where one passes
last_passes : {X : Type 0} (p : X → Bool) (xs : List X) → is_some (last_or None (filter p xs)) ≡ list_any p xs
last_passes p [] = refl
last_passes p (x ∷ xs) = go (p x) (last_passes p xs)
  where
    go : (b : Bool) → is_some (last_or None (filter p xs)) ≡ list_any p xs
        → is_some (last_or None (cond b (x ∷ filter p xs) (filter p xs))) ≡ (b || list_any p xs)
    go true more = some_after (Some x) (filter p xs) refl
    go false more = more

-- and a greatest one
greatest_passes : {X : Type 0} (f : X → ℕ) (p : X → Bool) (xs : List X) → is_some (greatest_of (map f (filter p xs))) ≡ list_any p xs
greatest_passes f p [] = refl
greatest_passes f p (x ∷ xs) = go (p x) (greatest_passes f p xs)
  where
    go : (b : Bool) → is_some (greatest_of (map f (filter p xs))) ≡ list_any p xs
        → is_some (greatest_of (map f (cond b (x ∷ filter p xs) (filter p xs)))) ≡ (b || list_any p xs)
    go true more = refl
    go false more = more

-- what is made of a value is there where the value is
pub some_mapped : {X Y : Type 0} (f : X → Y) (o : Option X) → is_some (option_map f o) ≡ is_some o
some_mapped f None = refl
some_mapped f (Some x) = refl

some_there : {X : Type 0} (o : Option X) → is_some o ≡ true → (x : X) × (o ≡ Some x)
some_there None some = absurd (false≢true some)
some_there (Some x) some = (x, refl)

own_base : (base : Base) → base_eq base base ≡ true
own_base Y1993 = refl
own_base Y2014 = refl
own_base Y2035 = refl

-- ---- a sale on a day or later

-- what a law says of the moments of a day
abbrev pub TellsMoments : Type 0
TellsMoments = (secs : ℕ) → IsMoment secs → (first_moment + day_at secs * 86400 ≤ secs) × (secs < first_moment + (day_at secs + 1) * 86400)

module _ (day : ℕ) where
  abbrev is_since : Sale → Bool
  is_since s = nat_le (first_second day) s.moment

  -- the number of the last such sale
  abbrev pub last_since : Rows → Option ℕ
  last_since rows = option_map (λ s. s.number) (last_or None (filter is_since rows.sales))

  moment_from : (a b : ℕ) → is_true (binary (Compare Ge Binary) (Int (pos a)) (Int (pos b))) ≡ nat_le b a
  moment_from a b = at_ints false Ge (pos a) (pos b)

  -- the text finds the last sale of those that were made on the day or later
  pub sold_since : Finds sales_kept sold_since_text (number (first_second day) ∷ []) shown_number IsNumber last_since
  sold_since = record {
    table = sales_table;
    query = sold_since_query;
    names = codes "number" ∷ [];
    asks = sold_since_asks (first_second day);
    stands = λ s has. has.0.has;
    one = λ a b keeps_a keeps_b same. one_number a b same;
    kept = λ rows of_office. last_number_keeps (λ s. s.number) IsNumber (filter is_since rows.sales)
        (All-filter is_since (λ s. IsNumber s.number) rows.sales
        (All-weaker AreSaleValues (λ s. IsNumber s.number) (λ s keeps. keeps.number) rows.sales (sales_keep_values rows of_office)));
    answers = λ db rows held of_office answer is.
        last_by_key (record { holds_them = held.1.1; passes = λ s. last_term (moment_from s.moment (first_second day)); shows = λ s. refl }) 0
        (λ s. pos s.number) (λ s. refl) (lit (Int (pos 1))) answer
        (numbers_rise (λ (s : Sale). s.number) rows.sales (numbered rows of_office)) is
        ∙ last_number_shown (λ (s : Sale). s.number) (filter is_since rows.sales);
  }

  module _ (tells : TellsMoments) where
    same_test : (s : Sale) → AreSaleValues s → is_since s ≡ nat_le day (day_at s.moment)
    same_test s values =
        let whole = tells s.moment values.moment in
        same_bool (is_since s) (nat_le day (day_at s.moment))
        (λ since. le-leb day (day_at s.moment) (let low = leb-true (first_second day) s.moment since in omega (arith, whole, low)))
        (λ since. le-leb (first_second day) s.moment (let low = leb-true day (day_at s.moment) since in omega (arith, whole, low)))

    -- it tells whether one was
    pub since_is : (rows : Rows) → AreOfOffice rows → is_some (last_since rows) ≡ list_any (λ s. nat_le day (day_at s.moment)) rows.sales
    since_is rows of_office =
        some_mapped (λ (s : Sale). s.number) (last_or None (filter is_since rows.sales)) ∙ last_passes is_since rows.sales
        ∙ any_alike is_since (λ s. nat_le day (day_at s.moment)) rows.sales
        (All-weaker AreSaleValues (λ s. is_since s ≡ nat_le day (day_at s.moment)) same_test rows.sales (sales_keep_values rows of_office))

-- ---- a sale to a meter

module _ (meter : List ℕ) where
  abbrev is_of : ((List ℕ × Base) × ℕ) → Bool
  is_of r = bytes_eq r.0.0 meter

  abbrev last_of : ((List ℕ × Base) × ℕ) → ℕ
  last_of r = r.1

  abbrev is_to : Sale → Bool
  is_to s = bytes_eq s.meter meter

  -- the greatest identifier of the meter's, in the rows
  abbrev greatest_id : Rows → Option ℕ
  greatest_id rows = greatest_of (map last_of (filter is_of rows.last_ids))

  -- the same as it is read
  abbrev pub found_id : Rows → Option Tid
  found_id rows = option_map tid_of (greatest_id rows)

  id_within : (rows : Rows) → AreOfOffice rows → (r : (List ℕ × Base) × ℕ) → Contains rows.last_ids r → IsTid r.1
  id_within rows of_office r there =
      subst (λ (o : Option ℕ). IfSome o IsTid) (((own_totals rows of_office).last_ids.members r.0 r.1).1 there) (tids_within r.0.0 r.0.1 rows of_office)

  ids_within : (rows : Rows) → AreOfOffice rows → All (λ n. IsTid n) (map last_of (filter is_of rows.last_ids))
  ids_within rows of_office =
      All-map IsTid last_of (filter is_of rows.last_ids)
      (All-filter is_of (λ r. IsTid r.1) rows.last_ids
      (λ i d within. id_within rows of_office (get_or rows.last_ids i d) (Contains-get_or rows.last_ids i d within)))

  shown_as : (o : Option ℕ) → map shown_number (option_to_list o) ≡ map (λ (t : Tid). shown_number t.number) (option_to_list (option_map tid_of o))
  shown_as None = refl
  shown_as (Some n) = refl

  module _ (tells : TellsGreatest) where
    -- the text finds the greatest identifier that was sold to the meter
    pub last_id_of : Finds last_ids_kept last_id_of_meter_text (Text meter ∷ []) (λ (t : Tid). shown_number t.number) (λ (t : Tid). IsTid t.number) found_id
    last_id_of = record {
      table = last_ids_table;
      query = last_id_of_meter_query;
      names = last_id_names;
      asks = last_id_of_meter_asks meter;
      stands = λ s has. has.0.has;
      one = λ a b keeps_a keeps_b same. one_tid a b same;
      kept = λ rows of_office. keeps_of IsTid (λ (t : Tid). IsTid t.number) tid_of (λ n kept. kept) (greatest_id rows)
          (greatest_within last_tid (map last_of (filter is_of rows.last_ids)) (ids_within rows of_office));
      answers = λ db rows held of_office answer is.
          let found = greatest_hidden {stored = last_id_columns} {xs = rows.last_ids} {p = is_of} last_of
          (record {
            holds_them = held.1.1.0;
            some = λ r none. cc;
            passes = λ hidden r. last_term (text_is r.0.0 meter);
            shows = λ hidden r. refl;
          }) 3
          (λ hidden r. refl) answer is in
          found.2 ∙ ap (λ (o : Option ℕ). map shown_number (option_to_list o)) ((tells (map last_of (filter is_of rows.last_ids)) found.0).0 found.1)
          ∙ shown_as (greatest_id rows);
    }

  sold_so : (rows : Rows) → AreOfOffice rows → list_any is_of rows.last_ids ≡ true → list_any is_to rows.sales ≡ true
  sold_so rows of_office some =
      let row = found_in is_of rows.last_ids some in
      let under = ((own_totals rows of_office).last_ids.members row.0.0 row.0.1).1 row.1 in
      let sold : list_any (λ s. bytes_eq s.meter row.0.0.0 && base_eq s.base row.0.0.1) rows.sales ≡ true =
      sym (greatest_passes (λ (s : Sale). s.tid) (λ s. bytes_eq s.meter row.0.0.0 && base_eq s.base row.0.0.1) rows.sales) ∙ ap is_some under in
      let sale = found_in (λ (s : Sale). bytes_eq s.meter row.0.0.0 && base_eq s.base row.0.0.1) rows.sales sold in
      let to_it = (bytes_eq-Decides sale.0.meter row.0.0.0).0 (and_parts (bytes_eq sale.0.meter row.0.0.0) (base_eq sale.0.base row.0.0.1) sale.2).0 in
      one_in is_to rows.sales sale.0 sale.1
      ((bytes_eq-Decides sale.0.meter meter).1 (to_it ∙ (bytes_eq-Decides row.0.0.0 meter).0 row.2))

  has_so : (rows : Rows) → AreOfOffice rows → list_any is_to rows.sales ≡ true → list_any is_of rows.last_ids ≡ true
  has_so rows of_office some =
      let sale = found_in is_to rows.sales some in
      let key : List ℕ × Base = (sale.0.meter, sale.0.base) in
      let under : is_some (greatest_of (map (λ (s : Sale). s.tid) (sales_under rows.sales key))) ≡ true =
      greatest_passes (λ (s : Sale). s.tid) (λ s. bytes_eq s.meter key.0 && base_eq s.base key.1) rows.sales
      ∙ one_in (λ s. bytes_eq s.meter key.0 && base_eq s.base key.1) rows.sales sale.0 sale.1
      (and_from (bytes_eq sale.0.meter key.0) (base_eq sale.0.base key.1) ((bytes_eq-Decides sale.0.meter key.0).1 refl) (own_base sale.0.base)) in
      let last = some_there (greatest_of (map (λ (s : Sale). s.tid) (sales_under rows.sales key))) under in
      let row : (List ℕ × Base) × ℕ = (key, last.0) in
      one_in is_of rows.last_ids row (((own_totals rows of_office).last_ids.members key last.0).0 last.1) sale.2

  -- it tells whether anything was sold to the meter
  pub sold_is : (rows : Rows) → AreOfOffice rows → is_some (found_id rows) ≡ list_any is_to rows.sales
  sold_is rows of_office =
      some_mapped tid_of (greatest_id rows) ∙ greatest_passes last_of is_of rows.last_ids
      ∙ same_bool (list_any is_of rows.last_ids) (list_any is_to rows.sales) (sold_so rows of_office) (has_so rows of_office)
