-- What an upsert sets, and what it shows, read a row that is given: its columns are the same
-- wherever the table stands.
use Rattle.std.proofs.Common.{◌≡◌, ℕ, Bool, true, false, not, ◌&&◌, ◌==◌, if◌then◌else◌, unwrap_or, option_map, Option, Some, None, List, [], ◌∷◌, is_some, length, map, slice_get, Ok, refl, sym, ap, ◌∙◌, true≢false}
use Rattle.std.specs.Char.{to_ascii_lowercase}
use Rattle.std.proofs.lemmas.Bool.{and_parts}
use Rattle.std.proofs.lemmas.Map.Text.{is_eq-slice_cmp}
use Rattle.std.proofs.lemmas.Slice.Eq.{bytes_eq-Decides}
use Rattle.sqlite_schema.specs.Names.{column_named, same_name}
use Rattle.sqlite_schema.specs.declared.schema.Schema.{Schema}
use Rattle.sqlite_schema.specs.declared.schema.Table.{Table}
use Rattle.sqlite_resolve.specs.declared.compare.Affinity.{Affinity}
use Rattle.sqlite_resolve.specs.declared.compare.Affinity.TheVariants.{None as None'}
use Rattle.sqlite_resolve.specs.declared.scope.Bound.{Bound}
use Rattle.sqlite_resolve.specs.declared.scope.Found.TheVariants.{Column}
use Rattle.sqlite_resolve.specs.Compare.{at_place, or_else, of_column}
use Rattle.sqlite_resolve.specs.Given.{given, with_given}
use Rattle.sqlite_resolve.specs.Scope.{Context, Name, find, in_level, only, hit, is_among, is_rowid, column_in}
use Rattle.one_table.specs.Simple.{one}
use Rattle.one_table.specs.Upserting.{excluded, hidden, settable, setting, showable, showing}
use Rattle.one_table.proofs.AlikeLemmas.{at_place_same}
use Rattle.one_table.proofs.ExprLemmas.{AreAlike, Finds}
use Rattle.one_table.proofs.GrowthLemmas.{got_next, got_stays}
use Rattle.one_table.proofs.SelectLemmas.{false_is}

-- a name is as any other that is the same but for the case of its letters
same_as : (a b c : Name) → same_name a b ≡ true → same_name c b ≡ same_name c a
unfolding same_name
same_as a b c h =
    let low : List ℕ → List ℕ = map to_ascii_lowercase in
    let is : low a ≡ low b = (bytes_eq-Decides (low a) (low b)).0 (sym (is_eq-slice_cmp (low a) (low b)) ∙ h) in
    ap (λ x. Rattle.std.specs.Ordering.is_eq (Rattle.std.specs.Cmp.Lexicographic.slice_cmp Rattle.std.specs.Ordering.nat_cmp (low c) x)) (sym is)

by_some : {A : Type 0} (P : Type 0) (o : Option A) → is_some o ≡ true → ((a : A) → o ≡ Some a → P) → P
by_some P None h f = absurd (true≢false (sym h))
by_some P (Some a) h f = f a refl

module _ (s : Schema) (t : Table) (count : ℕ) where
  last_is : slice_get (with_given s t count).tables (length s.tables) ≡ Some (given t count)
  last_is = got_next s.tables (given t count) []

  module _ (at : ℕ) (listed : slice_get s.tables at ≡ Some t) (apart : same_name t.name excluded ≡ false) where
    abbrev here : Context
    here = setting s at t count

    abbrev there : Context
    there = setting (one t) 0 t count

    stays : slice_get (with_given s t count).tables at ≡ Some t
    stays = got_stays s.tables (given t count ∷ []) at t listed

    -- the affinity of a column, by whether its slot is that of the row there, or of the row that is
    -- given
    affinity_in : Context → ℕ → ℕ → ℕ → ℕ → Bool → Bool → Affinity
    affinity_in cx place other slot p is_there is_given = if slot == 0 && p == 0 then None' else unwrap_or (option_map (λ table. at_place cx.schema table p)
        (or_else (option_map (λ (b : Bound). b.table) (if is_there then Some (record { name = t.name; table = place; slot = 1; shared = [] }) else None))
        (or_else (option_map (λ (b : Bound). b.table) (if is_given then
        Some (record { name = excluded; table = other; slot = 0; shared = [] }) else None)) None))) None'

    affine : (slot p : ℕ) → of_column here slot p ≡ of_column there slot p
    unfolding of_column affinity_in
    affine slot p = elim (1 == slot) as (λ b. affinity_in here at (length s.tables) slot p b (0 == slot) ≡ affinity_in there 0 1 slot p b (0 == slot)) [
      | true ↦ ap (λ a. if slot == 0 && p == 0 then None' else a) (at_place_same (with_given s t count) (with_given (one t) t count) at 0 p stays)
      | false ↦ elim (0 == slot) as (λ b. affinity_in here at (length s.tables) slot p false b ≡ affinity_in there 0 1 slot p false b) [
        | true ↦ ap (λ a. if slot == 0 && p == 0 then None' else a)
            (at_place_same (with_given s t count) (with_given (one t) t count) (length s.tables) 1 p last_is)
        | false ↦ refl
      ]
    ]

    bare_here : (c : Name) (k : ℕ) → column_named t c ≡ Some k → find here None c ≡ Ok (Column 1 at k)
    unfolding find in_level only hit is_among column_in
    bare_here c k h = rw (stays, h)

    bare_there : (c : Name) (k : ℕ) → column_named t c ≡ Some k → find there None c ≡ Ok (Column 1 0 k)
    unfolding find in_level only hit is_among column_in
    bare_there c k h = rw h

    given_here : (table c : Name) (k : ℕ) → same_name t.name table ≡ false → same_name excluded table ≡ true
        → column_named (given t count) c ≡ Some k → find here (Some table) c ≡ Ok (Column 0 (length s.tables) k)
    unfolding find in_level only hit column_in
    given_here table c k other is h = by_rowid (is_rowid c) refl
      where
        by_rowid : (b : Bool) → is_rowid c ≡ b → find here (Some table) c ≡ Ok (Column 0 (length s.tables) k)
        by_rowid true rowid = rw (other, rowid, is, last_is, h)
        by_rowid false rowid = rw (other, rowid, is, last_is, h)

    given_there : (table c : Name) (k : ℕ) → same_name t.name table ≡ false → same_name excluded table ≡ true
        → column_named (given t count) c ≡ Some k → find there (Some table) c ≡ Ok (Column 0 1 k)
    unfolding find in_level only hit column_in
    given_there table c k other is h = by_rowid (is_rowid c) refl
      where
        by_rowid : (b : Bool) → is_rowid c ≡ b → find there (Some table) c ≡ Ok (Column 0 1 k)
        by_rowid true rowid = rw (other, rowid, is, h)
        by_rowid false rowid = rw (other, rowid, is, h)

    finds : (table : Option Name) (c : Name) → settable t count table c ≡ true → Finds here there table c
    finds None c h =
        by_some (Finds here there None c) (column_named t c) h
        (λ k is. record { slot = 1; at = k; place = at; other = 0; found = bare_here c k is; found_there = bare_there c k is; tables = stays })
    finds (Some table) c h =
        let parts = and_parts (same_name excluded table) (is_some (column_named (given t count) c)) h in
        let other : same_name t.name table ≡ false = same_as excluded table t.name parts.0 ∙ apart in
        by_some (Finds here there (Some table) c) (column_named (given t count) c) parts.1 (λ k is. record {
          slot = 0;
          at = k;
          place = length s.tables;
          other = 1;
          found = given_here table c k other parts.0 is;
          found_there = given_there table c k other parts.0 is;
          tables = last_is;
        })

    -- in what an upsert sets, the names find the same here and where the table stands alone
    pub settings_alike : AreAlike (settable t count) here there
    settings_alike = record { finds = finds; affine = affine; aggregates = refl }

  -- ---- what is shown

  abbrev shows_here : Context
  shows_here = showing s t count

  abbrev shows_there : Context
  shows_there = showing (one t) t count

  affinity_shown : Context → ℕ → ℕ → ℕ → Bool → Affinity
  affinity_shown cx place slot p is_given = if slot == 0 && p == 0 then None' else unwrap_or (option_map (λ table. at_place cx.schema table p)
      (or_else (option_map (λ (b : Bound). b.table) (if is_given then Some (record { name = t.name; table = place; slot = 0; shared = hidden t }) else None))
      (or_else (option_map (λ (b : Bound). b.table) (if is_given then
      Some (record { name = t.name; table = place; slot = 0; shared = [] }) else None)) None))) None'

  shown_affine : (slot p : ℕ) → of_column shows_here slot p ≡ of_column shows_there slot p
  unfolding of_column affinity_shown
  shown_affine slot p = elim (0 == slot) as (λ b. affinity_shown shows_here (length s.tables) slot p b ≡ affinity_shown shows_there 1 slot p b) [
    | true ↦ ap (λ a. if slot == 0 && p == 0 then None' else a)
        (at_place_same (with_given s t count) (with_given (one t) t count) (length s.tables) 1 p last_is)
    | false ↦ refl
  ]

  shown_here : (c : Name) (k : ℕ) → is_among c (hidden t) ≡ false → column_named (given t count) c ≡ Some k → find shows_here None c
      ≡ Ok (Column 0 (length s.tables) k)
  unfolding find in_level only hit column_in
  shown_here c k visible h = rw (visible, last_is, h)

  shown_there : (c : Name) (k : ℕ) → is_among c (hidden t) ≡ false → column_named (given t count) c ≡ Some k → find shows_there None c ≡ Ok (Column 0 1 k)
  unfolding find in_level only hit column_in
  shown_there c k visible h = rw (visible, h)

  finds_shown : (table : Option Name) (c : Name) → showable t count table c ≡ true → Finds shows_here shows_there table c
  finds_shown (Some table) c h = absurd (true≢false (sym h))
  finds_shown None c h =
      let parts = and_parts (not (is_among c (hidden t))) (is_some (column_named (given t count) c)) h in
      let visible = false_is (is_among c (hidden t)) parts.0 in
      by_some (Finds shows_here shows_there None c) (column_named (given t count) c) parts.1
      (λ k is. record {
        slot = 0;
        at = k;
        place = length s.tables;
        other = 1;
        found = shown_here c k visible is;
        found_there = shown_there c k visible is;
        tables = last_is;
      })

  -- the same in what an upsert shows
  pub shown_alike : AreAlike (showable t count) shows_here shows_there
  shown_alike = record { finds = finds_shown; affine = shown_affine; aggregates = refl }
