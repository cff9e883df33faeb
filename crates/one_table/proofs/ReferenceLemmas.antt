-- References, as a schema grows by one table.
use Rattle.std.proofs.Common.{◌≡◌, ◌⊎◌, ℕ, ◌<◌, ◌==◌, Bool, true, false, not, ◌||◌, List, [], ◌∷◌, ◌++◌, find, option_map, unwrap_or, Option, None, Some, refl, sym, ap, subst, ◌∙◌, inl, inr, arith, append_assoc}
use Rattle.std.proofs.lemmas.Bool.{cases_Bool, not-true, or_cases, or_left, or_right}
use Rattle.std.proofs.lemmas.List.Folds.{find-append}
use Rattle.std.specs.Option.{option_or}
use Rattle.std.specs.List.{list_all}
use Rattle.sqlite_rules.specs.Lists.{Has as Member}
use Rattle.sqlite_rules.proofs.ListLemmas.{has_either, has_found, test_has, test_from, some_has, some_from}
use Rattle.sqlite_schema.specs.declared.schema.Reference.{Reference}
use Rattle.sqlite_schema.specs.declared.schema.Schema.{Schema}
use Rattle.sqlite_schema.specs.declared.schema.Table.{Table}
use Rattle.sqlite_schema.specs.Names.{same_name}
use Rattle.sqlite_catalog.specs.Change.{created, next_tree}
use Rattle.sqlite_catalog.proofs.SoundLemmas.{lowered}
use Rattle.sqlite_catalog.proofs.StepLemmas.{table_below}
use Rattle.sqlite.specs.Does.{lacks_sequence}
use Rattle.one_table.specs.Making.{counters, made}
use Rattle.one_table.specs.Referring.{is_among, is_apart, is_unreferred, is_idle, is_harmless, points_to, is_left_alone}
use Rattle.one_table.proofs.GrowthLemmas.{below_differs, above_differs}
use Rattle.one_table.proofs.NewTableLemmas.{next_after}

-- the new table stands behind the others, and behind it at most one that refers to nothing
pub record Added (s : Schema) (t : Table) (b : Schema) : Type 0 where
  pub tail : List Table
  pub tables : b.tables ≡ s.tables ++ record t { tree = next_tree s } ∷ tail
  pub bare : (u : Table) → Member tail u → u.references ≡ []
  pub above : (u : Table) → Member tail u → next_tree s < u.tree

-- a table that is made stands behind the others so, with at most the counters after it
pub made_adds : (s : Schema) (t : Table) → Added s t (made s t)
made_adds s t =
    let new : Table = record t { tree = next_tree s } in
    elim (cases_Bool (lacks_sequence (created s t))) [
      | inl lacks ↦ rw lacks (record {
        tail = record counters { tree = next_tree (created s t) } ∷ [];
        tables = append_assoc s.tables (new ∷ []) (record counters { tree = next_tree (created s t) } ∷ []);
        bare = λ u h. elim h [ inl e ↦ ap (λ (v : Table). v.references) e | inr none ↦ absurd none ];
        above = λ u h. elim h [ inl e ↦ omega (arith, ap (λ (v : Table). v.tree) e, next_after s t) | inr none ↦ absurd none ];
      })
      | inr not ↦ rw not (record { tail = []; tables = refl; bare = λ u h. absurd h; above = λ u h. absurd h })
    ]

abbrev points_among : Option Table → ℕ → Bool
points_among o tree = unwrap_or (option_map (λ u. u.tree == tree) o) false

unpointed : (o : Option Table) (tree : ℕ) → ((u : Table) → o ≡ Some u → (u.tree == tree) ≡ false) → points_among o tree ≡ false
unpointed None tree all = refl
unpointed (Some u) tree all = all u refl

first_or_later : (first later : Option Table) (tree : ℕ) → points_among first tree ≡ false
    → ((u : Table) → later ≡ Some u → (u.tree == tree) ≡ false) → points_among (option_or first later) tree ≡ false
first_or_later None later tree not all = unpointed later tree all
first_or_later (Some u) later tree not all = not

-- a name is one of these if one that is the same is
among_by : (names : List (List ℕ)) (a b : List ℕ) → same_name a b ≡ true → is_among names a ≡ true → is_among names b ≡ true
among_by names a b same h =
    let it = some_has (λ n. same_name a n) names h in
    some_from (λ n. same_name b n) names it.0 it.1 ((lowered b it.0).1 (sym ((lowered a b).0 same) ∙ (lowered a it.0).0 it.2))

at_reference : (s : Schema) (tree : ℕ) (u : Table) (r : Reference) → is_left_alone s tree ≡ true → Member s.tables u
    → Member u.references r → (is_idle r || not (points_to s tree r)) ≡ true
at_reference s tree u r all h k =
    test_has (λ r. is_idle r || not (points_to s tree r)) u.references r
    (test_has (λ u. list_all (λ r. is_idle r || not (points_to s tree r)) u.references) s.tables u all h) k

harmless_reference : (names : List (List ℕ)) (s : Schema) (u : Table) (r : Reference) → is_harmless names s ≡ true → Member s.tables u
    → Member u.references r → (is_idle r || not (is_among names r.parent)) ≡ true
harmless_reference names s u r all h k =
    test_has (λ r. is_idle r || not (is_among names r.parent)) u.references r
    (test_has (λ u. list_all (λ r. is_idle r || not (is_among names r.parent)) u.references) s.tables u all h) k

module _ (s : Schema) (t : Table) (b : Schema) (added : Added s t b) where
  -- a table of the grown schema stood before, is the new one, or refers to nothing
  cases_added : (u : Table) → Member b.tables u → Member s.tables u ⊎ ((u ≡ record t { tree = next_tree s }) ⊎ Member added.tail u)
  cases_added u h = elim (has_either s.tables (record t { tree = next_tree s } ∷ added.tail) u (subst (λ l. Member l u) added.tables h)) [
    | inl old ↦ inl old
    | inr more ↦ inr more
  ]

  -- a test that all tables passed, and that the new one passes
  pub all_added : (p : Table → Bool) → list_all p s.tables ≡ true → p (record t { tree = next_tree s }) ≡ true
      → ((u : Table) → u.references ≡ [] → p u ≡ true) → list_all p b.tables ≡ true
  all_added p old new bare = test_from p b.tables (λ u h. elim (cases_added u h) [
    | inl before ↦ test_has p s.tables u old before
    | inr later ↦ elim later [ inl is ↦ ap p is ∙ new | inr tail ↦ bare u (added.bare u tail) ]
  ])

  -- where no other table refers to these names, none does with the new one, if it is of them
  pub still_unreferred : (names : List (List ℕ)) → is_among names t.name ≡ true → is_unreferred names s ≡ true → is_unreferred names b ≡ true
  still_unreferred names ours old = all_added (is_apart names) old (or_left _ _ ours)
      (λ u none. or_right _ _ (ap (list_all (λ r. not (is_among names r.parent))) none))

  -- references onto these names still take no action, if none of the new table's does
  pub still_harmless : (names : List (List ℕ)) → list_all is_idle t.references ≡ true → is_harmless names s ≡ true → is_harmless names b ≡ true
  still_harmless names idle old = all_added (λ u. list_all (λ r. is_idle r || not (is_among names r.parent)) u.references) old
      (test_from (λ r. is_idle r || not (is_among names r.parent)) t.references (λ r h. or_left _ _ (test_has is_idle t.references r idle h)))
      (λ u none. ap (list_all (λ r. is_idle r || not (is_among names r.parent))) none)

  later_above : (tree : ℕ) (u : Table) → tree < next_tree s → Member (record t { tree = next_tree s } ∷ added.tail) u → tree < u.tree
  later_above tree u low (inl same) = omega (arith, ap (λ (v : Table). v.tree) same)
  later_above tree u low (inr tail) = omega (arith, added.above u tail)

  -- a reference that did not point to a tree that stood does not do so now
  points_as_before : (tree : ℕ) (r : Reference) → tree < next_tree s → points_to s tree r ≡ false → points_to b tree r ≡ false
  points_as_before tree r low not =
      let named : Table → Bool = λ u. same_name u.name r.parent in
      let rest = record t { tree = next_tree s } ∷ added.tail in
      ap (λ l. points_among (find named l) tree) added.tables ∙ ap (λ o. points_among o tree) (find-append named s.tables rest)
      ∙ first_or_later (find named s.tables) (find named rest) tree not
      (λ u is. above_differs u.tree tree (later_above tree u low (has_found named rest u is).0))

  each_reference : (p : Reference → Bool) → ((u : Table) (r : Reference) → Member s.tables u → Member u.references r → p r ≡ true)
      → ((r : Reference) → is_idle r ≡ true → p r ≡ true)
      → list_all is_idle t.references ≡ true → list_all (λ u. list_all p u.references) b.tables ≡ true
  each_reference p old idle own = all_added (λ u. list_all p u.references)
      (test_from (λ u. list_all p u.references) s.tables (λ u h. test_from p u.references (λ r k. old u r h k)))
      (test_from p t.references (λ r h. idle r (test_has is_idle t.references r own h)))
      (λ u none. ap (list_all p) none)

  -- a table that stood is still left alone, if no reference of the new one takes an action
  pub still_left_alone : (tree : ℕ) → tree < next_tree s → list_all is_idle t.references ≡ true → is_left_alone s tree ≡ true → is_left_alone b tree ≡ true
  still_left_alone tree low idle old = each_reference (λ r. is_idle r || not (points_to b tree r))
      (λ u r h k. elim (or_cases (is_idle r) (not (points_to s tree r)) (at_reference s tree u r old h k)) [
        | inl idles ↦ or_left _ _ idles
        | inr apart ↦ or_right _ _ (ap not (points_as_before tree r low (not-true _ apart)))
      ]) (λ r idles. or_left _ _ idles) idle

  -- a reference to none of the names does not point to the new table
  apart_from_new : (names : List (List ℕ)) (r : Reference) → is_among names t.name ≡ true → is_among names r.parent ≡ false
      → points_to b (next_tree s) r ≡ false
  apart_from_new names r ours apart =
      let named : Table → Bool = λ u. same_name u.name r.parent in
      let new : Table = record t { tree = next_tree s } in
      ap (λ l. points_among (find named l) (next_tree s)) added.tables ∙ ap (λ o. points_among o (next_tree s)) (find-append named s.tables (new ∷ added.tail))
      ∙ first_or_later (find named s.tables) (find named (new ∷ added.tail)) (next_tree s)
      (unpointed (find named s.tables) (next_tree s) (λ u is. below_differs u.tree (next_tree s) (table_below s u (has_found named s.tables u is).0)))
      (λ u is. let there = has_found named (new ∷ added.tail) u is in elim there.0 [
        | inl same ↦ absurd (let e = among_by names t.name r.parent (ap (λ (v : Table). same_name v.name r.parent) (sym same) ∙ there.1) ours in cc)
        | inr tail ↦ above_differs u.tree (next_tree s) (added.above u tail)
      ])

  -- the new table is left alone, if no reference onto its name or of its own takes an action
  pub new_left_alone : (names : List (List ℕ)) → is_among names t.name ≡ true → list_all is_idle t.references ≡ true → is_harmless names s
      ≡ true → is_left_alone b (next_tree s) ≡ true
  new_left_alone names ours idle old = each_reference (λ r. is_idle r || not (points_to b (next_tree s) r))
      (λ u r h k. elim (or_cases (is_idle r) (not (is_among names r.parent)) (harmless_reference names s u r old h k)) [
        | inl idles ↦ or_left _ _ idles
        | inr apart ↦ or_right _ _ (ap not (apart_from_new names r ours (not-true _ apart)))
      ]) (λ r idles. or_left _ _ idles) idle
