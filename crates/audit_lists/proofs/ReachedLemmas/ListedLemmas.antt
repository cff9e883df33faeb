-- The lists of steps that the rows of an office's tables are: those that its tariffs may have had.
use Rattle.std.proofs.Common.{◌≡◌, ◌+◌, ◌++◌, [], ◌∷◌, ℕ, List, Some, inl, inr, length, refl, sym, ap, subst, ◌∙◌, arith, map}
use Rattle.std.specs.Prelude.{Contains, slice_get}
use Rattle.std.proofs.lemmas.List.Elements.{Contains-append_cases, Contains-append_left, Contains-append_right, Contains-push, Contains-push_cases}
use Rattle.std.proofs.lemmas.Option.{same_Some, slice_get_within}
use Rattle.tariff.specs.Steps.{IsSteps}
use Rattle.tariff.specs.declared.step.Step.{Step}
use Rattle.office_rules.specs.Office.{Office}
use Rattle.book_tables.specs.Stands.{AreApart, AreDatedApart}
use Rattle.book_tables.specs.row.Rows as stored
use Rattle.audit_rows.specs.Entries.{dated_entry, step_entry}
use Rattle.audit_rows.specs.declared.office_rows.OfficeRows.{OfficeRows}
use Rattle.audit_rows.specs.declared.rows.DatedStepRow.{DatedStepRow}
use Rattle.audit_rows.specs.declared.rows.StepRow.{StepRow}
use Rattle.audit_lists.specs.Keys.{IsNew, Key}
use Rattle.audit_lists.specs.RowKeys.{dated_key, place_key, step_key}
use Rattle.audit_lists.specs.Steps.{AreFirstUnder, HasStepAt}
use Rattle.audit_lists.specs.Ties.{Each}
use Rattle.audit_lists.specs.declared.reached.listed.ListedSteps.{ListedSteps}
use Rattle.audit_lists.specs.reached.Finds.{AreRowsOfOffice}
use Rattle.audit_lists.specs.reached.Prices.{AreListed, AreLists, HaveLists, IsListOf}
use Rattle.audit_lists.proofs.EachLemmas.{each_more, row_below}
use Rattle.audit_lists.proofs.ListLemmas.{at_pairs, contains_map, map_at, map_contains}
use Rattle.audit_lists.proofs.StepLemmas.{same_first}

-- ---- the lists of the first rows, and one row more
module _ {T : Type 0} (step : T → Step) (key : T → Key) (rows : List T) (at : ℕ) (row : T) (there : slice_get rows at ≡ Some row)
    (listed : List ListedSteps) (lists : AreLists step key rows at listed) where
  -- one that begins a list
  pub lists_more : (l : ListedSteps) → IsListOf step key rows row l → AreLists step key rows (at + 1) (listed ++ l ∷ [])
  lists_more l is = record {
    each = each_more (λ _ (r : T). (key r).3 ≡ 0 → (x : ListedSteps) × Contains (listed ++ l ∷ []) x × IsListOf step key rows r x) rows at
        row there (λ _. (l, Contains-push listed l, is))
        (λ i r low at_r first. let x = lists.each i r low at_r first in (x.0, Contains-append_left listed (l ∷ []) x.0 x.1, x.2));
    only = λ x in_all. elim (Contains-push_cases listed l x in_all) [
      | inl before ↦ lists.only x before
      | inr last ↦ (at, row, there, subst (IsListOf step key rows row) last is)
    ];
  }

  -- one that begins none
  pub lists_same : ((key row).3 ≡ 0 → ⊥) → AreLists step key rows (at + 1) listed
  lists_same later = record {
    each = each_more (λ _ (r : T). (key r).3 ≡ 0 → (x : ListedSteps) × Contains listed x × IsListOf step key rows r x) rows at row there
        (λ first. absurd (later first)) lists.each;
    only = lists.only;
  }

-- ---- the lists of an office
module _ {T : Type 0} (step : T → Step) (key : T → Key) (rows : List T) (owns : List ℕ → ℕ → List Step → Type 0) where
  -- the rows are the steps that are owned under a tariff and a day
  pub record AreOwned : Type 0 where
    pub once : Each (IsNew key rows) rows
    pub plain : (row : T) → (key row).1 ≡ []
    pub has : (i : ℕ) (row : T) → slice_get rows i ≡ Some row → (s : List Step) × owns (key row).0 (key row).2 s × (slice_get s (key row).3 ≡ Some (step row))
    pub there : (tariff : List ℕ) (day : ℕ) (s : List Step) (p : ℕ) (x : Step) → owns tariff day s → slice_get s p ≡ Some x
        → HasStepAt step key rows (tariff, [], day, p) x
    pub one : (tariff : List ℕ) (day : ℕ) (s t : List Step) → owns tariff day s → owns tariff day t → s ≡ t
    pub priced : (tariff : List ℕ) (day : ℕ) (s : List Step) → owns tariff day s → IsSteps s

  module _ (owned : AreOwned) where
    abbrev Owns : Key → List Step → Type 0
    Owns q s = owns q.0 q.2 s

    first_owned : (q : Key) (s : List Step) → q.1 ≡ [] → Owns q s → AreFirstUnder step key rows q s
    first_owned q s plain own = record {
      there = λ p x is. subst (λ (t : List ℕ). HasStepAt step key rows (q.0, t, q.2, p) x) (sym plain) (owned.there q.0 q.2 s p x own is);
      ended = inr (λ last.
          let has = owned.has last.0 last.1.0 last.1.1 in
          let same = owned.one q.0 q.2 has.0 s (subst (λ (k : Key). Owns k has.0) last.1.2 has.1) own in
          let within = slice_get_within has.0 (key last.1.0).3 (step last.1.0) has.2 in
          let place : (key last.1.0).3 ≡ length has.0 = ap (λ (k : Key). k.3) last.1.2 ∙ ap length (sym same) in
          omega (arith, within, place));
    }

    owned_same : (row : T) (found s : List Step) → AreFirstUnder step key rows (key row) found → Owns (key row) s → found ≡ s
    owned_same row found s first own =
        same_first step key rows owned.once (key row) found s first (first_owned (key row) s (owned.plain row) own) (owned.priced (key row).0 (key row).2 s own)

    -- rows that are steps owned by tariffs begin lists of steps, and no two have one key
    pub have_lists : HaveLists step key rows
    have_lists = record {
      once = owned.once;
      steps = λ i row there _.
          let has = owned.has i row there in
          record { steps = has.0; first = first_owned (key row) has.0 (owned.plain row) has.1; priced = owned.priced (key row).0 (key row).2 has.0 has.1 };
    }

    module _ (listed : List ListedSteps) (lists : AreLists step key rows (length rows) listed) where
      -- each list that was made of the rows is owned by a tariff from the day it begins on
      pub only_owned : (l : ListedSteps) → Contains listed l → (tariff : List ℕ) × owns tariff l.from l.steps
      only_owned l there =
          let from = lists.only l there in
          let row = from.1 in
          let has = owned.has from.0 row from.2 in
          let same = owned_same row l.steps has.0 from.3.steps has.1 in
          ((key row).0, subst (λ (day : ℕ). owns (key row).0 day l.steps) (sym from.3.from) (subst (Owns (key row)) (sym same) has.1))

      -- and each list that a tariff owns from a day on was made
      pub each_owned : (tariff : List ℕ) (day : ℕ) (s : List Step) → owns tariff day s → (l : ListedSteps) × Contains listed l × (l.from ≡ day) × (l.steps ≡ s)
      each_owned tariff day s own =
          let some = (owned.priced tariff day s own).count.0 in
          let x = row_below s 0 (omega (arith, some)) in
          let at = owned.there tariff day s 0 x.0 own x.1 in
          let row = at.1 in
          let l = lists.each at.0 row (slice_get_within rows at.0 row at.2) at.2 (ap (λ (k : Key). k.3) at.3) in
          (l.0, l.1, l.2.from ∙ ap (λ (k : Key). k.2) at.3, owned_same row l.0.steps s l.2.steps (subst (λ (k : Key). Owns k s) (sym at.3) own))

-- the step that a row of a tariff's first list has
abbrev pub step_of : StepRow → Step
step_of s = s.step

-- the step that a row of a later list has, which holds from a day on
abbrev pub dated_step_of : DatedStepRow → Step
dated_step_of s = s.step

module _ (r : OfficeRows) (o : Office) (are : AreRowsOfOffice r o) where
  abbrev has_first : List ℕ → ℕ → List Step → Type 0
  has_first tariff day s = (o.tariffs tariff ≡ Some s) × (day ≡ 0)

  abbrev has_dated : List ℕ → ℕ → List Step → Type 0
  has_dated tariff day s = o.dated_steps tariff day ≡ Some s

  abbrev entry_of : List ℕ → ℕ → Step → stored.StepRow
  entry_of tariff place step = record { tariff = tariff; place = place; step = step }

  abbrev dated_entry_of : List ℕ → ℕ → ℕ → Step → stored.DatedStepRow
  dated_entry_of tariff day place step = record { tariff = tariff; day = day; place = place; step = step }

  steps_owned : AreOwned step_of step_key r.steps.items has_first
  steps_owned = record {
    once = λ i row at j below twice.
        at_pairs AreApart (map step_entry r.steps.items) are.members.steps_once j i (step_entry twice.0) (step_entry row) below
        (map_at step_entry r.steps.items j twice.0 twice.1) (map_at step_entry r.steps.items i row at)
        (ap (λ (q : Key). q.0) twice.2) (ap (λ (q : Key). q.3) twice.2);
    plain = λ row. refl;
    has = λ i row at.
        let has = (are.members.steps (step_entry row)).1 (contains_map step_entry r.steps.items i row at) in
        (has.0, (has.1, refl), has.2);
    there = λ tariff day s p x own at.
        let f = map_contains step_entry r.steps.items (entry_of tariff p x) ((are.members.steps (entry_of tariff p x)).0 (s, own.0, at)) in (
          f.0,
          f.1,
          f.2,
          ap (λ (y : stored.StepRow). place_key y.tariff 0 y.place) f.3 ∙ ap (λ (d : ℕ). place_key tariff d p) (sym own.1),
          ap (λ (y : stored.StepRow). y.step) f.3,
        );
    one = λ tariff day s t a b. same_Some s t (sym a.0 ∙ b.0);
    priced = λ tariff day s own. (are.is.tariffs tariff s own.0).priced;
  }

  dated_owned : AreOwned dated_step_of dated_key r.dated_steps.items has_dated
  dated_owned = record {
    once = λ i row at j below twice.
        at_pairs AreDatedApart (map dated_entry r.dated_steps.items) are.members.dated_once j i (dated_entry twice.0) (dated_entry row)
        below (map_at dated_entry r.dated_steps.items j twice.0 twice.1) (map_at dated_entry r.dated_steps.items i row at)
        (ap (λ (q : Key). q.0) twice.2) (ap (λ (q : Key). q.2) twice.2) (ap (λ (q : Key). q.3) twice.2);
    plain = λ row. refl;
    has = λ i row at. (are.members.dated_steps (dated_entry row)).1 (contains_map dated_entry r.dated_steps.items i row at);
    there = λ tariff day s p x own at.
        let f = map_contains dated_entry r.dated_steps.items (dated_entry_of tariff day p x)
        ((are.members.dated_steps (dated_entry_of tariff day p x)).0 (s, own, at)) in
        (f.0, f.1, f.2, ap (λ (y : stored.DatedStepRow). place_key y.tariff y.day y.place) f.3, ap (λ (y : stored.DatedStepRow). y.step) f.3);
    one = λ tariff day s t a b. same_Some s t (sym a ∙ b);
    priced = λ tariff day s own. (are.is.dated_steps tariff day s own).priced;
  }

  -- the rows of the tariffs' first lists have lists of steps
  pub have_steps : HaveLists step_of step_key r.steps.items
  have_steps = have_lists step_of step_key r.steps.items has_first steps_owned

  -- and so have those of the lists that hold from a day on
  pub have_dated : HaveLists dated_step_of dated_key r.dated_steps.items
  have_dated = have_lists dated_step_of dated_key r.dated_steps.items has_dated dated_owned

  -- the lists of both tables are those of the office
  pub listed_all : (first dated : List ListedSteps) → AreLists step_of step_key r.steps.items (length r.steps.items) first
      → AreLists dated_step_of dated_key r.dated_steps.items (length r.dated_steps.items) dated → AreListed o (first ++ dated)
  listed_all first dated firsts dateds day s = (
    λ of. elim of.are [
      | inl is ↦
          let l = each_owned step_of step_key r.steps.items has_first steps_owned first firsts of.name 0 s (is, refl) in
          (l.0, Contains-append_left first dated l.0 l.1, (let from = l.2 in omega (arith, from)), l.3)
      | inr begun ↦
          let l = each_owned dated_step_of dated_key r.dated_steps.items has_dated dated_owned dated dateds of.name begun.0 s begun.2 in
          (l.0, Contains-append_right first dated l.0 l.1, (let from = l.2 in let low = begun.1 in omega (arith, from, low)), l.3)
    ],
    λ there. elim (Contains-append_cases first dated there.0 there.1) [
      | inl in_first ↦
          let own = only_owned step_of step_key r.steps.items has_first steps_owned first firsts there.0 in_first in
          record { name = own.0; are = inl (own.1.0 ∙ ap Some there.3) }
      | inr in_dated ↦
          let own = only_owned dated_step_of dated_key r.dated_steps.items has_dated dated_owned dated dateds there.0 in_dated in
          record { name = own.0; are = inr (there.0.from, there.2, own.1 ∙ ap Some there.3) }
    ],
  )
