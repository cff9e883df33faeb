-- The pages of an office's members, from those of its tables.
use Rattle.std.proofs.Common.{◌≡◌, ◌<◌, ◌+◌, ◌++◌, ℕ, List, [], ◌∷◌, map, take, length, get_or, Option, None, Some, IsSome, add-one, ap, inl, inr, is_some, refl, subst, sym, ◌∙◌}
use Rattle.std.specs.Prelude.{All, Contains, unwrap_or}
use Rattle.std.specs.Option.{option_or}
use Rattle.std.proofs.Math.Seq.{take-suc}
use Rattle.std.proofs.lemmas.Bool.{false≢true}
use Rattle.std.proofs.lemmas.List.{map-append}
use Rattle.std.proofs.lemmas.List.Elements.{All-append, All-contains, All-map, All-weaker}
use Rattle.tariff.specs.declared.step.Step.{Step}
use Rattle.office_rules.proofs.OfficeLemmas.MapLemmas.{all_from_contains}
use Rattle.office_rules.specs.Office.Lookup.{latest, steps_on}
use Rattle.office_rules.specs.Office.{Office}
use Rattle.book_lists.specs.Pages.{AreFirstAfter, ComesBefore}
use Rattle.book_tables.proofs.ListLemmas.{contains_cases, contains_map, contains_none}
use Rattle.book_tables.specs.declared.reading.pages.MeterRow.{MeterRow}
use Rattle.book_facts.specs.Listing.{TellsOf, TellsSteps, listed_meter}
use Rattle.book_facts.specs.Lookups.{AreMetersAfter, AreTariffsAfter, IsListedMeter, IsListedTariff}
use Rattle.book_states.specs.declared.lookup.ListedMeter.{ListedMeter}
use Rattle.book_states.specs.declared.lookup.ListedTariff.{ListedTariff}

-- what is made of the first items, and one more
pub take_more : {X : Type 0} (xs : List X) (i : ℕ) (x : X) → i < length xs → x ≡ get_or xs i x → take (i + 1) xs ≡ take i xs ++ x ∷ []
take_more xs i x within is = rw add-one (take-suc xs i x within ∙ ap (λ y. take i xs ++ y ∷ []) (sym is))

-- what the first items are mapped to, and what one more is mapped to
pub map_more : {X Y : Type 0} (f : X → Y) (xs : List X) (i : ℕ) (x : X) → i < length xs → x ≡ get_or xs i x → map f (take (i + 1) xs)
    ≡ map f (take i xs) ++ f x ∷ []
map_more f xs i x within is = ap (map f) (take_more xs i x within is) ∙ map-append f (take i xs) (x ∷ [])

-- ---- meters

numbers_of : (rows : List MeterRow) → map (λ (m : ListedMeter). m.number) (map listed_meter rows) ≡ map (λ (m : MeterRow). m.number) rows
numbers_of [] = refl
numbers_of (row ∷ rows) = ap (λ ns. row.number ∷ ns) (numbers_of rows)

-- a page of rows of meters is one of meters
pub meters_listed : (o : Office) (after : List ℕ) (rows : List MeterRow) (listed : List ListedMeter) → listed ≡ map listed_meter rows
    → All (λ (m : MeterRow). o.meters m.number ≡ Some m.meter) rows
    → AreFirstAfter (λ number. IsSome (o.meters number)) after (map (λ (m : MeterRow). m.number) rows) → AreMetersAfter o after listed
meters_listed o after rows listed is each first = rw is (record {
  each = All-map (IsListedMeter o) listed_meter rows
      (All-weaker (λ (m : MeterRow). o.meters m.number ≡ Some m.meter) (λ m. IsListedMeter o (listed_meter m))
      (λ m there. (m.meter, there, refl, refl)) rows each);
  first = subst (AreFirstAfter (λ number. IsSome (o.meters number)) after) (sym (numbers_of rows)) first;
})

-- ---- tariffs

-- what is told of some tariffs, one after another
pub record TellTariffs (o : Office) (day : ℕ) (names : List (List ℕ)) (listed : List ListedTariff) : Type 0 where
  pub names_are : map (λ t. t.name) listed ≡ names
  pub told : All (TellsSteps o day) listed

-- before the first name, no tariff was told of
pub tell_none : (o : Office) (day : ℕ) → TellTariffs o day [] []
tell_none o day = record { names_are = refl; told = all_from_contains (TellsSteps o day) [] (λ t none. absurd (contains_none t none)) }

-- with the next tariff's steps, the tariffs told so far are those of one more name
pub tell_more : (o : Office) (day : ℕ) (names : List (List ℕ)) (i : ℕ) (name : List ℕ) (listed : List ListedTariff) (t : ListedTariff)
    → i < length names → name ≡ get_or names i name
    → TellTariffs o day (take i names) listed → (t.name ≡ name) × TellsSteps o day t → TellTariffs o day (take (i + 1) names) (listed ++ t ∷ [])
tell_more o day names i name listed t within is so_far this = record {
  names_are = map-append (λ (t : ListedTariff). t.name) listed (t ∷ []) ∙ ap (λ ns. ns ++ t.name ∷ []) so_far.names_are
      ∙ ap (λ n. take i names ++ n ∷ []) this.0 ∙ sym (take_more names i name within is);
  told = All-append (TellsSteps o day) listed (t ∷ []) so_far.told
      (all_from_contains (TellsSteps o day) (t ∷ []) (λ u one. elim (contains_cases t u [] one)
      [ inl same ↦ subst (TellsSteps o day) same this.1 | inr none ↦ absurd (contains_none u none) ]));
}

-- a page of names is one of tariffs
pub tariffs_listed : (o : Office) (day : ℕ) (after : List ℕ) (names : List (List ℕ)) (listed : List ListedTariff)
    → AreFirstAfter (λ name. IsSome (o.tariffs name)) after names → TellTariffs o day names listed → AreTariffsAfter o day after listed
tariffs_listed o day after names listed first tell = record {
  each = all_from_contains (IsListedTariff o day) listed (λ t has.
      let named : Contains names t.name = subst (λ ns. Contains ns t.name) tell.names_are (contains_map (λ (t : ListedTariff). t.name) listed t has) in
      let there = All-contains (λ key. IsSome (o.tariffs key) × ComesBefore after key) names t.name first.there named in
      let steps = All-contains (TellsSteps o day) listed t tell.told has in
      record { there = there.0; steps = steps.steps; later = steps.later });
  first = subst (AreFirstAfter (λ name. IsSome (o.tariffs name)) after) (sym tell.names_are) first;
}

-- where steps are found on a day, they are those of the day; and where none are, there is no tariff
pub steps_told : (o : Office) (name : List ℕ) (day : ℕ) (found : Option (List Step)) (steps : List Step) → found
    ≡ option_or (latest (o.dated_steps name) day) (o.tariffs name) → found ≡ Some steps → steps ≡ steps_on o name day
steps_told o name day found steps is there = ap (λ (s : Option (List Step)). unwrap_or s []) (sym there ∙ is)

-- where no steps are found on a day, the tariff has no first ones
pub none_told : (begun first : Option (List Step)) → None ≡ option_or begun first → first ≡ None
none_told None first none = sym none
none_told (Some steps) first none = absurd (let e = none in cc)

-- a name of a page is that of a tariff, which has steps
pub never_none : (o : Office) (day : ℕ) (after : List ℕ) (names : List (List ℕ)) (i : ℕ) (name : List ℕ) (found : Option ListedTariff)
    → AreFirstAfter (λ name. IsSome (o.tariffs name)) after names → i < length names → name ≡ get_or names i name
    → TellsOf o day name found → found ≡ None → ⊥
never_none o day after names i name found first within is told gone =
    let there = All-contains (λ key. IsSome (o.tariffs key) × ComesBefore after key) names name first.there (i, within, sym is) in
    let none : o.tariffs name ≡ None = subst (TellsOf o day name) gone told in
    false≢true (sym (ap (λ (s : Option (List Step)). is_some s) none) ∙ there.0)
