-- Tables that are made one after the other inside a transaction, as the connection shows it.
use Rattle.std.proofs.Common.{◌≡◌, ◌⊎◌, ℕ, true, IsTrue, List, [], ◌∷◌, ◌++◌, Err, IsErrAnd, Result, arith, Ok, refl, sym, ap, subst, subst₂, ◌∙◌, inl, inr}
use Rattle.std.specs.List.{AllZip}
use Rattle.sqlite_schema.specs.declared.schema.Table.{Table}
use Rattle.sqlite_resolve.specs.Compile.{table_defined_by}
use Rattle.sqlite.specs.Effect.{IsDatabase}
use Rattle.sqlite.specs.State.{HasCleanDisk, KeepsCommit, Shows, State, Survives}
use Rattle.sqlite.proofs.StateLemmas.{survives_then}
use Rattle.one_table.specs.Making.{AreDefined, HasMadeBefore, MakesTable, MakesTables}
use Rattle.one_table.specs.InTransaction.{IsUnderWay, KeepsTransaction}
use Rattle.one_table.proofs.ChangeLemmas.{keeps_inside, keeps_then, stays_then}
use Rattle.one_table.proofs.MakingLemmas.{makes_none, makes_more}

-- the tables of these texts are made, and there is at least one
pub record HasMade (texts : List (List ℕ)) (old now : State) : Type 0 where
  pub shows : Shows old now now.now old.committed true
  pub tables : (IsTrue old.is_open → IsDatabase old.now) → (ts : List Table) → AreDefined texts ts → MakesTables ts old.now now.now

pub record HasMadeNone (texts : List (List ℕ)) (old now : State) : Type 0 where
  pub none : texts ≡ []
  pub is_open : now.is_open ≡ old.is_open
  pub now_is : now.now ≡ old.now
  pub committed : now.committed ≡ old.committed
  pub mode : now.in_transaction ≡ old.in_transaction

-- the tables of these texts, of which there may be none, are made
abbrev pub HasMadeSo : List (List ℕ) → State → State → Type 0
HasMadeSo texts old now = HasMadeNone texts old now ⊎ HasMade texts old now

zip_front : {A B : Type 0} (R : A → B → Type 0) (xs : List A) (x : A) (ys : List B) → AllZip R (xs ++ x ∷ []) ys → (front : List B)
    × (y : B) × (ys ≡ front ++ y ∷ []) × AllZip R xs front × R x y
zip_front R [] x [] h = absurd h
zip_front R [] x (y ∷ []) h = ([], y, refl, tt, h.0)
zip_front R [] x (y ∷ z ∷ ys) h = absurd h.1
zip_front R (w ∷ xs) x [] h = absurd h
zip_front R (w ∷ xs) x (y ∷ ys) h = let rest = zip_front R xs x ys h.1 in (y ∷ rest.0, rest.1, ap (λ l. y ∷ l) rest.2, (h.0, rest.3), rest.4)

zip_none : {A B : Type 0} (R : A → B → Type 0) (ys : List B) → AllZip R [] ys → ys ≡ []
zip_none R [] h = refl
zip_none R (y ∷ ys) h = absurd h

-- what was made so far, from a sound database
so_far : (texts : List (List ℕ)) (old mid : State) → HasMadeSo texts old mid → IsTrue mid.is_open
    → (IsTrue old.is_open → IsDatabase old.now) → (ts : List Table) → AreDefined texts ts
    → MakesTables ts old.now mid.now
so_far texts old mid (inr some) is sound ts defined = some.tables sound ts defined
so_far texts old mid (inl none) is sound ts defined =
    let empty : ts ≡ [] = zip_none (λ text t. table_defined_by text ≡ Ok t) ts (subst (λ l. AreDefined l ts) none.none defined) in
    subst₂ (λ l d. MakesTables l old.now d) (sym empty) (sym none.now_is) (makes_none old.now (sound (subst IsTrue none.is_open is)))

-- the same, to tell of the next one
pub made_before : (texts : List (List ℕ)) (old mid : State) → HasMadeSo texts old mid → Survives old mid (λ _. ⊥) → HasMadeBefore texts old mid
made_before texts old mid made survives = record { survives = survives; tables = λ is sound ts defined. so_far texts old mid made is sound ts defined }

shows_next : (texts : List (List ℕ)) (old mid new : State) → HasMadeSo texts old mid → Shows mid new new.now mid.committed true
    → Shows old new new.now old.committed true
shows_next texts old mid new (inl none) q = record
    { was_open = subst IsTrue none.is_open q.was_open; is_open = q.is_open; now_is = refl; committed_is = q.committed_is ∙ none.committed; mode = q.mode }
shows_next texts old mid new (inr some) q = stays_then old mid new some.shows q

-- one more table is made
pub makes_next : (texts : List (List ℕ)) (text : List ℕ) (old mid new : State) → HasMadeSo texts old mid
    → ((t : Table) → table_defined_by text ≡ Ok t → MakesTable t mid.now new.now)
    → Shows mid new new.now mid.committed true → HasMade (texts ++ text ∷ []) old new
makes_next texts text old mid new made last shows = record {
  shows = shows_next texts old mid new made shows;
  tables = λ sound ts defined.
      let all = shows_next texts old mid new made shows in
      let parts = zip_front (λ text t. table_defined_by text ≡ Ok t) texts text ts defined in
      let early = so_far texts old mid made shows.was_open sound parts.0 parts.3 in
      subst (λ l. MakesTables l old.now new.now) (sym parts.2)
      (makes_more parts.0 parts.1 old.now mid.now new.now early (last parts.1 parts.4) (sound all.was_open));
}

-- ---- what is left of the transaction

made_keeps : (texts : List (List ℕ)) (old now : State) → HasMadeSo texts old now → IsUnderWay old → IsUnderWay now × KeepsCommit old now
made_keeps texts old now (inl none) way = (none.mode ∙ way, record { was_open = subst IsTrue none.is_open; committed = λ _. none.committed })
made_keeps texts old now (inr some) way = (some.shows.mode, keeps_inside old now some.shows)

-- the next table is not made
pub next_failed : (texts : List (List ℕ)) (old mid new : State) {U E : Type 0} {e : E} (f : E) (r : Result U E) → IsErrAnd r (λ x. x ≡ f)
    → (HasCleanDisk mid → HasMadeSo texts old mid) → Survives old mid (λ _. ⊥)
    → KeepsTransaction {T = U} mid new (Err e) → KeepsTransaction old new r
next_failed texts old mid new f (Ok x) failed made first last = absurd failed
next_failed texts old mid new f (Err x) failed made first last = record {
  inside = λ _ _. tt;
  kept = λ clean way.
      let so_far = made_keeps texts old mid (made (omega (arith, last.survives.clean))) way in
      keeps_then old mid new so_far.1 (last.kept clean so_far.0);
  survives = survives_then old mid new _ _ (λ _. ⊥) (λ _ db none. none) (λ _ db none. none) first last.survives;
}

-- where there are texts, their tables are made
pub made_some : (texts : List (List ℕ)) (old now : State) → ¬ (texts ≡ []) → HasMadeSo texts old now → HasMade texts old now
made_some texts old now some (inl none) = absurd (some none.none)
made_some texts old now some (inr it) = it

-- once all tables are made, of at least one text, the transaction goes on
pub all_made : (texts : List (List ℕ)) (old now : State) {U E : Type 0} {x : U} → ¬ (texts ≡ [])
    → (HasCleanDisk now → HasMadeSo texts old now) → Survives old now (λ _. ⊥) → KeepsTransaction {E = E} old now (Ok x)
all_made texts old now some made survives = record {
  inside = λ clean way. (made_some texts old now some (made clean)).shows;
  kept = λ clean way. (made_keeps texts old now (made clean) way).1;
  survives = survives;
}
