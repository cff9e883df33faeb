-- Steps at their places.
use Rattle.std.proofs.Common.{◌≡◌, ◌<◌, ◌≤◌, ◌+◌, ◌-◌, ℕ, zero, suc, List, [], ◌∷◌, Option, Some, slice_get, inl, inr, refl, sym, ap, subst, ◌∙◌, arith}
use Rattle.std.specs.Prelude.{◌⊎◌, IsSome, is_some, length}
use Rattle.std.proofs.lemmas.Bool.{cases_lt}
use Rattle.std.proofs.lemmas.Option.{same_Some, slice_get_within}
use Rattle.tariff.specs.Steps.{IsSteps}
use Rattle.tariff.specs.declared.step.Step.{Step}
use Rattle.audit_lists.specs.Keys.{HasKey, IsNew, Key}
use Rattle.audit_lists.specs.Steps.{AreFirstUnder, AreSteps, HasStepAt, IsLong, at_place}
use Rattle.audit_lists.specs.Ties.{Each}
use Rattle.audit_lists.proofs.EachLemmas.{row_below}
use Rattle.audit_lists.proofs.FindLemmas.{had, had_from, had_to}
use Rattle.audit_lists.proofs.ListLemmas.{one_row}

same_lists : (xs ys : List Step) → length xs ≡ length ys → ((i : ℕ) (s : Step) → slice_get xs i ≡ Some s → slice_get ys i ≡ Some s) → xs ≡ ys
same_lists [] [] long same = refl
same_lists [] (y ∷ ys) long same = absurd (omega (arith, long))
same_lists (x ∷ xs) [] long same = absurd (omega (arith, long))
same_lists (x ∷ xs) (y ∷ ys) long same =
    let first : x ≡ y = sym (same_Some y x (same 0 x refl)) in
    let rest : xs ≡ ys = same_lists xs ys (omega (arith, long)) (λ i s is. same (suc i) s is) in
    cc

module _ {T : Type 0} (step : T → Step) (key : T → Key) (rows : List T) (apart : Each (IsNew key rows) rows) where
  -- rows of one place have one step
  one_step : (q : Key) (s t : Step) → HasStepAt step key rows q s → HasStepAt step key rows q t → s ≡ t
  one_step q s t a b = sym a.4 ∙ ap step (one_row key rows apart a.0 b.0 a.1 b.1 a.2 b.2 (a.3 ∙ sym b.3)) ∙ b.4

  no_longer : (q : Key) (xs ys : List Step) → AreFirstUnder step key rows q xs → AreFirstUnder step key rows q ys
      → (IsLong xs → length ys ≤ length xs) → length ys ≤ length xs
  no_longer q xs ys a b long = elim (cases_lt (length xs) (length ys)) [
    | inr least ↦ least
    | inl more ↦ elim a.ended [
      | inl is ↦ long is
      | inr none ↦
          let s = row_below ys (length xs) more in
          let has = b.there (length xs) s.0 s.1 in
          absurd (none (has.0, (has.1, has.2, has.3)))
    ]
  ]

  -- the first steps under a key are the only ones, where they are those of a tariff
  pub same_first : (q : Key) (xs ys : List Step) → AreFirstUnder step key rows q xs → AreFirstUnder step key rows q ys → IsSteps ys → xs ≡ ys
  same_first q xs ys a b priced =
      let few = priced.count.1 in
      let low = no_longer q xs ys a b (λ long. omega (arith, long, few)) in
      let high = no_longer q ys xs b a (λ long. absurd (omega (arith, long, few))) in
      same_lists xs ys (omega (arith, low, high)) (λ i s is.
      let t = row_below ys i (let within = slice_get_within xs i s is in omega (arith, within, high)) in
      t.1 ∙ ap Some (one_step (at_place q i) t.0 s (b.there i t.0 t.1) (a.there i s is)))

  module _ (before : T → Key) (follow : Each (λ _ row. HasKey key rows (before row)) rows)
      (is_before : (row : T) (q : Key) (p : ℕ) → key row ≡ at_place q (suc p) → before row ≡ at_place q p) where
    -- before a row there are rows at all earlier places
    earlier : (q : Key) (n d : ℕ) → HasKey key rows (at_place q (n + d)) → HasKey key rows (at_place q n)
    earlier q n zero has = subst (λ (p : ℕ). HasKey key rows (at_place q p)) (let e : n + 0 ≡ n = omega arith in e) has
    earlier q n (suc d) has =
        let next : n + suc d ≡ suc (n + d) = omega arith in
        let at : HasKey key rows (at_place q (suc (n + d))) = subst (λ (p : ℕ). HasKey key rows (at_place q p)) next has in
        earlier q n d (subst (HasKey key rows) (is_before at.1.0 q (n + d) at.1.2) (follow at.0 at.1.0 at.1.1))

    short : (q : Key) (p : ℕ) (a : AreSteps step key rows q) → HasKey key rows (at_place q p) → (p < length a.steps) ⊎ (length a.steps ≤ p) → p < length a.steps
    short q p a has (inl low) = low
    short q p a has (inr past) =
        let n = length a.steps in
        let sum : p ≡ n + (p - n) = omega (arith, past) in
        elim a.first.ended [
          | inl long ↦ let few = a.priced.count.1 in absurd (omega (arith, long, few))
          | inr none ↦ absurd (none (earlier q n (p - n) (subst (λ (k : ℕ). HasKey key rows (at_place q k)) sum has)))
        ]

    -- the step of a row is that of its place
    pub row_step : (q : Key) (a : AreSteps step key rows q) (i : ℕ) (row : T) (p : ℕ) → slice_get rows i ≡ Some row → key row
        ≡ at_place q p → slice_get a.steps p ≡ Some (step row)
    row_step q a i row p there is =
        let x = row_below a.steps p (short q p a (i, (row, there, is)) (cases_lt p (length a.steps))) in
        x.1 ∙ ap Some (one_step (at_place q p) x.0 (step row) (a.first.there p x.0 x.1) (i, row, there, is, refl))

-- the steps that are had under the keys of others, beside the rows
pub record StepsHad {T U : Type 0} (step : T → Step) (key : T → Key) (rows : List T) (of : U → Key) (others : List U) : Type 0 where
  pub had : Key → Option (List Step)
  pub to : (q : Key) → HasKey of others q → IsSome (had q)
  pub from : (q : Key) (s : List Step) → had q ≡ Some s → HasKey of others q × IsSteps s
  pub step_from : (q : Key) (s : List Step) (p : ℕ) (x : Step) → had q ≡ Some s → slice_get s p ≡ Some x → HasStepAt step key rows (at_place q p) x
  pub step_to : (q : Key) (i : ℕ) (row : T) (p : ℕ) → HasKey of others q → slice_get rows i ≡ Some row → key row ≡ at_place q p
      → (s : List Step) × (had q ≡ Some s) × (slice_get s p ≡ Some (step row))

module _ {T U : Type 0} (step : T → Step) (key before : T → Key) (rows : List T) (apart : Each (IsNew key rows) rows)
    (follow : Each (λ _ row. HasKey key rows (before row)) rows)
    (is_before : (row : T) (q : Key) (p : ℕ) → key row ≡ at_place q (suc p) → before row ≡ at_place q p) (of : U → Key) (others : List U)
    (are : Each (λ _ other. AreSteps step key rows (of other)) others) where
  chosen : (q : Key) → HasKey of others q → AreSteps step key rows q
  chosen q has = subst (AreSteps step key rows) has.1.2 (are has.0 has.1.0 has.1.1)

  from : (q : Key) (s : List Step) → had of others q (λ has. (chosen q has).steps) ≡ Some s → HasKey of others q
      × (a : AreSteps step key rows q) × (a.steps ≡ s)
  from q s e = let h = had_from of others q (λ has. (chosen q has).steps) s e in (h.0, chosen q h.0, h.1)

  -- the steps under the keys of others are had there, and the rows are these steps
  pub steps_had : StepsHad step key rows of others
  steps_had = record {
    had = λ q. had of others q (λ has. (chosen q has).steps);
    to = λ q has. ap is_some (had_to of others q (λ has. (chosen q has).steps) has).1;
    from = λ q s e. let f = from q s e in (f.0, subst IsSteps f.2 f.1.priced);
    step_from = λ q s p x e at. let f = from q s e in f.1.first.there p x (ap (λ (l : List Step). slice_get l p) f.2 ∙ at);
    step_to = λ q i row p has there is.
        let h = had_to of others q (λ has. (chosen q has).steps) has in
        ((chosen q h.0).steps, h.1, row_step step key rows apart before follow is_before q (chosen q h.0) i row p there is);
  }
