-- What is had under a key: something of the row that has it, where one has.
use Rattle.std.proofs.Common.{◌≡◌, zero, suc, Bool, true, false, List, [], ◌∷◌, Option, Some, None, inl, inr, refl, sym, ap, ◌∙◌}
use Rattle.std.specs.Prelude.{◌⊎◌}
use Rattle.std.proofs.lemmas.Bool.{false≢true}
use Rattle.std.proofs.lemmas.Option.{none-some, same_Some}
use Rattle.audit_lists.specs.Keys.{HasKey, Key}
use Rattle.audit_lists.proofs.KeyLemmas.{key_same, one_key, same_key}

-- one of the rows has the key, or none has
find : {T : Type 0} (key : T → Key) (rows : List T) (q : Key) → HasKey key rows q ⊎ ¬ HasKey key rows q
find key [] q = inr (λ has. none-some has.1.0 has.1.1)
find key (x ∷ xs) q = by (same_key (key x) q) refl (find key xs q)
  where
    by : (b : Bool) → same_key (key x) q ≡ b → HasKey key xs q ⊎ ¬ HasKey key xs q → HasKey key (x ∷ xs) q ⊎ ¬ HasKey key (x ∷ xs) q
    by true same more = inl (zero, (x, refl, one_key (key x) q same))
    by false other (inl has) = inl (suc has.0, has.1)
    by false other (inr none) = inr lacks
      where
        lacks : HasKey key (x ∷ xs) q → ⊥
        lacks (zero, has) = false≢true (sym other ∙ key_same (key x) q (ap key (same_Some x has.0 has.1) ∙ has.2))
        lacks (suc i, has) = none (i, has)

abbrev chosen : {P V : Type 0} → P ⊎ ¬ P → (P → V) → Option V
chosen (inl has) f = Some (f has)
chosen (inr none) f = None

-- what is had under a key
pub had : {T V : Type 0} (key : T → Key) (rows : List T) (q : Key) → (HasKey key rows q → V) → Option V
had key rows q f = chosen (find key rows q) f

-- it is had of a row that has the key
pub had_from : {T V : Type 0} (key : T → Key) (rows : List T) (q : Key) (f : HasKey key rows q → V) (v : V) → had key rows q f ≡ Some v
    → (has : HasKey key rows q) × (f has ≡ v)
unfolding had
had_from key rows q f v e = by (find key rows q) e
  where
    by : (o : HasKey key rows q ⊎ ¬ HasKey key rows q) → chosen o f ≡ Some v → (has : HasKey key rows q) × (f has ≡ v)
    by (inl has) is = (has, same_Some (f has) v is)
    by (inr none) is = absurd (none-some v is)

-- where a row has the key, something is had
pub had_to : {T V : Type 0} (key : T → Key) (rows : List T) (q : Key) (f : HasKey key rows q → V) → HasKey key rows q
    → (has : HasKey key rows q) × (had key rows q f ≡ Some (f has))
unfolding had
had_to key rows q f there = by (find key rows q)
  where
    by : (o : HasKey key rows q ⊎ ¬ HasKey key rows q) → (has : HasKey key rows q) × (chosen o f ≡ Some (f has))
    by (inl has) = (has, refl)
    by (inr none) = absurd (none there)
