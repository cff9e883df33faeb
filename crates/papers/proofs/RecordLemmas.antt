-- Every text has records: what `csv` reads ends, and one list follows another.
use Rattle.std.proofs.Common.{◌≡◌, ◌+◌, ◌<◌, ◌⊎◌, ℕ, zero, suc, [], ◌∷◌, ◌++◌, List, Bool, true, false, length, Option, Some, None, inl, inr, cond, refl, arith}
use Rattle.csv.specs.Machine.{Read, ends_at_end, field_after, fields_after, is_end, next_record, step}
use Rattle.csv.specs.Reading.{AreRecords, Reached, default_config}
use Rattle.csv.specs.declared.parser.Config.{Config}
use Rattle.csv.specs.declared.parser.State.{State}
use Rattle.csv.specs.declared.parser.State.TheVariants as st

-- the records of a text, and then those of what it leaves
pub Reached-append : (cfg : Config) (s s2 s3 : State) (xs ys zs : List ℕ) (front back : List (List (List ℕ)))
    → Reached cfg s xs front s2 ys → Reached cfg s2 ys back s3 zs → Reached cfg s xs (front ++ back) s3 zs
unfolding Reached
Reached-append cfg s s2 s3 xs ys zs [] back p q = rw (p.0, p.1) q
Reached-append cfg s s2 s3 xs ys zs (r ∷ front) back p q = (p.0, p.1, p.2, Reached-append cfg p.0.1 s2 s3 p.0.2 ys zs front back p.3 q)

-- a record that is read leaves fewer bytes, or none where it ended with the text
abbrev Leaves : List ℕ → Option Read → Type 0
Leaves xs None = Unit {0}
Leaves xs (Some p) = (length p.2 < length xs) ⊎ ((p.1 ≡ st.StartRecord) × (p.2 ≡ []))

leaves : (cfg : Config) (s : State) (fields : List (List ℕ)) (field xs : List ℕ) → Leaves xs (next_record cfg s fields field xs)
unfolding next_record
leaves cfg s fields field [] = by (ends_at_end s)
  where
    by : (b : Bool) → Leaves [] (cond b (Some (fields ++ (field ∷ []), st.StartRecord, [])) None)
    by true = inr (refl, refl)
    by false = tt
leaves cfg s fields field (c ∷ rest) =
    by _ (is_end (step cfg s c).1) (leaves cfg (step cfg s c).0 (fields_after (step cfg s c).1 fields field) (field_after (step cfg s c).1 c field) rest)
  where
    more : (o : Option Read) → Leaves rest o → Leaves (c ∷ rest) o
    more None h = tt
    more (Some p) h = elim h [ inl less ↦ inl (omega (arith, less)) | inr done ↦ inr done ]

    by : (o : Option Read) (b : Bool) → Leaves rest o
        → Leaves (c ∷ rest) (cond b (Some (fields_after (step cfg s c).1 fields field, (step cfg s c).0, rest)) o)
    by o true h = inl (omega arith)
    by o false h = more o h

-- the records behind one that was read, where those of what it leaves are known
one-more : (s : State) (xs : List ℕ) (p : Read) → next_record default_config s [] [] xs ≡ Some p
    → (records : List (List (List ℕ))) × AreRecords default_config p.1 p.2 records → (records : List (List (List ℕ))) × AreRecords default_config s xs records
unfolding Reached
one-more s xs p some rest = (p.0 ∷ rest.0, (rest.1.0, rest.1.1, (p, some, refl, rest.1.2), rest.1.3))

none-left : (s : State) (xs : List ℕ) → next_record default_config s [] [] xs ≡ None → (records : List (List (List ℕ))) × AreRecords default_config s xs records
unfolding Reached
none-left s xs none = ([], (s, xs, (refl, refl), none))

-- a text with no byte left, between two records, has no record
at-end : (records : List (List (List ℕ))) × AreRecords default_config st.StartRecord [] records
unfolding Reached next_record
at-end = ([], (st.StartRecord, [], (refl, refl), refl))

-- every text has records
exist : (n : ℕ) (s : State) (xs : List ℕ) → length xs < n → (records : List (List (List ℕ))) × AreRecords default_config s xs records
exist zero s xs short = absurd (omega (arith, short))
exist (suc n) s xs short = by (exist n) (next_record default_config s [] [] xs) refl (leaves default_config s [] [] xs)
  where
    by : ((s : State) (xs : List ℕ) → length xs < n → (records : List (List (List ℕ))) × AreRecords default_config s xs records)
        → (o : Option Read) → next_record default_config s [] [] xs ≡ o → Leaves xs o → (records : List (List (List ℕ)))
        × AreRecords default_config s xs records
    by rest None none h = none-left s xs none
    by rest (Some p) some h = one-more s xs p some (elim h [ inl less ↦ rest p.1 p.2 (omega (arith, short, less)) | inr done ↦ rw (done.0, done.1) at-end ])

-- every text has records, whatever state the reader is in
pub records-exist : (s : State) (xs : List ℕ) → (records : List (List (List ℕ))) × AreRecords default_config s xs records
records-exist s xs = exist (length xs + 1) s xs (omega arith)

-- records that were read, and then those of what is left, are the records of the text
pub AreRecords-append : (s : State) (xs : List ℕ) (s2 : State) (ys : List ℕ) (front back : List (List (List ℕ)))
    → Reached default_config s xs front s2 ys → AreRecords default_config s2 ys back → AreRecords default_config s xs (front ++ back)
AreRecords-append s xs s2 ys front back p q = (q.0, q.1, Reached-append default_config s s2 q.0 xs ys q.1 front back p q.2, q.3)
