-- Files without a record.
use Rattle.std.proofs.Common.{◌≡◌, ◌≢◌, ℕ, [], ◌∷◌, ◌++◌, ◌<◌, List, length, Bool, true, false, None, refl, arith}
use Rattle.std.specs.List.{list_all}
use Rattle.std.specs.Prelude.{◌==◌, ◌↔◌, IsTrue}
use Rattle.std.proofs.lemmas.Bool.Decides.{Decides-eqb}
use Rattle.csv.specs.Machine.{field_after, fields_after, is_end, next_record, step}
use Rattle.csv.specs.Reading.{Reached, default_config, strip_bom}
use Rattle.csv.specs.declared.parser.State.{State}
use Rattle.csv.specs.declared.parser.State.TheVariants as st
use Rattle.papers.specs.File.{AreFileRecords, Fields, is_line_end}

-- within a record
abbrev IsInside : State → Type 0
IsInside st.StartRecord = ⊥
IsInside st.StartField = Unit {0}
IsInside st.InField = Unit {0}
IsInside st.InQuoted = Unit {0}
IsInside st.AfterQuote = Unit {0}
IsInside st.InEscape = Unit {0}
IsInside st.InComment = ⊥
IsInside st.AfterCr = ⊥

-- a byte that does not end the record stays within it
stays : (s : State) (c : ℕ) → IsInside s → is_end (step default_config s c).1 ≡ false → IsInside (step default_config s c).0
stays st.StartRecord c inside more = absurd inside
stays st.StartField c inside more = by (c == 34) (c == 44) (c == 13) (c == 10) refl refl refl refl
  where
    by : (quote comma cr lf : Bool) → (c == 34) ≡ quote → (c == 44) ≡ comma → (c == 13) ≡ cr → (c == 10) ≡ lf → IsInside (step default_config st.StartField c).0
    by true comma cr lf a b d e = rw a tt
    by false true cr lf a b d e = rw (a, b) tt
    by false false true lf a b d e = absurd cc
    by false false false true a b d e = absurd cc
    by false false false false a b d e = rw (a, b, d, e) tt
stays st.InField c inside more = by (c == 44) (c == 13) (c == 10) refl refl refl
  where
    by : (comma cr lf : Bool) → (c == 44) ≡ comma → (c == 13) ≡ cr → (c == 10) ≡ lf → IsInside (step default_config st.InField c).0
    by true cr lf b d e = rw b tt
    by false true lf b d e = absurd cc
    by false false true b d e = absurd cc
    by false false false b d e = rw (b, d, e) tt
stays st.InQuoted c inside more = by (c == 34) refl
  where
    by : (quote : Bool) → (c == 34) ≡ quote → IsInside (step default_config st.InQuoted c).0
    by true a = rw a tt
    by false a = rw a tt
stays st.AfterQuote c inside more = by (c == 34) (c == 44) (c == 13) (c == 10) refl refl refl refl
  where
    by : (quote comma cr lf : Bool) → (c == 34) ≡ quote → (c == 44) ≡ comma → (c == 13) ≡ cr → (c == 10) ≡ lf → IsInside (step default_config st.AfterQuote c).0
    by true comma cr lf a b d e = rw a tt
    by false true cr lf a b d e = rw (a, b) tt
    by false false true lf a b d e = absurd cc
    by false false false true a b d e = absurd cc
    by false false false false a b d e = rw (a, b, d, e) tt
stays st.InEscape c inside more = tt
stays st.InComment c inside more = absurd inside
stays st.AfterCr c inside more = absurd inside

-- so there is one, whatever follows
inside-some : (s : State) (fields : List (List ℕ)) (field xs : List ℕ) → IsInside s → next_record default_config s fields field xs ≢ None
unfolding next_record
inside-some st.StartRecord fields field [] inside = absurd inside
inside-some st.StartField fields field [] inside = λ none. cc
inside-some st.InField fields field [] inside = λ none. cc
inside-some st.InQuoted fields field [] inside = λ none. cc
inside-some st.AfterQuote fields field [] inside = λ none. cc
inside-some st.InEscape fields field [] inside = λ none. cc
inside-some st.InComment fields field [] inside = absurd inside
inside-some st.AfterCr fields field [] inside = absurd inside
inside-some s fields field (c ∷ rest) inside =
    by (is_end (step default_config s c).1) refl
    (λ more. inside-some (step default_config s c).0 (fields_after (step default_config s c).1 fields field)
    (field_after (step default_config s c).1 c field) rest (stays s c inside more))
  where
    by : (b : Bool) → is_end (step default_config s c).1 ≡ b
        → (is_end (step default_config s c).1 ≡ false
        → next_record default_config (step default_config s c).0 (fields_after (step default_config s c).1 fields field)
        (field_after (step default_config s c).1 c field) rest ≢ None)
        → next_record default_config s fields field (c ∷ rest) ≢ None
    by true e more = rw e (λ none. cc)
    by false e more = rw e (more e)

-- a byte but an end of a line begins a record
begins : (c : ℕ) (fields : List (List ℕ)) (field rest : List ℕ) → is_line_end c ≡ false
    → next_record default_config st.StartRecord fields field (c ∷ rest) ≢ None
unfolding next_record
begins c fields field rest other = by (c == 34) (c == 44) (c == 13) (c == 10) refl refl refl refl
  where
    by : (quote comma cr lf : Bool) → (c == 34) ≡ quote → (c == 44) ≡ comma → (c == 13) ≡ cr → (c == 10) ≡ lf
        → next_record default_config st.StartRecord fields field (c ∷ rest) ≢ None
    by quote comma true lf a b d e = absurd cc
    by quote comma false true a b d e = absurd cc
    by true comma false false a b d e = rw (a, d, e) (inside-some st.InQuoted _ _ rest tt)
    by false true false false a b d e = rw (a, b, d, e) (inside-some st.StartField _ _ rest tt)
    by false false false false a b d e = rw (a, b, d, e) (inside-some st.InField _ _ rest tt)

-- a text of nothing but ends of lines has no record, and another has one
blank : (xs : List ℕ) → list_all is_line_end xs ≡ true → next_record default_config st.StartRecord [] [] xs ≡ None
unfolding next_record
blank [] ends = refl
blank (c ∷ rest) ends = by (is_line_end c) refl (blank rest)
  where
    by : (b : Bool) → is_line_end c ≡ b → (list_all is_line_end rest ≡ true → next_record default_config st.StartRecord [] [] rest ≡ None)
        → next_record default_config st.StartRecord [] [] (c ∷ rest) ≡ None
    by true e behind = rw e (behind (rw e at ends))
    by false e behind = absurd cc

not-blank : (xs : List ℕ) → next_record default_config st.StartRecord [] [] xs ≡ None → list_all is_line_end xs ≡ true
unfolding next_record
not-blank [] none = refl
not-blank (c ∷ rest) none = by (is_line_end c) refl (not-blank rest)
  where
    by : (b : Bool) → is_line_end c ≡ b → (next_record default_config st.StartRecord [] [] rest ≡ None → list_all is_line_end rest ≡ true)
        → list_all is_line_end (c ∷ rest) ≡ true
    by true e behind = rw e (behind (rw e at none))
    by false e behind = absurd (begins c [] [] rest e none)

-- so it is seen whether a file has none
pub blank-file : (bytes text : List ℕ) (r : Bool) → text ≡ strip_bom bytes → r ≡ list_all is_line_end text → IsTrue r ↔ AreFileRecords bytes []
unfolding Reached
blank-file bytes text r is all = (
  (λ yes. (st.StartRecord, strip_bom bytes, (refl, refl), blank (strip_bom bytes) cc)),
  (λ are. let none : next_record default_config st.StartRecord [] [] (strip_bom bytes) ≡ None = rw (are.2.0, are.2.1) are.3 in
      let ends = not-blank (strip_bom bytes) none in cc),
)

-- and a file that is not found to have none has one
pub not-blank-file : (bytes : List ℕ) (records : List Fields) (r : Bool) → IsTrue r ↔ AreFileRecords bytes [] → r ≡ false
    → AreFileRecords bytes records → 0 < length records
not-blank-file bytes [] r says other are = absurd (let yes = says.1 are in cc)
not-blank-file bytes (fields ∷ records) r says other are = omega arith

-- what stands behind a mark, or all
pub marked : (text bytes : List ℕ) → bytes ≡ (239 ∷ 187 ∷ 191 ∷ []) ++ text → text ≡ strip_bom bytes
unfolding strip_bom
marked text bytes is = rw is refl

-- of bytes that begin with no mark all are the text
pub unmarked : (bytes : List ℕ) → ((rest : List ℕ) → bytes ≢ (239 ∷ 187 ∷ 191 ∷ []) ++ rest) → bytes ≡ strip_bom bytes
unfolding strip_bom
unmarked [] other = refl
unmarked (a ∷ []) other = refl
unmarked (a ∷ b ∷ []) other = refl
unmarked (a ∷ b ∷ c ∷ rest) other = by (a == 239) (b == 187) (c == 191) refl refl refl
  where
    by : (x y z : Bool) → (a == 239) ≡ x → (b == 187) ≡ y → (c == 191) ≡ z → a ∷ b ∷ c ∷ rest ≡ strip_bom (a ∷ b ∷ c ∷ rest)
    by false y z p q r = rw p refl
    by true false z p q r = rw (p, q) refl
    by true true false p q r = rw (p, q, r) refl
    by true true true p q r = absurd (other rest (rw ((Decides-eqb a 239).0 p, (Decides-eqb b 187).0 q, (Decides-eqb c 191).0 r) refl))
