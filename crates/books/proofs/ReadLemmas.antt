-- What a call that only reads makes of books.
use Rattle.std.proofs.Common.{◌≡◌, ◌≢◌, ◌⊎◌, ◌↔◌, ◌+◌, ℕ, length, false, true, IsTrue, Result, Ok, Err, refl, sym, subst, ◌∙◌, inl, inr, arith}
use Rattle.std.proofs.lemmas.Bool.{false≢true}
use Rattle.std.specs.Prelude.{IfErr}
use Rattle.sqlite.specs.Effect.{Database}
use Rattle.sqlite.specs.State.{HasCleanDisk}
use Rattle.vend_core.specs.Law.Life.{Life, present}
use Rattle.office_rules.specs.Office.{Office}
use Rattle.office_rules.specs.declared.decision.refusal.Refusal.{Refusal}
use Rattle.office_rules.specs.declared.decision.refusal.Refusal.TheVariants.{Memory, Store, Stopped}
use Rattle.book_facts.specs.Looking.{TellsTables}
use Rattle.book_facts.specs.Lookups.{Finds, IsFoundIn}
use Rattle.asks.specs.declared.lookup.Lookup.{Lookup}
use Rattle.book_states.specs.declared.lookup.Found.{Found}
use Rattle.book_states.specs.Health.{IsHealthOf}
use Rattle.book_states.specs.Stores.{Stores}
use Rattle.book_states.proofs.OthersLemmas.{nothing_others, others_same, tables_stay}
use Rattle.book_states.proofs.StayLemmas.{has_tables, nothing_same, still_held}
use Rattle.books.specs.Keeps.{IsPresent, KnowTheSame, Represents, Seen, health_of}
use Rattle.books.specs.Looking.{IsFoundAt}
use Rattle.books.specs.Reads.{ReadsBooks}
use Rattle.books.proofs.KnownLemmas.{known_same}
use Rattle.books.proofs.PageLemmas.{kept_read}
use Rattle.books.proofs.ServeLemmas.{stops_on}

-- books that were stopped are not read
pub read_stopped : {A : Type 0} {IsSeen : Database → Result A Refusal → Type 0} {IsSpoilt : Database → Type 0} (Own : Refusal → Type 0) (books : Seen)
    → books.stopped ≡ true → ReadsBooks {A = A} Own IsSeen IsSpoilt (Err Stopped) books books
read_stopped Own books was = record {
  keeps = λ life keeps. keeps;
  tables = λ has. has;
  others = λ clean has. others_same books.state;
  nothing = λ clean has. nothing_same books.state;
  clean = λ clean. clean;
  health = known_same books;
  stopped = (λ _. was, λ _. refl);
  stops = (λ _. inr refl, λ _. was);
  refusals = inr (inr (inr refl));
  failures = λ clean has runs. absurd (false≢true (sym runs ∙ was));
  seen = λ clean has runs. absurd (false≢true (sym runs ∙ was));
}

-- books answer as stopped also where they are not read
or_stopped : {A : Type 0} (Own : Refusal → Type 0) (given : Result A Refusal) → IfErr given (λ why. Own why ⊎ ((why ≡ Memory) ⊎ (why ≡ Store)))
    → IfErr given (λ why. Own why ⊎ ((why ≡ Memory) ⊎ ((why ≡ Store) ⊎ (why ≡ Stopped))))
or_stopped Own (Ok value) told = tt
or_stopped Own (Err why) (inl own) = inl own
or_stopped Own (Err why) (inr (inl memory)) = inr (inl memory)
or_stopped Own (Err why) (inr (inr store)) = inr (inr (inl store))

-- a call is not answered as stopped by reads, where it does not answer so itself
never_as_stopped : {A : Type 0} (Own : Refusal → Type 0) (given : Result A Refusal) → ¬ Own Stopped
    → IfErr given (λ why. Own why ⊎ ((why ≡ Memory) ⊎ (why ≡ Store))) → given ≢ Err Stopped
never_as_stopped {A} Own given never told is =
    let stopped : Own Stopped ⊎ ((Stopped ≡ Memory) ⊎ (Stopped ≡ Store)) =
    subst (λ (r : Result A Refusal). IfErr r (λ why. Own why ⊎ ((why ≡ Memory) ⊎ (why ≡ Store)))) is told in
    elim stopped [ inl own ↦ never own | inr (inl memory) ↦ absurd cc | inr (inr store) ↦ absurd cc ]

-- books that were not stopped were read, by what the read makes of their tables
pub was_read : {A : Type 0} {Own : Refusal → Type 0} {IsSeen : Database → Result A Refusal → Type 0} {IsSpoilt : Database → Type 0}
    (given : Result A Refusal) (old new : Seen) → old.stopped ≡ false → new.forward ≡ old.forward → KnowTheSame old new
    → ¬ Own Stopped → TellsTables Own IsSeen IsSpoilt old.state new.state given → (IsTrue new.stopped ↔ (given ≡ Err Store))
    → ReadsBooks Own IsSeen IsSpoilt given old new
was_read {Own = Own} given old new runs forward known never told failed = record {
  keeps = λ life keeps clean.
      let kept = keeps (told.clean clean) in
      let here = kept.running runs in
      kept_read life old new kept here forward known (still_held here.present old.state new.state clean here.at
      (told.nothing clean (has_tables here.present old.state here.at)));
  tables = λ has clean running.
      let before = has (told.clean clean) runs in
      tables_stay old.state new.state (nothing_others old.state new.state clean (told.nothing clean before)) before;
  others = λ clean has. nothing_others old.state new.state clean (told.nothing clean (has (told.clean clean) runs));
  nothing = λ clean has. told.nothing clean (has (told.clean clean) runs);
  clean = told.clean;
  health = known;
  stopped = (λ is. absurd (never_as_stopped Own given never told.refusals is), λ was. absurd (false≢true (sym runs ∙ was)));
  stops = stops_on new.stopped given failed (never_as_stopped Own given never told.refusals);
  refusals = or_stopped Own given told.refusals;
  failures = λ clean has running. told.failures clean (has (told.clean clean) running);
  seen = λ clean has running. told.seen clean (has (told.clean clean) running);
}

-- what holds of the office that the tables hold holds of the present office of the life
pub of_present : (Holds : Office → Type 0) (life : Life) (old new : Seen) → old.stopped ≡ false → (HasCleanDisk new.state → HasCleanDisk old.state)
    → (HasCleanDisk new.state → (o : Office) → Stores old.state o → Holds o) → HasCleanDisk new.state → Represents life old → Holds (present life)
of_present Holds life old new runs back holds clean keeps =
    let here = (keeps (back clean)).running runs in
    subst Holds (sym here.running.present) (holds clean here.present here.at)

-- what is found in the office that the tables hold is found in the present office of the life
pub found_here : (life : Life) (books : Seen) (moment : ℕ) (lookup : Lookup) (given : Result Found Refusal) → (here : IsPresent life books)
    → ((o : Office) → Stores books.state o → IsHealthOf o (health_of books) → IsFoundIn o moment lookup given) → IsFoundAt life moment lookup given
found_here life books moment lookup given here found =
    elim (found here.present here.at (record { sales = omega (arith, here.next); last = here.last })) [
      | inl told ↦ inl (subst (λ (o : Office). Finds o moment lookup given) (sym here.running.present) told)
      | inr (inl memory) ↦ inr (inl memory)
      | inr (inr failed) ↦ inr (inr (inl failed))
    ]
