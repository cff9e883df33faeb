-- What is told of the tables by a call that reads them outside a transaction.
use Rattle.std.proofs.Common.{◌≡◌, ◌⊎◌, false, IsTrue, ℕ, Result, Ok, Err, inl, inr, subst, sym}
use Rattle.std.specs.Prelude.{IfErr}
use Rattle.sqlite.specs.Effect.{Database}
use Rattle.sqlite.specs.State.{HasCleanDisk, State}
use Rattle.office_rules.specs.declared.decision.refusal.Refusal.{Refusal}
use Rattle.office_rules.specs.declared.decision.refusal.Refusal.TheVariants.{Memory, Store}
use Rattle.book_tables.specs.reading.Reading.{HasAllTables, OnlyReads}
use Rattle.book_tables.specs.declared.error.TableError.{TableError}
use Rattle.book_states.proofs.FailingLemmas.{told_of_read}
use Rattle.book_states.proofs.StayLemmas.{clean_before, left_same}
use Rattle.book_states.specs.Failing.{refusal_for}
use Rattle.book_states.specs.Same.{IsSame}
use Rattle.book_facts.specs.Looking.{TellsTables}
use Rattle.book_facts.specs.Totals.{GivesTotals}
use Rattle.book_facts.proofs.LooksLemmas.{TellsSpoilt}

-- a refusal of the call's own is one of those that it may give
own_or : {A : Type 0} (Own Tells : Refusal → Type 0) (given : Result A Refusal) → IfErr given Own → IfErr given (λ why. Own why ⊎ Tells why)
own_or Own Tells (Ok value) own = tt
own_or Own Tells (Err why) own = inl own

-- what is told where the tables were read: what was seen in them, or a refusal of the call's own
pub tells_read : {A T : Type 0} {Own : Refusal → Type 0} {IsSeen : Database → Result A Refusal → Type 0} {IsSpoilt : Database → Type 0}
    {Same : State → State → Type 0}
    {x : T} (given : Result A Refusal) (old new : State) → OnlyReads Same old new (Ok x) → (Same old new → IsSame old new)
    → (old.is_clean ≡ false → old.is_open ≡ false) → old.in_transaction ≡ false
    → (HasCleanDisk new → HasAllTables old → IsSeen old.now given) → IfErr given Own → TellsTables Own IsSeen IsSpoilt old new given
tells_read {Own = Own} given old new reads same shut outside seen own =
    record {
      seen = seen;
      nothing = λ clean tables. record { same = same (reads.same clean tables); survives = reads.survives tables };
      clean = clean_before old new _ shut reads.survives;
      failures = λ clean tables. own_or Own _ given own;
      refusals = own_or Own _ given own;
      outside = reads.mode outside;
    }

-- what is told where they were not: why
pub tells_failed : {A T : Type 0} {Own : Refusal → Type 0} {IsSeen : Database → Result A Refusal → Type 0} {IsSpoilt : Database → Type 0}
    {Same : State → State → Type 0}
    (old new : State) (e : TableError) (why : Refusal) → why ≡ refusal_for e → (why ≡ Memory) ⊎ (why ≡ Store)
    → OnlyReads {T = T} Same old new (Err e) → TellsSpoilt IsSpoilt old new e → (IsTrue old.is_open → old.now ≡ old.committed)
    → (old.is_clean ≡ false → old.is_open ≡ false) → old.in_transaction ≡ false → IsSeen old.now (Err why)
    → TellsTables Own IsSeen IsSpoilt old new (Err why)
tells_failed {A = A} old new e why answered either reads spoilt settled shut outside seen =
    record {
      seen = λ clean tables. seen;
      nothing = λ clean tables. record { same = left_same old new settled (reads.kept clean tables); survives = reads.survives tables };
      clean = clean_before old new _ shut reads.survives;
      failures = λ clean tables. inr (told_of_read old new e why answered (reads.faults clean tables) (spoilt clean tables) clean (reads.survives tables));
      refusals = inr either;
      outside = reads.mode outside;
    }

-- where the tables were not read, no totals were seen
pub no_totals : (number : ℕ) (db : Database) (why : Refusal) → (why ≡ Memory) ⊎ (why ≡ Store) → GivesTotals number db (Err why)
no_totals number db why either =
    let Gives : Refusal → Type 0 = λ why. GivesTotals number db (Err why) in
    elim either [ inl memory ↦ subst Gives (sym memory) tt | inr failed ↦ subst Gives (sym failed) tt ]
