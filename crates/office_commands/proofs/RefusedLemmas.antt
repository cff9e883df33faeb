-- Books that are only read, and when they are stopped.
use Rattle.std.proofs.Common.{◌≡◌, ◌⊎◌, ◌∙◌, true, false, Result, Ok, Err, ap, inl, inr, subst, sym}
use Rattle.std.specs.Prelude.{◌↔◌}
use Rattle.std.proofs.lemmas.Bool.{false_from_ne_true}
use Rattle.sqlite.specs.Effect.{Database}
use Rattle.sqlite.specs.State.{HasCleanDisk}
use Rattle.books.specs.Failing.{IsToldOfRead}
use Rattle.books.specs.Keeps.{BooksHaveTables, Seen}
use Rattle.office_rules.specs.declared.decision.refusal.Refusal.{Refusal}
use Rattle.office_rules.specs.declared.decision.refusal.Refusal.TheVariants.{Memory, Stopped, Store}
use Rattle.office_commands.specs.office.Refused.{FailsOnlyFor, TellsStopped}

-- what a reading says of books that were stopped, and of those that are
abbrev pub SaysStopped : {A : Type 0} → (old new : Seen) → Result A Refusal → Type 0
SaysStopped old new result =
    ((result ≡ Err Stopped) ↔ (old.stopped ≡ true)) × ((new.stopped ≡ true) ↔ ((result ≡ Err Store) ⊎ (result ≡ Err Stopped)))

neither : {A : Type 0} (v : A) (a b : Refusal) → (Ok v ≡ Err a) ⊎ (Ok v ≡ Err b) → ⊥
neither v a b (inl is) = cc
neither v a b (inr is) = cc

was_running : {A : Type 0} (old new : Seen) (v : A) → SaysStopped old new (Ok v) → old.stopped ≡ false
was_running old new v says = false_from_ne_true old.stopped (λ e. let told = says.0.1 e in cc)

is_running : {A : Type 0} (old new : Seen) (v : A) → SaysStopped old new (Ok v) → new.stopped ≡ false
is_running old new v says = false_from_ne_true new.stopped (λ e. neither v Store Stopped (says.1.0 e))

-- books that were read are stopped as they were
pub stopped_as_before : {A : Type 0} (old new : Seen) (v : A) → SaysStopped old new (Ok v) → new.stopped ≡ old.stopped
stopped_as_before old new v says = is_running old new v says ∙ sym (was_running old new v says)

-- and find no memory without being stopped
pub tells_no_memory : {A : Type 0} (old new : Seen) (v : A) → SaysStopped old new (Ok v) → TellsStopped old new Memory
tells_no_memory old new v says = record {
  stopped = (λ e. absurd (cc), λ e. let none = sym (was_running old new v says) ∙ e in absurd (cc));
  stops = (λ e. let none = sym (is_running old new v says) ∙ e in absurd (cc), λ why. absurd (other why));
} where
  other : (Memory ≡ Store) ⊎ (Memory ≡ Stopped) → ⊥
  other (inl e) = cc
  other (inr e) = cc

abbrev refused : (A : Type 0) → Refusal → Result A Refusal
refused A refusal = Err refusal

same_refusal : (A : Type 0) (a b : Refusal) → refused A a ≡ refused A b → a ≡ b
same_refusal A a b e = cc

one_of : (A : Type 0) (refusal a b : Refusal) → (refused A refusal ≡ refused A a) ⊎ (refused A refusal ≡ refused A b) → (refusal ≡ a) ⊎ (refusal ≡ b)
one_of A refusal a b (inl e) = inl (same_refusal A refusal a e)
one_of A refusal a b (inr e) = inr (same_refusal A refusal b e)

from_one : (A : Type 0) (refusal a b : Refusal) → (refusal ≡ a) ⊎ (refusal ≡ b) → (refused A refusal ≡ refused A a) ⊎ (refused A refusal ≡ refused A b)
from_one A refusal a b (inl e) = inl (ap (refused A) e)
from_one A refusal a b (inr e) = inr (ap (refused A) e)

-- what refused them is told so
pub tells_refusal : {A : Type 0} (old new : Seen) (refusal : Refusal) → SaysStopped old new (refused A refusal) → TellsStopped old new refusal
tells_refusal {A} old new refusal says = record {
  stopped = (λ e. says.0.0 (ap (refused A) e), λ was. same_refusal A refusal Stopped (says.0.1 was));
  stops = (λ is. one_of A refusal Store Stopped (says.1.0 is), λ why. says.1.1 (from_one A refusal Store Stopped why));
}

-- the same of books before it, that were stopped where these were
pub stopped_before : (old mid new : Seen) (refusal : Refusal) → mid.stopped ≡ old.stopped → TellsStopped mid new refusal → TellsStopped old new refusal
stopped_before old mid new refusal same tells = record {
  stopped = (λ e. sym same ∙ tells.stopped.0 e, λ was. tells.stopped.1 (same ∙ was));
  stops = tells.stops;
}

-- where the store failed, and no refusal of the call's own says so, a read of the tables did
pub fails_only : (Own : Refusal → Type 0) {IsSpoilt : Database → Type 0} (old new : Seen) (refusal : Refusal) → ¬ Own Store
    → (HasCleanDisk new.state → BooksHaveTables old → old.stopped ≡ false → Own refusal ⊎ IsToldOfRead IsSpoilt refusal old.state new.state)
    → FailsOnlyFor IsSpoilt old new refusal
fails_only Own old new refusal never told clean tables running is = elim (told clean tables running) [
  | inl own ↦ absurd (never (subst Own is own))
  | inr read ↦ read.failed is
]
