-- Books that are only read, one call after another.
use Rattle.std.proofs.Common.{◌≡◌, ◌⊎◌, ◌≤◌, ◌∙◌, false, Result, arith, inl, inr, subst}
use Rattle.std.proofs.lemmas.Bool.{both_ways, cases_Bool}
use Rattle.sqlite.proofs.StateLemmas.{survives_then}
use Rattle.sqlite.specs.Effect.{Database}
use Rattle.book_states.proofs.StayLemmas.{nothing_same}
use Rattle.book_states.specs.Same.{ChangesNothing}
use Rattle.books.specs.Failing.{HasFailedAt}
use Rattle.books.specs.Keeps.{BooksHaveTables, Seen}
use Rattle.books.specs.Reads.{ReadsBooks}
use Rattle.sqlite.specs.State.{HasCleanDisk, State}
use Rattle.sqlite_disk.specs.Disk.{MoreFaults}
use Rattle.office_rules.specs.declared.decision.refusal.Refusal.{Refusal}
use Rattle.office_commands.specs.office.OnlyRead.{AreOnlyRead, HasDiskFailed, HaveShown}
use Rattle.office_commands.specs.office.Refused.{FailsOnlyFor}

nothing_then : (a b c : State) → ChangesNothing a b → ChangesNothing b c → ChangesNothing a c
nothing_then a b c one two = record {
  same = record {
    was_open = λ is_open. one.same.was_open (two.same.was_open is_open);
    now_is = λ is_open. two.same.now_is is_open ∙ one.same.now_is (two.same.was_open is_open);
  };
  survives = survives_then a b c (λ _. ⊥) (λ _. ⊥) (λ _. ⊥) (λ _ _ none. none) (λ _ _ none. none) one.survives two.survives;
}

-- by no call
pub read_none : (books : Seen) → AreOnlyRead books books
read_none books = record {
  keeps = λ life kept. kept;
  tables = λ has. has;
  nothing = λ clean has. nothing_same books.state;
  clean = λ clean. clean;
}

-- by one
pub read_once : {A : Type 0} {Own : Refusal → Type 0} {IsSeen : Database → Result A Refusal → Type 0} {IsSpoilt : Database → Type 0} {given : Result A Refusal}
    (old new : Seen) → ReadsBooks Own IsSeen IsSpoilt given old new → AreOnlyRead old new
read_once old new reads = record { keeps = reads.keeps; tables = reads.tables; nothing = reads.nothing; clean = reads.clean }

-- by one after others
pub read_then : (old mid new : Seen) → AreOnlyRead old mid → AreOnlyRead mid new → AreOnlyRead old new
read_then old mid new one two = record {
  keeps = λ life kept. two.keeps life (one.keeps life kept);
  tables = λ has. two.tables (one.tables has);
  nothing = λ clean has. nothing_then old.state mid.state new.state (one.nothing (two.clean clean) has) (two.nothing clean (one.tables has));
  clean = λ clean. one.clean (two.clean clean);
}

-- ---- what a later call shows, and why it fails

-- where nothing was changed before a read
module _ (old mid new : State) (clean : HasCleanDisk mid) (before : ChangesNothing old mid) (counts : mid.faults ≤ new.faults) where
  more_before : MoreFaults old.faults mid.faults → MoreFaults old.faults new.faults
  more_before more = omega (arith, more, counts)

  -- a connection that is shut was shut, or the disk failed
  shut_before : mid.is_open ≡ false → HasDiskFailed old new
  shut_before shut = elim (cases_Bool old.is_open) [
    | inl was_open ↦ elim (before.survives.closes clean was_open) [
      | inl is_open ↦ absurd (both_ways mid.is_open shut is_open)
      | inr more ↦ inl (more_before more)
    ]
    | inr was_shut ↦ inr was_shut
  ]

  -- and one that is open has what it had
  same_before : (mid.now ≡ old.now) ⊎ HasDiskFailed old new
  same_before = elim (cases_Bool mid.is_open) [
    | inl is_open ↦ inl (before.same.now_is is_open)
    | inr shut ↦ inr (shut_before shut)
  ]

  still_failed : HasDiskFailed old mid → HasDiskFailed old new
  still_failed (inl more) = inl (more_before more)
  still_failed (inr was_shut) = inr was_shut

  module _ (IsSpoilt : Database → Type 0) where
    for_disk : HasDiskFailed old new → HasFailedAt IsSpoilt old new
    for_disk (inl more) = inl more
    for_disk (inr was_shut) = inr (inl was_shut)

    -- why the read failed is a cause of the connection from before
    failed_before : HasFailedAt IsSpoilt mid new → HasFailedAt IsSpoilt old new
    failed_before (inl more) = let earlier = before.survives.counts in inl (omega (arith, more, earlier))
    failed_before (inr (inl shut)) = for_disk (shut_before shut)
    failed_before (inr (inr (inl limit))) = inr (inr (inl (rw (← before.survives.limit) limit)))
    failed_before (inr (inr (inr spoilt))) = elim (cases_Bool mid.is_open) [
      | inl is_open ↦ inr (inr (inr (subst IsSpoilt (before.same.now_is is_open) spoilt)))
      | inr shut ↦ for_disk (shut_before shut)
    ]

-- a call after others that only read shows what the books had before them
pub shows_before : (First Later : Database → Type 0) (old mid new : Seen) → AreOnlyRead old mid → AreOnlyRead mid new
    → mid.stopped ≡ old.stopped → HaveShown First old mid
    → (HasCleanDisk new.state → BooksHaveTables mid → mid.stopped ≡ false → Later mid.state.now)
    → HaveShown (λ db. First db × Later db) old new
shows_before First Later old mid new one two same first later clean tables running =
    let mid_clean = two.clean clean in
    let here = one.tables tables in
    let before = one.nothing mid_clean tables in
    let counts = (two.nothing clean here).survives.counts in
    elim (first mid_clean tables running) [
      | inr failed ↦ inr (still_failed old.state mid.state new.state mid_clean before counts failed)
      | inl shown ↦ elim (same_before old.state mid.state new.state mid_clean before counts) [
        | inr failed ↦ inr failed
        | inl has ↦ inl (shown, subst Later has (later clean here (same ∙ running)))
      ]
    ]

-- what was shown before a call that only reads was shown after it too
pub shown_then : (Shows : Database → Type 0) (old mid new : Seen) → AreOnlyRead old mid → AreOnlyRead mid new → HaveShown Shows old mid
    → HaveShown Shows old new
shown_then Shows old mid new one two shown clean tables running =
    let mid_clean = two.clean clean in
    elim (shown mid_clean tables running) [
      | inl shows ↦ inl shows
      | inr failed ↦ inr (still_failed old.state mid.state new.state mid_clean (one.nothing mid_clean tables)
          (two.nothing clean (one.tables tables)).survives.counts failed)
    ]

-- what was shown by other words
pub shown_so : (One Other : Database → Type 0) (old new : Seen) → ((db : Database) → One db → Other db) → HaveShown One old new → HaveShown Other old new
shown_so One Other old new turned shown clean tables running =
    elim (shown clean tables running) [ inl one ↦ inl (turned old.state.now one) | inr failed ↦ inr failed ]

-- a call after others that only read fails for a cause of the books from before them
pub fails_before : (IsSpoilt : Database → Type 0) (old mid new : Seen) (refusal : Refusal) → AreOnlyRead old mid → AreOnlyRead mid new
    → mid.stopped ≡ old.stopped → FailsOnlyFor IsSpoilt mid new refusal → FailsOnlyFor IsSpoilt old new refusal
fails_before IsSpoilt old mid new refusal one two same fails clean tables running is =
    let mid_clean = two.clean clean in
    failed_before old.state mid.state new.state mid_clean (one.nothing mid_clean tables)
    (two.nothing clean (one.tables tables)).survives.counts IsSpoilt (fails clean (one.tables tables) (same ∙ running) is)
