-- How an opening ends, by what was looked at and what was brought.
use Rattle.std.proofs.Common.{◌≡◌, ◌<◌, ◌⊎◌, ℕ, false, IsTrue, IsErrAnd, IfOk, Result, Ok, Err, ◌∙◌, refl, sym, subst, inl, inr, arith}
use Rattle.std.proofs.lemmas.Bool.{both_ways, true_from_ne_false}
use Rattle.std.proofs.lemmas.Result.{IfErr-weaker, IfOk-weaker, on_ok_weaker}
use Rattle.sqlite_trees.specs.Tree.{Trees}
use Rattle.sqlite_trees.proofs.Doubt.{no_doubt}
use Rattle.sqlite.specs.Effect.{Database}
use Rattle.sqlite.specs.State.{HasCleanDisk, IsUnchanged, State, Survives}
use Rattle.sqlite.proofs.StateLemmas.{survives_then}
use Rattle.one_table.specs.Committing.{LeavesMade}
use Rattle.office_rules.specs.Office.{Office}
use Rattle.book_tables.proofs.HoldsLemmas.{held_as, stands_present}
use Rattle.book_tables.specs.Holds.{HasOffice, HoldsMembers, StandsFor}
use Rattle.book_tables.specs.format.Format.{HasFormat}
use Rattle.book_tables.specs.format.Making.{IsSoundOfFormat}
use Rattle.book_tables.specs.row.Rows.{present_format}
use Rattle.book_states.specs.Stores.{RecoversTo, StoreStandsFor}
use Rattle.book_states.specs.Same.{IsSame}
use Rattle.book_states.proofs.StayLemmas.{left_same, unchanged_same}
use Rattle.book_opening.specs.Opening.{AfterStore, BringsTold, EndsOpening, FaultFitsStore, FollowsLast, HasOfficesRows, IsBrought, IsSoldSoFar, LeavesBrought, LeavesPresent, LeavesRefused, Looks, OpensAs, OpensAt, Refuses}
use Rattle.book_opening.specs.declared.fault.OpenFault.{OpenFault}
use Rattle.book_opening.specs.declared.fault.OpenFault.TheVariants.{NotAnOffice, Store, Memory}
use Rattle.book_opening.specs.declared.sold_so_far.SoldSoFar.{SoldSoFar}
use Rattle.book_opening.proofs.LookingLemmas.{of_failure, shown_before, stands_after}

-- a call that leaves nothing new leaves nothing beside
leaves_less : {Leaves : Trees → Type 0} (old new : State) → Survives old new (λ _. ⊥) → Survives old new Leaves
leaves_less old new s = record {
  clean = s.clean;
  shield = s.shield;
  counts = s.counts;
  limit = s.limit;
  closes = s.closes;
  crash = λ clean db left. elim (s.crash clean db left) [ inl was ↦ inl was | inr none ↦ absurd none ];
}

module _ (old new : State) (clean : HasCleanDisk new) (survives : Survives old new (LeavesBrought old)) where
  -- what a crash leaves stands for the office, begun or not
  left_for : (o : Office) → StoreStandsFor old o → (trees : Trees) → new.may_leave trees → RecoversTo trees o
  left_for o at trees leaves = elim (survives.crash clean trees leaves) [
    | inl was ↦ at.left trees was
    | inr brought ↦
        (let made = brought.1 in
        let it = made.1.2 in
        (made.0, it.tables.beside.sound, made.2, stands_present made.0 o at.office (it.members o (at.now brought.0))))
  ]

  stands_still : IsSame old new → (o : Office) → StoreStandsFor old o → StoreStandsFor new o
  stands_still same o at = record {
    office = at.office;
    now = λ is_open. subst (λ (db : Database). StandsFor db o) (sym (same.now_is is_open)) (at.now (same.was_open is_open));
    left = left_for o at;
  }

  opens_brought : (from : ℕ) (sold : SoldSoFar) → IsSoldSoFar old sold → IsBrought from old new → OpensAt old new sold
  opens_brought from sold is brought = λ o at. (
    record { office = at.office; members = λ _. brought.brings.members o (at.now brought.was_open); left = left_for o at },
    is o at,
  )

-- ---- after a look that left all as it was, and showed that the connection is open

module _ (old mid new : State) (same : HasCleanDisk mid → IsUnchanged old mid) (one : Survives old mid (λ _. ⊥))
    (two : Survives mid new (LeavesBrought mid)) where
  clean_before : HasCleanDisk new → HasCleanDisk mid
  clean_before clean = omega (arith, two.clean)

  look : HasCleanDisk new → IsUnchanged old mid
  look clean = same (clean_before clean)

  stands_before : (o : Office) → HasCleanDisk new → StoreStandsFor old o → StoreStandsFor mid o
  stands_before o clean = let c = clean_before clean in stands_after old mid o c (unchanged_same old mid (same c)) one

  left_before : HasCleanDisk new → (trees : Trees) → LeavesBrought mid trees → LeavesBrought old trees
  left_before clean trees begun = let it = look clean in (it.0.was_open, subst (λ (db : Database). LeavesMade BringsTold db trees) it.0.now_is begun.1)

  survives_after : Survives old new (LeavesBrought old)
  survives_after = survives_then old mid new (λ _. ⊥) (LeavesBrought mid) (LeavesBrought old) (λ _ _ none. absurd none) left_before one two

  finds_after : HasCleanDisk new → OpensAs mid new → OpensAs old new
  finds_after clean h = let it = look clean in record {
    was_open = it.0.was_open;
    is_open = h.is_open;
    now = subst (λ (db : Database). BringsTold db new.now ⊎ (HasOffice db.schema × HasFormat db present_format × (new.now ≡ db))) it.0.now_is h.now;
  }

  follows_after : (sold : SoldSoFar) → HasCleanDisk new → BringsTold mid.now new.now ⊎ FollowsLast mid.now sold → BringsTold old.now new.now ⊎ FollowsLast old.now sold
  follows_after sold clean h = subst (λ (db : Database). BringsTold db new.now ⊎ FollowsLast db sold) (look clean).0.now_is h

  opens_after : (sold : SoldSoFar) → HasCleanDisk new → OpensAt mid new sold → OpensAt old new sold
  opens_after sold clean h = λ o at. h o (stands_before o clean at)

  refuses_after : (fault : OpenFault) → HasCleanDisk new → Refuses mid new fault → Refuses old new fault
  refuses_after fault clean h = record {
    told = shown_before old mid fault (look clean) (λ o. stands_before o clean) h.told;
    same = (let it = look clean in record { was_open = λ _. it.0.was_open; now_is = λ is_open. h.same.now_is is_open ∙ it.0.now_is });
    kept = λ o at. h.kept o (stands_before o clean at);
  }

  risks_after : (fault : OpenFault) → Survives mid new (LeavesRefused mid fault) → Survives old new (LeavesRefused old fault)
  risks_after fault risk = survives_then old mid new (λ _. ⊥) (LeavesRefused mid fault) (LeavesRefused old fault) (λ _ _ none. absurd none)
      (refused fault) one risk
    where
      refused : (fault : OpenFault) → HasCleanDisk new → (trees : Trees) → LeavesRefused mid fault trees → LeavesRefused old fault trees
      refused Store clean trees begun = left_before clean trees begun
      refused Memory clean trees none = none
      refused NotAnOffice clean trees none = none

-- an opening after a look
pub ends_after : (old mid new : State) (r : Result SoldSoFar OpenFault) → (HasCleanDisk mid → IsUnchanged old mid) → Survives old mid (λ _. ⊥) → EndsOpening mid new r
    → EndsOpening old new r
ends_after old mid new r same one h = record {
  opens = λ clean. IfOk-weaker r _ _ (λ sold. opens_after old mid new same one h.survives sold clean) (h.opens clean);
  finds = λ clean. on_ok_weaker r (finds_after old mid new same one h.survives clean) (h.finds clean);
  follows = λ clean. IfOk-weaker r _ _ (λ sold. follows_after old mid new same one h.survives sold clean) (h.follows clean);
  refused = λ clean. IfErr-weaker r _ _ (λ fault. refuses_after old mid new same one h.survives fault clean) (h.refused clean);
  survives = survives_after old mid new same one h.survives;
  risks = IfErr-weaker r _ _ (risks_after old mid new same one h.survives) h.risks;
}

-- a store that is not clean shows as shut
clean_of : (s : State) → (s.is_clean ≡ false → s.is_open ≡ false) → IsTrue s.is_open → HasCleanDisk s
clean_of s shut runs = no_doubt s.is_clean (true_from_ne_false s.is_clean (λ dirty. both_ways s.is_open (shut dirty) runs))

module _ (old mid : State) (shut : mid.is_clean ≡ false → mid.is_open ≡ false) (same : HasCleanDisk mid → IsUnchanged old mid) where
  -- what is known of an open connection is known after a look, whatever the disk did
  pub known_after : (Known : Database → Type 0) → (HasCleanDisk mid → IsTrue old.is_open → Known old.now) → IsTrue mid.is_open → Known mid.now
  known_after Known has runs =
      let clean = clean_of mid shut runs in
      let it = same clean in
      subst Known (sym it.0.now_is) (has clean it.0.was_open)

  -- outside a transaction it has what is committed
  pub settled_after : (IsTrue old.is_open → old.now ≡ old.committed) → IsTrue mid.is_open → mid.now ≡ mid.committed
  settled_after settled runs =
      let it = same (clean_of mid shut runs) in
      it.0.now_is ∙ settled it.0.was_open ∙ sym it.0.committed_is

-- ---- how it ends

module _ (old new : State) where
  -- nothing has changed, and it is refused
  pub refuses_nothing : (fault : OpenFault) → (HasCleanDisk new → IsSame old new) → Survives old new (λ _. ⊥) → (HasCleanDisk new → FaultFitsStore old fault)
      → EndsOpening old new (Err fault)
  refuses_nothing fault same survives told = record {
    opens = λ _. tt;
    finds = λ _. tt;
    follows = λ _. tt;
    refused = λ clean. record { told = told clean; same = same clean; kept = λ o at. stands_after old new o clean (same clean) survives at };
    survives = leaves_less old new survives;
    risks = leaves_less old new survives;
  }

  -- a look failed
  pub ends_looked : {T : Type 0} {K : State → Type 0} (fault : OpenFault) (r : Result SoldSoFar OpenFault) → IsErrAnd r (λ x. x ≡ fault) → K old
      → (IsTrue old.is_open → old.now ≡ old.committed) → Looks {T = T} K old new (Err fault) → EndsOpening old new r
  ends_looked fault (Ok x) is known settled looks = absurd is
  ends_looked fault (Err x) is known settled looks =
      subst (λ (f : OpenFault). EndsOpening old new (Err f)) (sym is)
      (refuses_nothing fault (λ clean. left_same old new settled (looks.kept clean known)) (looks.survives known) (λ clean. looks.faults clean known))

  -- the tables of the present format were found
  pub ends_found : (r : Result SoldSoFar OpenFault) → IsSoundOfFormat present_format old → (IsTrue old.is_open → old.now ≡ old.committed)
      → (HasCleanDisk old → HasFormat old.now present_format) → (HasCleanDisk new → IsSoundOfFormat present_format old → IfOk r (IsSoldSoFar old))
      → (HasCleanDisk new → IsSoundOfFormat present_format old → IfOk r (FollowsLast old.now))
      → Looks (IsSoundOfFormat present_format) old new r → EndsOpening old new r
  ends_found (Ok sold) has settled tells given follows looks = record {
    opens = λ clean o at.
        let it = looks.same clean has in (
          record {
            office = at.office;
            members = λ _. subst (λ (db : Database). HoldsMembers db o) (sym it.0.now_is)
                (held_as old.now o present_format (at.now it.0.was_open) (omega arith) (has it.0.was_open).1).0;
            left = (stands_after old new o clean (unchanged_same old new it) (looks.survives has) at).left;
          },
          given clean has o at,
        );
    finds = λ clean.
        let it = looks.same clean has in
        record {
          was_open = it.0.was_open;
          is_open = it.0.is_open;
          now = inr
              ((has it.0.was_open).1, tells (omega (arith, (looks.survives has).clean)), it.0.now_is);
        };
    follows = λ clean. inr (follows clean has);
    refused = λ _. tt;
    survives = leaves_less old new (looks.survives has);
    risks = tt;
  }
  ends_found (Err fault) has settled tells given follows looks = ends_looked fault (Err fault) refl has settled looks

-- what is left of the tables of a format is left of an opening, where these were an office's
module _ (from : ℕ) (old new : State) (older : from < present_format) (opens : HasCleanDisk old → IsTrue old.is_open)
    (rows : HasCleanDisk old → HasOfficesRows from old.now) (s : Survives old new (LeavesPresent from old)) where
  early : HasCleanDisk new → HasCleanDisk old
  early clean = omega (arith, s.clean)

  leaves : Survives old new (LeavesBrought old)
  leaves = record {
    clean = s.clean;
    shield = s.shield;
    counts = s.counts;
    limit = s.limit;
    closes = s.closes;
    crash = λ clean trees left. elim (s.crash clean trees left) [
      | inl was ↦ inl was
      | inr made ↦ inr
          (made.0, (made.1.0, (from, older, made.1.1, rows (early clean)), made.1.2))
    ];
  }

  -- the office was brought to the present format
  pub ends_brought : (sold : SoldSoFar) → (HasCleanDisk old → IsSoldSoFar old sold) → (HasCleanDisk new → IsBrought from old new) → EndsOpening old new (Ok sold)
  ends_brought sold is brought = record {
    opens = λ clean. opens_brought old new clean leaves from sold (is (early clean)) (brought clean);
    finds = λ clean. let it = brought clean in record { was_open = it.was_open; is_open = it.is_open; now = inl (from, older, it.brings, rows (early clean)) };
    follows = λ clean. inl (from, older, (brought clean).brings, rows (early clean));
    refused = λ _. tt;
    survives = leaves;
    risks = tt;
  }

  risked : (fault : OpenFault) → Survives old new (AfterStore (LeavesPresent from old) fault) → Survives old new (LeavesRefused old fault)
  risked Store risk = leaves
  risked Memory risk = risk
  risked NotAnOffice risk = risk

  -- it was not
  pub ends_unbrought : (fault : OpenFault) (r : Result SoldSoFar OpenFault) → IsErrAnd r (λ x. x ≡ fault) → (HasCleanDisk new → (fault ≡ Store) ⊎ (fault ≡ Memory))
      → (HasCleanDisk new → IsSame old new) → Survives old new (AfterStore (LeavesPresent from old) fault)
      → EndsOpening old new r
  ends_unbrought fault (Ok x) is told same risk = absurd is
  ends_unbrought fault (Err x) is told same risk = subst (λ (f : OpenFault). EndsOpening old new (Err f)) (sym is) (record {
    opens = λ _. tt;
    finds = λ _. tt;
    follows = λ _. tt;
    refused = λ clean. record { told = of_failure old fault (told clean); same = same clean; kept = stands_still old new clean leaves (same clean) };
    survives = leaves;
    risks = risked fault risk;
  })
