-- What books know of their office without a read.
use Rattle.std.proofs.Common.{◌≡◌, ◌↔◌, Bool, true, false, IsTrue, Result, Ok, Err, ap, refl, subst, sym}
use Rattle.std.proofs.Math.Bool.{Bool-set}
use Rattle.sqlite.specs.Held.{Held}
use Rattle.sqlite_trees.specs.declared.store.Store.{Ghosts}
use Rattle.sts_token.specs.declared.transform.BlockTransform as block
use Rattle.vend_core.specs.Law.Life.{Life}
use Rattle.office_rules.specs.declared.decision.refusal.Refusal.{Refusal}
use Rattle.office_rules.specs.declared.decision.refusal.Refusal.TheVariants.{Store}
use Rattle.books.specs.Keeps.{KnowTheSame, Represents, Seen}
use Rattle.books.specs.declared.books.Books.{Books}

-- what is known by the same books
pub known_same : (books : Seen) → KnowTheSame books books
known_same books = record { next = refl; last = refl; writes = refl }

-- what is known of the last write says nothing of a life
pub kept_knowing : (life : Life) (books : Seen) (write_failed : Bool) → Represents life books
    → Represents life (record books { write_failed = write_failed })
kept_knowing life books write_failed keeps clean =
    let kept = keeps clean in record {
      opening = kept.opening;
      is_life = kept.is_life;
      forward = kept.forward;
      left = kept.left;
      running = λ runs.
          let here = kept.running runs in
          record { present = here.present; running = here.running; at = here.at; next = here.next; last = here.last };
      numbered = kept.numbered;
    }

-- what was answered shows that the store has not failed
pub not_failed : {A : Type 0} (failed : Bool) (given : Result A Refusal) (value : A) → given ≡ Ok value → (IsTrue failed ↔ (given ≡ Err Store))
    → failed ≡ false
not_failed false given value is tells = refl
not_failed true given value is tells = let stored : given ≡ Err Store = tells.0 refl in absurd cc

module _ {S T : Type 0} {g : Ghosts S} {h : block.Ghosts T} (books : Books S T g h) where
  -- one value is all that says that a connection is in no transaction
  pub same_outside : (write_failed : Bool) (outside : books.conn.in_transaction ≡ false)
      → record books { write_failed = write_failed; outside = outside } ≡ record books { write_failed = write_failed }
  same_outside write_failed outside =
      ap (λ (is : books.conn.in_transaction ≡ false). record books { write_failed = write_failed; outside = is }) (Bool-set _ _ outside books.outside)

  -- books of which the connection is as it was, and which go on, are as they were
  pub same_books : (conn : Held S) (stopped : Bool) (outside : conn.in_transaction ≡ false) → conn ≡ books.conn → stopped ≡ books.stopped
      → record books { conn = conn; stopped = stopped; outside = outside } ≡ books
  same_books conn stopped outside same goes =
      let again : (is : books.conn.in_transaction ≡ false) → record books { stopped = stopped; outside = is } ≡ books =
      λ is. subst (λ (b : Bool). record books { stopped = b; outside = is } ≡ books) (sym goes)
      (ap (λ (is : books.conn.in_transaction ≡ false). record books { outside = is }) (Bool-set _ _ is books.outside)) in
      subst (λ (c : Held S). (is : c.in_transaction ≡ false) → record books { conn = c; stopped = stopped; outside = is } ≡ books) (sym same) again outside
