-- What reading leaves of a life.
use Rattle.std.proofs.Common.{◌≡◌, sym, ◌∙◌, inl}
use Rattle.vend_core.specs.Law.Life.{Life}
use Rattle.book_states.specs.Stores.{Stores}
use Rattle.books.specs.Keeps.{IsRepresented, IsPresent, KnowTheSame, Seen}

-- books that were read keep their life
pub kept_read : (life : Life) (old new : Seen) → IsRepresented life old → (here : IsPresent life old) → new.forward ≡ old.forward
    → KnowTheSame old new → Stores new.state here.present → IsRepresented life new
kept_read life old new kept here forward known at = record {
  opening = kept.opening;
  is_life = kept.is_life;
  forward = rw forward kept.forward;
  left = λ trees may. (here.present, inl (sym here.running.present), at.left trees may);
  running = λ _. record { present = here.present; running = here.running; at = at; next = known.next ∙ here.next; last = known.last ∙ here.last };
  numbered = λ o may. rw known.next (kept.numbered o may);
}
