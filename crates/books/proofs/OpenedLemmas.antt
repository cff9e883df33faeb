-- Books that have just opened an office keep the life that begins there.
use Rattle.std.proofs.Common.{◌≡◌, ◌↔◌, ◌+◌, length, refl, sym, ap, subst, ◌∙◌, inl, inr}
use Rattle.sqlite.specs.Effect.{Database}
use Rattle.sqlite.specs.State.{State}
use Rattle.sts_token.specs.Token.{BlockFunction}
use Rattle.vend_core.specs.Law.Life.{MayLeave}
use Rattle.vend_core.specs.Law.LifeLaws.{IsRunning, opened}
use Rattle.office_rules.specs.Office.{Office}
use Rattle.book_tables.specs.Holds.{HasOffice}
use Rattle.book_tables.specs.reading.Reading.{HasAllTables}
use Rattle.book_states.specs.Health.{last_moment}
use Rattle.book_states.specs.Stores.{Stores}
use Rattle.books.specs.Keeps.{IsRepresented, Seen}
use Rattle.book_opening.specs.Opening.{OpensAs}

-- books that hold the office they were opened with represent the life that begins there
pub keeps_opened : (forward : BlockFunction) (o : Office) (books : Seen) → IsRunning (opened forward o) o
    → ((p : Office) → MayLeave (opened forward o) p ↔ (p ≡ o)) → forward ≡ books.forward
    → Stores books.state o → books.next_number ≡ length o.sales + 1 → books.last_moment ≡ last_moment o → IsRepresented (opened forward o) books
keeps_opened forward o books running leaves same at next last = record {
  opening = at.office;
  is_life = running.is_life;
  forward = same;
  left = λ trees may. (o, (leaves o).1 refl, at.left trees may);
  running = λ _. record { present = o; running = running; at = at; next = next; last = last };
  numbered = λ p may. inl (next ∙ ap (λ (q : Office). length q.sales + 1) (sym ((leaves p).0 may)));
}

-- what is opened has the office's tables
pub opened_tables : (old new : State) → OpensAs old new → HasAllTables new
opened_tables old new h = λ _. elim h.now [
  | inl brought ↦ brought.2.tables.has
  | inr found ↦
      subst (λ (db : Database). HasOffice db.schema) (sym found.2) found.0
]
