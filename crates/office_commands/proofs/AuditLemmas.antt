-- The lines of an audit.
use Rattle.std.proofs.Common.{◌≡◌, ℤ, [], ◌∷◌, codes, refl}
use Rattle.std.specs.Borrow.{Bor}
use Rattle.std.specs.Prelude.{decimal}
use Rattle.audit.specs.declared.audited.Audited.{Audited}
use Rattle.sqlite_value.specs.Value.{owned}
use Rattle.sqlite_value.specs.declared.value.ValueRef.{ValueRef}
use Rattle.sqlite_value.specs.declared.value.ValueRef.TheVariants as lent
use Rattle.sts_fields.specs.Text.{Text}
use Rattle.office_commands.specs.print.AuditLines.{TellsValue, sound_line}
use Rattle.vend_ports.specs.print.Printed.{line_of}
use Rattle.vend_ports.specs.print.Sink.{Sink}
use Rattle.vend_ports.specs.print.Told.{Takes}

-- the line of what a file keeps, by the texts of its numbers
pub takes_sound : (old new : Sink) (a : Audited) (format tariffs meters shifts sales : Text)
    → format ≡ decimal a.format → tariffs ≡ decimal a.tariffs → meters ≡ decimal a.meters → shifts ≡ decimal a.shifts → sales ≡ decimal a.sales
    → Takes old new (line_of (codes "sound" ∷ codes "format" ∷ format ∷ codes "tariffs" ∷ tariffs ∷ codes "meters" ∷ meters
    ∷ codes "shifts" ∷ shifts ∷ codes "sales" ∷ sales ∷ [])) → Takes old new (sound_line a)
takes_sound old new a format tariffs meters shifts sales p q r s t takes = rw (← p, ← q, ← r, ← s, ← t) takes

-- a value that is no number and no text is not shown
pub other_value : (value : ValueRef) → ((n : ℤ) → ¬ (value ≡ lent.Int n)) → ((text : Bor Text) → ¬ (value ≡ lent.Text text))
    → TellsValue (owned value) (codes "?")
other_value lent.Null no_number no_text = refl
other_value (lent.Int n) no_number no_text = absurd (no_number n refl)
other_value (lent.Real x) no_number no_text = refl
other_value (lent.Text text) no_number no_text = absurd (no_text text refl)
other_value (lent.Blob blob) no_number no_text = refl
