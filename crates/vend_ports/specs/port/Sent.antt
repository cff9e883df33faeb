-- What was sent on a stream.
use Rattle.std.specs.Io.KnownBytes.{Appends}
use Rattle.sts_fields.specs.Text.{Text}
use Rattle.vend_ports.specs.print.Sink.{Held}

-- the text was written on this stream, and nothing more: on it as it was when nothing had been sent
abbrev pub IsSent : {S : Type 0} → (contents : S → Held) → (unused : S → Type 0) → Text → S → Type 0
IsSent {S} contents unused text stream =
    (fresh : S) × unused fresh × Appends (contents fresh) (contents stream) text
