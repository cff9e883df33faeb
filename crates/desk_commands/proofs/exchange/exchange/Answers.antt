use Rattle.std.proofs.Common.{[], Option, None, Some, inl, inr, refl}
use Rattle.std.specs.Prelude.{MatchOption}
use Rattle.sts_fields.specs.Text.{Text}
use Rattle.command_line.specs.declared.address.Address.{Address}
use Rattle.desk_commands.specs.Exchanged.{IsExchanged, IsRound, IsUnheld, calls_of}
use Rattle.desk_commands.specs.Exchanged.IsUnsent.{unread, unsent}
use Rattle.vend_ports.specs.print.Sink.{Held}
use Rattle.vend_ports.specs.declared.port.loopback.Loopback as loopback
use Rattle.desk_commands.proofs.exchange.exchange.Goals as goal

-- what came of one message on a connection that was had, and let go then
exchanged : {A N S : Type 0} (bytes : A → Text) (of : loopback.Ghosts N S) (remaining contents : S → Held) (net : N) (desk : Address)
    (message : Text) (fresh last : S) (result : Option A)
    → of.calls net desk fresh → of.ends S last
    → MatchOption result (IsUnheld remaining contents fresh last message) (λ came. IsRound remaining contents fresh last message (bytes came))
    → IsExchanged bytes (calls_of of remaining contents net) desk message result
exchanged bytes of remaining contents net desk message fresh last (Some came) calls ended round =
    record { fresh = fresh; last = last; calls = calls; held = (last, round, refl); ended = ended }
exchanged bytes of remaining contents net desk message fresh last None calls ended (inl cut) =
    unsent (record { fresh = fresh; between = fresh; last = last; calls = calls; held = refl; cut = cut; ended = ended })
exchanged bytes of remaining contents net desk message fresh last None calls ended (inr (came, round)) =
    unread came (record { fresh = fresh; last = last; calls = calls; held = (last, round, refl); ended = ended })

pub returns-in-Ok : goal.returns-in-Ok
returns-in-Ok g c =
    exchanged (λ came. came.items) g.L.Loopback g.L.Stream.Read.remaining g.L.Stream.Write.contents c.args.loopback c.args.desk
    c.args.message.now c.in-Ok.stream c.exchange_on-came.new.stream c.exchange_on-came.result c.in-Ok.ensures.calls c.end.ensures c.exchange_on-came.ensures.held
