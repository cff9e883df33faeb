use Rattle.std.proofs.Common.{false, None, refl}
use Rattle.office_commands.specs.office.Lost.{IsUnreopened}
use Rattle.office_commands.specs.port.Back.{lets_go_giving}
use Rattle.vend_commands.proofs.ConnectionLemmas.{served_as}
use Rattle.vend_commands.specs.serving.Listening.IsServing.{unheard, unopened, was_open}
use Rattle.vend_ports.proofs.TakeLemmas.{takes_next}
use Rattle.vend_commands.proofs.commands.serve.run.Goals as goal

pub returns-in-Some : goal.returns-in-Some
returns-in-Some g c = was_open c.in-Ok.books c.in-Ok.ensures.opened c.in-Ok.ensures.finds (record {
  listening = c.listen.new.door;
  mid = c.listen.new.err;
  listens = c.in-Some.ensures;
  last = c.serve-served.new.door;
  left = g.C.Clock.answers c.serve-served.new.clock;
  served = c.serve-served.result;
  printed = c.serve-served.ensures.0;
  are_served = served_as _ _ _ _ (λ back. IsUnreopened g.H.Medium.Disk g.H.Salts.SaltSource (lets_go_giving g.H.OfficeFile back false)) None
      c.end_with.result.back _ _ _ _ c.serve-served.result _ c.end_with.ensures.lost c.serve-served.ensures.1;
  leaves = c.leave.ensures;
  closed = c.end_with.ensures.closed;
  told = takes_next _ _ _ c.serve-served.ensures.0 _ c.serve-served.ensures.2 c.end_with.ensures.told;
  ends = c.end_with.ensures.end;
})

pub returns-in-Ok : goal.returns-in-Ok
returns-in-Ok g c = unheard c.in-Ok.books c.in-Ok.ensures.opened c.in-Ok.ensures.finds c.listen.new.door c.in-None.ensures
    c.leave-in-None.ensures c.close_office-back.ensures refl

pub returns : goal.returns
returns g c = unopened c.in-Err.fault c.in-Err.ensures.fails c.leave-in-Err.ensures c.put_opening.ensures refl
