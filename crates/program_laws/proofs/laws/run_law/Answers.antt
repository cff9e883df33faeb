use Rattle.vend_commands.specs.port.Machines.{loop_of, way}
use Rattle.program_laws.specs.runs.Here.{here_of}
use Rattle.program_laws.proofs.AgainLemmas.{OrderLaws}
use Rattle.program_laws.proofs.DeskLemmas.{HandingLaws}
use Rattle.program_laws.proofs.LeadLemmas.{LeadingLaws}
use Rattle.program_laws.proofs.OrderLemmas.{SellingLaws}
use Rattle.program_laws.proofs.StepLemmas.{each_run}
use Rattle.program_laws.proofs.laws.run_law.Goals as goal

pub returns : goal.returns
returns g c =
    let here = here_of g.M.Office.Medium.Disk g.M.Office.Salts.SaltSource g.M.Office.OfficeFile g.M.Texts.TextFiles g.M.Clock.Clock
    (way g.M.Door.Door g.M.Door.Reader.Read.remaining g.M.Door.Writer.Write.contents g.M.Door.Line.Line.uses)
    (loop_of g.M.Loopback.Loopback g.M.Loopback.Stream.Read.remaining g.M.Loopback.Stream.Write.contents) in
    let lives = c.lives_law.ensures in
    let leading : LeadingLaws = record { offices = lives.offices; stands = lives.stands; one_ref = lives.one_ref } in
    let handing : HandingLaws = record { replied = c.life_law.ensures.replied; for_good = c.life_law.ensures.for_good } in
    let orders : OrderLaws = record {
      new_sale = c.office_law.ensures.new_sale;
      again = c.office_law.ensures.again;
      reprinted = c.office_law.ensures.reprinted;
      under = c.store_law.ensures.sale_of_ref;
    } in
    let selling : SellingLaws = record { orders = orders; keeps = c.office_law.ensures.keeps_office; left = c.life_law.ensures.left } in
    each_run here (λ start. record {
      new = c.opening_law.ensures.new;
      goes_on = lives.goes_on start;
      held = c.opening_law.ensures.held;
      shows = c.found_law.ensures.shows;
    }) c.found_law.ensures.opens c.lost_law.ensures g.met.M.Office.Medium.Disk.seen_may_stay leading handing selling
