use Rattle.vend_commands.specs.port.Machines.{loop_of, way}
use Rattle.program_laws.specs.runs.Here.{here_of}
use Rattle.program_laws.proofs.AgainLemmas.{OrderLaws}
use Rattle.program_laws.proofs.AtDeskLemmas.OneLemmas.{DeskLaws}
use Rattle.program_laws.proofs.LeadLemmas.{LeadingLaws}
use Rattle.program_laws.proofs.OrderLemmas.{SellingLaws}
use Rattle.program_laws.proofs.PromiseLemmas.{HistoryLaws, promise}
use Rattle.program_laws.proofs.laws.program_law.Goals as goal

pub returns : goal.returns
returns g c =
    let here = here_of g.M.Office.Medium.Disk g.M.Office.Salts.SaltSource g.M.Office.OfficeFile g.M.Texts.TextFiles g.M.Clock.Clock
    (way g.M.Door.Door g.M.Door.Reader.Read.remaining g.M.Door.Writer.Write.contents g.M.Door.Line.Line.uses)
    (loop_of g.M.Loopback.Loopback g.M.Loopback.Stream.Read.remaining g.M.Loopback.Stream.Write.contents) in
    let there = here_of g.N.Office.Medium.Disk g.N.Office.Salts.SaltSource g.N.Office.OfficeFile g.N.Texts.TextFiles g.N.Clock.Clock
    (way g.N.Door.Door g.N.Door.Reader.Read.remaining g.N.Door.Writer.Write.contents g.N.Door.Line.Line.uses)
    (loop_of g.N.Loopback.Loopback g.N.Loopback.Stream.Read.remaining g.N.Loopback.Stream.Write.contents) in
    let lives = c.lives_law.ensures in
    let credited = c.credited_law.ensures in
    let leading : LeadingLaws = record { offices = lives.offices; stands = lives.stands; one_ref = lives.one_ref } in
    let orders : OrderLaws = record {
      new_sale = c.office_law.ensures.new_sale;
      again = c.office_law.ensures.again;
      reprinted = c.office_law.ensures.reprinted;
      under = c.store_law.ensures.sale_of_ref;
    } in
    let selling : SellingLaws = record { orders = orders; keeps = c.office_law.ensures.keeps_office; left = c.life_law.ensures.left } in
    let history : HistoryLaws = record {
      one_identifier = lives.one_identifier;
      one_number = lives.one_number;
      cash = lives.cash;
      credit = credited.credit;
      at_most_sold = credited.at_most_sold;
      in_order = credited.in_order;
    } in
    let office = c.office_law.ensures in
    let question = c.question_law.ensures in
    let desk : DeskLaws = record {
      along = office.keeps_along;
      one_step = office.keeps_office;
      plausible = c.reached_law.ensures.keeps;
      stand = office.answers_stand;
      ranges = record { greatest = c.amount_law.ensures.greatest; prior = c.store_law.ensures.prior_range; purchase = c.purchase_law.ensures.computed };
      own = c.ask_law.ensures.own;
      meaning = c.meaning_law.ensures.one;
      dates = c.date_law.ensures;
      sent = question.sent;
      outside = question.outside;
      alike = c.told_law.ensures.alike;
    } in
    promise here there c.run_law.ensures c.run_law-2.ensures leading selling history desk c.page_law.ensures.one
