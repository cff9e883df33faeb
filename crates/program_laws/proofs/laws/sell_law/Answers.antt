use Rattle.sqlite.specs.Files.{over_files}
use Rattle.office_commands.specs.port.Back.{is_untouched}
use Rattle.office_commands.specs.port.Places.{places_of}
use Rattle.vend_ports.specs.port.Dial.{dial_of}
use Rattle.vend_ports.specs.port.Texts.{texts_of}
use Rattle.program_laws.proofs.SellLemmas.{sale_told, sell_done}
use Rattle.program_laws.proofs.laws.sell_law.Goals as goal

pub returns : goal.returns
returns g c = record {
  done = λ file back texts clock place order json office o stands sold. sell_done (over_files {g = g.H.Medium.Disk})
      c.office_law.ensures.answers_stand (places_of g.H.Medium.Disk g.H.Salts.SaltSource g.H.OfficeFile file back)
      (is_untouched g.H.OfficeFile file back) (texts_of g.F.TextFiles texts) (dial_of g.C.Clock clock) place order json office o stands sold;
  told = sale_told;
}
