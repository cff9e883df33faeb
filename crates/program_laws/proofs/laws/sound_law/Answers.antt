use Rattle.office_commands.specs.port.Back.{lets_go_giving}
use Rattle.office_commands.specs.port.Places.{places_of}
use Rattle.program_laws.proofs.SoundLemmas.{ends_sound}
use Rattle.program_laws.proofs.laws.sound_law.Goals as goal

pub returns : goal.returns
returns g c = λ file back path wait given o done.
    ends_sound g.H.Medium.Disk (g.H.OfficeFile.image file path) (lets_go_giving g.H.OfficeFile back) given
    (places_of g.H.Medium.Disk g.H.Salts.SaltSource g.H.OfficeFile file back path wait) o (λ answer audits. audits) done
