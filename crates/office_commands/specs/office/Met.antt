-- What is met at a path, by a command that makes no file.
use Rattle.office_commands.specs.port.Places.{Place}
use Rattle.office_commands.specs.declared.office.met.Met.{Met}
use Rattle.office_commands.specs.declared.office.met.Met.TheVariants as met

-- there is no file; or it has none of the office's tables, and was left as it was; or there is this
abbrev pub IsMet : {T : Type 0} → Place → (Is : T → Type 0) → Met T → Type 0
IsMet place Is met.Nothing = place.misses
IsMet place Is met.NoOffice = place.vacant
IsMet place Is (met.There it) = Is it
