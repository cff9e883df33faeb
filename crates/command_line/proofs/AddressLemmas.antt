-- What stands behind a number of an address.
use Rattle.std.proofs.Common.{◌≡◌, ◌∙◌, ℕ, sym}
use Rattle.sts_fields.specs.Text.{Text}
use Rattle.command_line.specs.Address.{BeginsWithOctet}

-- a text has one rest behind its first point
pub same_rest : {text rest other : Text} → {octet another : ℕ} → BeginsWithOctet text octet rest → BeginsWithOctet text another other → rest ≡ other
same_rest one two = one.1.behind_is ∙ sym two.1.behind_is
