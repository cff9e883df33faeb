-- What a word says of where the desk listens.
use Rattle.std.specs.Prelude.{◌≡◌, ℕ, ◌<◌, ◌==◌, [], ◌∷◌, length}
use Rattle.std.specs.List.{after_first, before_first, position_or_len}
use Rattle.std.specs.Net.Addr.{IsV4And, ipv4_octets}
use Rattle.std.specs.Net.Socket.{socket_ip, socket_port}
use Rattle.std.specs.declared.net.socket_addr.SocketAddr.{SocketAddr}
use Rattle.sts_fields.specs.Text.{Text}
use Rattle.command_line.specs.Values.{SaysOctet, SaysPort}
use Rattle.command_line.specs.declared.address.Address.{Address}

-- the byte is in the text, with this before its first place and that behind it
pub record IsCutAt (byte : ℕ) (text before behind : Text) : Type 0 where
  pub is_there : position_or_len (λ b. b == byte) text < length text
  pub before_is : before ≡ before_first (λ b. b == byte) text
  pub behind_is : behind ≡ after_first (λ b. b == byte) text

-- a number below 256 stands before the first point, and this behind it
abbrev pub BeginsWithOctet : Text → ℕ → Text → Type 0
BeginsWithOctet text octet rest =
    (number : Text) × IsCutAt 46 text number rest × SaysOctet number octet

-- a number below 256 stands before the first colon, and a port behind it
abbrev pub EndsWithPort : Text → (octet port : ℕ) → Type 0
EndsWithPort text octet port =
    (number digits : Text) × IsCutAt 58 text number digits × SaysOctet number octet
    × SaysPort digits port

-- four numbers with points between them, a colon and a port
pub record SaysAddress (text : Text) (address : Address) : Type 0 where
  pub from_second : Text
  pub from_third : Text
  pub from_fourth : Text
  pub first : BeginsWithOctet text address.first from_second
  pub second : BeginsWithOctet from_second address.second from_third
  pub third : BeginsWithOctet from_third address.third from_fourth
  pub fourth : EndsWithPort from_fourth address.fourth address.port

-- a socket's IPv4 address has these four numbers, in this order, and its port is this one
pub record IsSocketOf (address : Address) (socket : SocketAddr) : Type 0 where
  pub numbers : IsV4And (socket_ip socket) (λ ip. ipv4_octets ip
      ≡ address.first ∷ address.second ∷ address.third ∷ address.fourth ∷ [])
  pub port : socket_port socket ≡ address.port
