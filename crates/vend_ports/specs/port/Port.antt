-- The port at which a door listens.
use Rattle.std.specs.Prelude.{◌≡◌, ◌≢◌, ℕ}
use Rattle.std.specs.declared.net.socket_addr.SocketAddr.{SocketAddr}
use Rattle.command_line.specs.Address.{IsSocketOf}
use Rattle.command_line.specs.declared.address.Address.{Address}

-- the port that was asked for, or where that is 0 any but 0
abbrev pub IsPortFor : Address → ℕ → Type 0
IsPortFor address port = (port ≢ 0) × (address.port ≢ 0 → port ≡ address.port)

-- this socket of a network listens at just the address that was asked for, and where its port was
-- not, has the one that is told
pub record ListensAt {N L : Type 0} (listens : N → SocketAddr → L → Type 0)
    (has_port : L → ℕ → Type 0) (net : N) (listener : L) (address : Address) (port : ℕ)
    : Type 0 where
  pub socket : SocketAddr
  pub is_socket : IsSocketOf address socket
  pub listens_there : listens net socket listener
  pub told : address.port ≡ 0 → has_port listener port

-- this connection was made with just the address that was asked for, and that waited no longer than
-- so many nanoseconds
pub record ConnectsTo {N S : Type 0} (connects : N → SocketAddr → (wait : ℕ) → S → Type 0)
    (net : N) (address : Address) (wait : ℕ) (stream : S) : Type 0 where
  pub socket : SocketAddr
  pub is_socket : IsSocketOf address socket
  pub connects_there : connects net socket wait stream
