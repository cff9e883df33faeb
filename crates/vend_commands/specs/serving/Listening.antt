-- What `serve` does: where it listens is told, and connections are served one after another.
use Rattle.std.specs.Prelude.{◌≡◌, ⊤, ℕ, ℤ, Bool, true, false, List, [], ◌++◌, Option, Result, Ok}
use Rattle.std.specs.Prelude.{Err}
use Rattle.vend_ports.specs.port.Dial.{Dial}
use Rattle.sqlite_trees.specs.declared.store.Store.{Ghosts}
use Rattle.books.specs.declared.books.Books.{Books}
use Rattle.book_opening.specs.declared.fault.OpenFault.{OpenFault}
use Rattle.sts_fields.specs.Text.{Text}
use Rattle.office_rules.specs.declared.decision.refusal.Refusal.TheVariants.{Memory}
use Rattle.vend_commands.specs.serving.Connections.{AreServed, service}
use Rattle.office_commands.specs.port.Places.{Place, Places}
use Rattle.vend_commands.specs.port.Machines.{Way}
use Rattle.vend_ports.specs.port.Port.{IsPortFor}
use Rattle.vend_ports.specs.print.Printed.{listening_line, net_line, refusal_line}
use Rattle.office_commands.specs.print.Opening.{opening_line}
use Rattle.vend_ports.specs.print.Sink.{Sink}
use Rattle.vend_ports.specs.print.Told.{Outputs, Takes}
use Rattle.office_commands.specs.office.Visited.{IsOpenedAt, seen_in}
use Rattle.command_line.specs.Transform.{forward_of, shipped}
use Rattle.command_line.specs.declared.address.Address.{Address}
use Rattle.command_line.specs.declared.commands.serve.ServeWords.{ServeWords}
use Rattle.command_line.specs.declared.transform.Shipped.{Shipped}
use Rattle.vend_ports.specs.declared.command_end.CommandEnd.{CommandEnd}
use Rattle.vend_ports.specs.declared.command_end.CommandEnd.TheVariants.{Done, Refused}

-- the door listens at the address of the words, and at which port was told whole
pub record Listens {D R W : Type 0} (way : Way D R W) (address : Address) (old new : D)
    (err_old err_new : Sink)
    : Type 0 where
  pub port : ℕ
  pub is_port : IsPortFor address port
  pub listens : way.listens old address port new
  pub told : Takes err_old err_new (listening_line address port)
  pub heard : err_new.failed ≡ false

-- why nobody is served: there is no room for the desk, and the door is as it was; or the door could
-- not listen, and that is told; or it listens, and there is no room to say where, or that cannot be
-- told
pub data IsDeaf {D R W : Type 0} (way : Way D R W) (address : Address) (old new : D)
    (err_old err_new : Sink)
    : Type 0 where
  no_room : new ≡ old → Takes err_old err_new (refusal_line Memory)
      → IsDeaf way address old new err_old err_new
  no_listener : way.fails old address new → Takes err_old err_new net_line
      → IsDeaf way address old new err_old err_new
  no_text : (port : ℕ) → IsPortFor address port → way.listens old address port new
      → Takes err_old err_new (refusal_line Memory) → IsDeaf way address old new err_old err_new
  not_told : (port : ℕ) → IsPortFor address port → way.listens old address port new
      → err_new.failed ≡ true
      → Takes err_old err_new (listening_line address port)
      → IsDeaf way address old new err_old err_new

-- how it ends: all connections were served; or one could not be had, or the file of stopped books
-- was not opened again, and that is told
abbrev pub last_line : {B : Type 0} → Result (B × Bool) OpenFault → Text
last_line (Ok (books, true)) = []
last_line (Ok (books, false)) = net_line
last_line (Err fault) = opening_line fault

abbrev pub serving_end : {B : Type 0} → Result (B × Bool) OpenFault → CommandEnd
serving_end (Ok (books, true)) = Done
serving_end (Ok (books, false)) = Refused
serving_end (Err fault) = Refused

-- the file of the books that are left is closed
abbrev pub IsClosedAfter : {B : Type 0} → (B → Type 0) → Result (B × Bool) OpenFault → Type 0
IsClosedAfter Closes (Ok (books, all)) = Closes books
IsClosedAfter Closes (Err fault) = ⊤

-- Books were open to connections, which were served at moments that the clock gives, and it ended
-- so. The door is left as the last of them left it: so none came in beside. Behind the line that
-- tells where it listens standard error is given what is printed of books that stop and are open
-- again, and how it ends.
pub record WereOpen {S D R W : Type 0} (store : Ghosts S) (way : Way D R W) (place : Place)
    (words : ServeWords)
    (old : Books S Shipped store shipped) (door : D) (clock : Dial)
    (err_old err_new : Sink) (end : CommandEnd)
    : Type 0 where
  pub listening : D
  pub mid : Sink
  pub listens : Listens way words.listen door listening err_old mid
  pub last : D
  pub left : Option (List ℤ)
  pub served : Result (Books S Shipped store shipped × Bool) OpenFault
  pub printed : Text
  pub are_served : AreServed way clock.reads (forward_of words.transform) seen_in place.loses
      words.connections (service listening old clock.answers) last left served printed
  pub leaves : way.leaves last
  pub closed : IsClosedAfter (λ books. place.closes (seen_in books)) served
  pub told : Takes mid err_new (printed ++ last_line served)
  pub ends : end ≡ serving_end served

-- The file is not opened, and that is told; or books are opened in it, and nobody is served, or
-- connections are, until it ends. Then the file is closed as it was left. In each case the door is
-- left.
pub data IsServing {S D R W : Type 0} (store : Ghosts S) (way : Way D R W) (at : Places)
    (door : D)
    (clock : Dial) (words : ServeWords) (err_old err_new : Sink)
    (end : CommandEnd) : Type 0 where
  unopened : (fault : OpenFault) → (at words.file.now words.wait).fails fault → way.leaves door
      → Takes err_old err_new (opening_line fault) → end ≡ Refused
      → IsServing store way at door clock words err_old err_new end
  unheard : (old : Books S Shipped store shipped)
      → IsOpenedAt (at words.file.now words.wait) words.transform old
      → (at words.file.now words.wait).finds → (last : D)
      → IsDeaf way words.listen door last err_old err_new
      → way.leaves last → (at words.file.now words.wait).closes (seen_in old) → end ≡ Refused
      → IsServing store way at door clock words err_old err_new end
  was_open : (old : Books S Shipped store shipped)
      → IsOpenedAt (at words.file.now words.wait) words.transform old
      → (at words.file.now words.wait).finds
      → WereOpen store way (at words.file.now words.wait) words old door clock err_old err_new end
      → IsServing store way at door clock words err_old err_new end

-- it is served so, and the output is given nothing
abbrev pub IsServedTo : {S D R W : Type 0} → Ghosts S → Way D R W → Places → D
    → Dial
    → ServeWords → Outputs → CommandEnd → Type 0
IsServedTo store way at door clock words o end =
    (o.new ≡ o.old) × IsServing store way at door clock words o.err_old o.err_new end
