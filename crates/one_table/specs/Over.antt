-- What a call says of a connection before it and after it.
use denote.Triple.Both.{Both}
use Rattle.std.specs.Borrow.{MutBor}
use Rattle.sqlite_trees.specs.declared.store.Store.{Ghosts}
use Rattle.sqlite.specs.Held.{Held, state}
use Rattle.sqlite.specs.State.{State}
use Rattle.sqlite.specs.declared.transaction.Transaction.{Transaction}

-- it says this of the connection's state before it and after it
abbrev pub Over : {S : Type 0} → Ghosts S → Both (MutBor (Held S)) (MutBor (Held S))
    → (State → State → Type 0) → Type 0
Over g conn Says = Says (state g conn.entry.now) (state g conn.exit.now)

-- the same within a transaction
abbrev pub Inside : {S : Type 0} → Ghosts S
    → Both (MutBor (Transaction S)) (MutBor (Transaction S)) → (State → State → Type 0) → Type 0
Inside g tx Says = Says (state g tx.entry.now.conn.now) (state g tx.exit.now.conn.now)
