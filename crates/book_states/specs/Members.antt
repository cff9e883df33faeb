-- What a connection has of an office.
use Rattle.std.specs.Prelude.{Result, IfOk, IsTrue}
use Rattle.sqlite.specs.State.{HasCleanDisk, State}
use Rattle.office_rules.specs.Office.{IsOffice, Office}
use Rattle.book_tables.specs.Holds.{HoldsMembers}

-- while the connection is open, its tables hold the members of the office
abbrev pub HasMembers : State → Office → Type 0
HasMembers s o = IsTrue s.is_open → HoldsMembers s.now o

-- what is found says this of the office whose members the tables hold
abbrev pub SaysOfOffice : {T E : Type 0} → (Office → T → Type 0) → State → State → Result T E
    → Type 0
SaysOfOffice Says old new result =
    HasCleanDisk new → (o : Office) → IsOffice o → HasMembers old o → IfOk result (Says o)
