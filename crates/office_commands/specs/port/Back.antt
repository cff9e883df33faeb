-- What is given back of the file of an office.
use Rattle.std.specs.Prelude.{◌≡◌, ◌⊎◌, Bool, Option, None, IfSome}
use Rattle.std.specs.Bool.{MatchBool}
use Rattle.sts_fields.specs.Text.{Text}
use Rattle.office_commands.specs.declared.port.new_log.LogName.{LogName}
use Rattle.office_commands.specs.declared.port.ports.OfficeFile as file

-- A log and a database file were let go. Where they were closed whole, whatever was given back is
-- these; else nothing was.
abbrev pub lets_go_giving : {H D S : Type 0} → file.Ghosts H D S → (back : Option (D × D))
    → (whole : Bool) → (log db : D) → Type 0
lets_go_giving {D = D} of back whole log db = of.lets_go D log db
    × MatchBool whole (IfSome back (λ it. it ≡ (log, db))) (back ≡ None)

-- no files were opened, and nothing was given back
abbrev pub is_untouched : {H D S : Type 0} → file.Ghosts H D S → H → (back : Option (D × D))
    → Type 0
is_untouched {H = H} of office back = of.leaves H office × (back ≡ None)

-- a look at a log and a database file was ended, and a log of this name that it made removed
abbrev pub ends_look : {H D S : Type 0} → file.Ghosts H D S → LogName → (log db : D) → Type 0
ends_look {D = D} of name log db = of.ends_look D log db name

-- of the log that a look makes at this path
abbrev pub ends_look_at : {H D S : Type 0} → file.Ghosts H D S → H → (path : Text) → (log db : D)
    → Type 0
ends_look_at of office path log db =
    (name : LogName) × of.names office path name × ends_look of name log db

-- and nothing was given back
abbrev pub lets_looked_go : {H D S : Type 0} → file.Ghosts H D S → H → (path : Text)
    → (back : Option (D × D)) → (log db : D) → Type 0
lets_looked_go of office path back log db =
    ends_look_at of office path log db × (back ≡ None)

-- files that were there, and in which no office was opened, were let go after a look at them, or as
-- an opening left them
abbrev pub lets_unopened_go : {H D S : Type 0} → file.Ghosts H D S → H → (path : Text)
    → (back : Option (D × D)) → (log db : D) → Type 0
lets_unopened_go {D = D} of office path back log db =
    (ends_look_at of office path log db ⊎ of.lets_go D log db) × (back ≡ None)
