-- What a command's words say of its arguments, as `clap` sorts them into rows.
use Rattle.std.specs.Prelude.{⊤, List, Option, Some, None, Result, Ok, Err}
use Rattle.clap.specs.Walk.{Row, all_of, first_of, rows_of}
use Rattle.clap.specs.Matches.{found_of}
use Rattle.clap.specs.declared.parser.matches.ArgMatches.{ArgMatches}
use Rattle.sts_fields.specs.Text.{Text}
use Rattle.command_line.specs.declared.words.BadWords.{BadWords}
use Rattle.command_line.specs.declared.words.BadWords.TheVariants.{Value, Place, Memory}

-- the rows of a command that was parsed
unfoldable pub argument_rows : ArgMatches → List Row
argument_rows matches = rows_of (found_of matches)

-- the first text that stands for an argument, and all of them
unfoldable pub parsed_argument : Text → List Row → Option Text
parsed_argument id rows = first_of id rows

unfoldable pub parsed_arguments : Text → List Row → Option (List Text)
parsed_arguments id rows = all_of id rows

-- the argument is there, and says the value
abbrev pub IsArgument : {X V : Type 0} → (X → V → Type 0) → Option X → V → Type 0
IsArgument Says None v = ⊥
IsArgument Says (Some x) v = Says x v

-- the same, where the argument may be left out
abbrev pub IsOptionalArgument : {V : Type 0} → (Text → V → Type 0) → Option Text → Option V → Type 0
IsOptionalArgument Says None None = ⊤
IsOptionalArgument Says None (Some v) = ⊥
IsOptionalArgument Says (Some text) None = ⊥
IsOptionalArgument Says (Some text) (Some v) = Says text v

-- the same, where this text stands for an argument that is left out
abbrev pub IsArgumentOr : {V : Type 0} → (Text → V → Type 0) → (left_out : Text) → Option Text → V
    → Type 0
IsArgumentOr Says left_out None v = Says left_out v
IsArgumentOr Says left_out (Some text) v = Says text v

-- what is read, where the words say `v` by `Says v`: a value that they say, and nothing exactly
-- where they say none
abbrev pub ReadsWhat : {V : Type 0} → Option V → (V → Type 0) → Type 0
ReadsWhat (Some v) Says = Says v
ReadsWhat {V} None Says = (v : V) → ¬ Says v

-- the same of a reader that may find no room, which tells nothing of the words
abbrev pub ReadsOrFull : {V : Type 0} → Result V BadWords → (V → Type 0) → Type 0
ReadsOrFull (Ok v) Says = Says v
ReadsOrFull {V} (Err Value) Says = (v : V) → ¬ Says v
ReadsOrFull (Err Place) Says = ⊥
ReadsOrFull (Err Memory) Says = ⊤
