-- Which office the words of a command name: one in a file, or one that a running desk serves.
use Rattle.std.specs.Prelude.{◌≡◌, ◌||◌, Bool, false, if◌then◌else◌, is_some, not, eqb, List}
use Rattle.std.specs.Prelude.{Option, Some, None, codes}
use Rattle.std.specs.Cmp.Lexicographic.{pointwise}
use Rattle.clap.specs.Walk.{Row}
use Rattle.sts_fields.specs.Text.{Text}
use Rattle.command_line.specs.Address.{SaysAddress}
use Rattle.command_line.specs.Line.{command_in}
use Rattle.command_line.specs.Said.{IsArgument, IsArgumentOr, IsOptionalArgument, parsed_argument}
use Rattle.command_line.specs.Values.{SaysMoment, SaysText, SaysTransform, SaysWait}
use Rattle.command_line.specs.Values.{default_transform, default_wait}
use Rattle.command_line.specs.declared.place.FilePlace.{FilePlace}
use Rattle.command_line.specs.declared.place.Place.{Place}
use Rattle.command_line.specs.declared.place.Place.TheVariants.{File, Desk}

-- the words give this argument
abbrev pub is_given : Text → List Row → Bool
is_given id rows = is_some (parsed_argument id rows)

-- they say what only a file has: itself, how long it is waited for, the moment and the transform,
-- of which a desk has its own
abbrev pub is_of_file : List Row → Bool
is_of_file rows = is_given (codes "file") rows || (is_given (codes "wait") rows
    || (is_given (codes "at") rows || is_given (codes "transform") rows))

-- an office in a file, and how it is asked
pub record SaysFile (rows : List Row) (place : FilePlace) : Type 0 where
  pub path : IsArgument SaysText (parsed_argument (codes "file") rows) place.path
  pub wait : IsArgumentOr SaysWait default_wait (parsed_argument (codes "wait") rows) place.wait
  pub transform : IsArgumentOr SaysTransform default_transform
      (parsed_argument (codes "transform") rows) place.transform
  pub at : IsOptionalArgument SaysMoment (parsed_argument (codes "at") rows) place.at

-- the one office that rows name: a file where there is no desk, or a desk with nothing that only a
-- file has
abbrev pub SaysPlace : List Row → Place → Type 0
SaysPlace rows (File file) =
    (parsed_argument (codes "desk") rows ≡ None) × SaysFile rows file
SaysPlace rows (Desk address) = (is_of_file rows ≡ false)
    × IsArgument SaysAddress (parsed_argument (codes "desk") rows) address

-- the commands that change an office
abbrev pub is_asked_to_do : (name : Text) → Bool
is_asked_to_do name = pointwise eqb name (codes "import") || (pointwise eqb name (codes "shift")
    || (pointwise eqb name (codes "sell") || (pointwise eqb name (codes "tariff")
    || (pointwise eqb name (codes "withdraw") || (pointwise eqb name (codes "base")
    || pointwise eqb name (codes "key"))))))

-- those that print what it has
abbrev pub is_asked_to_tell : (name : Text) → Bool
is_asked_to_tell name = pointwise eqb name (codes "report") || (pointwise eqb name (codes "show")
    || (pointwise eqb name (codes "list") || pointwise eqb name (codes "offer")))

-- the commands that ask an office, in a file or at a desk
abbrev pub asks_office : (name : Text) → Bool
asks_office name = is_asked_to_do name || is_asked_to_tell name

-- Such a command has to name one office, and does not: it names none, or two, or a desk with what
-- only a file has.
unfoldable pub lacks_place : (name : Text) → List Row → Bool
lacks_place name rows = if asks_office name then
    (if is_given (codes "desk") rows then is_of_file rows else not (is_given (codes "file") rows))
    else false

-- the same of a command, where there is one
abbrev pub command_lacks_place : Option (Text × List Row) → Bool
command_lacks_place None = false
command_lacks_place (Some (name, rows)) = lacks_place name rows

-- the words are those of a command, which lacks its place
abbrev pub lack_place : (words : List Text) → Bool
lack_place words = command_lacks_place (command_in words)
