-- The command line: the options and the words of each command, as `clap` has them.
use Rattle.std.specs.Prelude.{◌≡◌, ◌&&◌, ◌||◌, Bool, true, false, if◌then◌else◌, eqb, List, [], ◌∷◌}
use Rattle.std.specs.Prelude.{◌++◌, Option, Some, codes}
use Rattle.std.specs.Cmp.Lexicographic.{pointwise}
use Rattle.std.specs.List.{starts_with}
use Rattle.clap.specs.Lexer.{usize_max}
use Rattle.clap.specs.Walk.{Row, Rule}
use Rattle.clap.specs.Simple.{App, Shape, app_of, new_rule, new_shape, subcommand_of}
use Rattle.clap.specs.Faults.{fault_of}
use Rattle.clap.specs.Kinds.{Kinds}
use Rattle.clap.specs.declared.builder.action.ArgAction.TheVariants.{SetTrue}
use Rattle.clap.specs.declared.builder.command.Command.{Command}
use Rattle.clap.specs.declared.builder.command.Command.TheViews.{out-Command as fields_of}
use Rattle.sts_fields.specs.Text.{Text}

-- ---- arguments

-- --NAME VALUE, which may be left out
abbrev pub option_named : Text → Rule
option_named name = record (new_rule name) { long = Some name; value_names = 1 }

-- the same, where it has to be there
abbrev pub needed : Text → Rule
needed name = record (option_named name) { required = true }

-- the same, where it has this value if it is left out
abbrev pub with_default : Text → Text → Rule
with_default name text = record (option_named name) { defaults = text ∷ [] }

-- --NAME, which may be left out
abbrev pub flag_named : Text → Rule
flag_named name = record (new_rule name) { long = Some name; action = Some SetTrue }

-- a word at its place
abbrev pub word_named : Text → Rule
word_named name = record (new_rule name) { value_names = 1; required = true }

-- one word or more, to the end
abbrev pub words_named : Text → Rule
words_named name = record (word_named name) {
  range = Some (record { start_inclusive = 1; end_inclusive = usize_max });
}

abbrev pub transform_option : Rule
transform_option = option_named (codes "transform")

abbrev pub at_option : Rule
at_option = option_named (codes "at")

abbrev pub wait_option : Rule
wait_option = option_named (codes "wait")

-- which office is asked: one of the two
abbrev pub file_option : Rule
file_option = option_named (codes "file")

abbrev pub desk_option : Rule
desk_option = option_named (codes "desk")

-- where it is left out a change is synced twice
abbrev pub sync_option : Rule
sync_option = with_default (codes "sync") (codes "twice")

abbrev pub json_option : Rule
json_option = flag_named (codes "json")

-- ---- commands

abbrev pub command_named : Text → List Rule → Shape
command_named name rules = record (new_shape name) { rules = rules }

unfoldable pub trial_command : Shape
trial_command = command_named (codes "trial") (transform_option ∷ needed (codes "base")
    ∷ needed (codes "key") ∷ at_option ∷ words_named (codes "amounts") ∷ [])

unfoldable pub import_command : Shape
import_command = command_named (codes "import") (transform_option ∷ file_option ∷ desk_option
    ∷ wait_option ∷ at_option ∷ word_named (codes "kind") ∷ word_named (codes "csv") ∷ [])

unfoldable pub tariff_command : Shape
tariff_command = command_named (codes "tariff") (transform_option ∷ file_option ∷ desk_option
    ∷ wait_option ∷ needed (codes "meter") ∷ needed (codes "tariff") ∷ at_option ∷ [])

unfoldable pub base_command : Shape
base_command = command_named (codes "base") (transform_option ∷ file_option ∷ desk_option
    ∷ wait_option ∷ needed (codes "meter") ∷ needed (codes "base") ∷ at_option ∷ [])

unfoldable pub withdraw_command : Shape
withdraw_command = command_named (codes "withdraw") (transform_option ∷ file_option ∷ desk_option
    ∷ wait_option ∷ needed (codes "tariff") ∷ needed (codes "from") ∷ at_option ∷ [])

unfoldable pub key_command : Shape
key_command = command_named (codes "key") (transform_option ∷ file_option ∷ desk_option
    ∷ wait_option ∷ needed (codes "meter") ∷ needed (codes "key") ∷ at_option ∷ [])

unfoldable pub shift_command : Shape
shift_command = command_named (codes "shift") (transform_option ∷ file_option ∷ desk_option
    ∷ wait_option ∷ needed (codes "operator") ∷ at_option ∷ word_named (codes "act") ∷ [])

unfoldable pub sell_command : Shape
sell_command = command_named (codes "sell") (transform_option ∷ file_option ∷ desk_option
    ∷ wait_option ∷ needed (codes "operator") ∷ needed (codes "ref") ∷ needed (codes "meter")
    ∷ needed (codes "tender") ∷ at_option ∷ [])

unfoldable pub report_command : Shape
report_command = command_named (codes "report") (file_option ∷ desk_option ∷ wait_option
    ∷ needed (codes "kind") ∷ with_default (codes "number") (codes "1") ∷ [])

unfoldable pub show_command : Shape
show_command = command_named (codes "show") (file_option ∷ desk_option ∷ wait_option ∷ at_option
    ∷ option_named (codes "meter") ∷ option_named (codes "operator") ∷ option_named (codes "ref")
    ∷ json_option ∷ word_named (codes "what") ∷ [])

unfoldable pub list_command : Shape
list_command = command_named (codes "list") (file_option ∷ desk_option ∷ wait_option ∷ at_option
    ∷ option_named (codes "after") ∷ json_option ∷ word_named (codes "what") ∷ [])

unfoldable pub offer_command : Shape
offer_command = command_named (codes "offer") (file_option ∷ desk_option ∷ wait_option ∷ at_option
    ∷ needed (codes "meter") ∷ json_option ∷ word_named (codes "tender") ∷ [])

unfoldable pub meter_command : Shape
meter_command = command_named (codes "meter")
    (transform_option ∷ needed (codes "key") ∷ words_named (codes "tokens") ∷ [])

unfoldable pub quote_command : Shape
quote_command = command_named (codes "quote") (transform_option ∷ word_named (codes "steps")
    ∷ word_named (codes "prior") ∷ word_named (codes "tender") ∷ [])

unfoldable pub serve_command : Shape
serve_command = command_named (codes "serve") (transform_option ∷ needed (codes "file")
    ∷ wait_option ∷ sync_option ∷ needed (codes "listen") ∷ needed (codes "connections") ∷ [])

unfoldable pub selfcheck_command : Shape
selfcheck_command = command_named (codes "selfcheck") (transform_option ∷ [])

unfoldable pub audit_command : Shape
audit_command = command_named (codes "audit")
    (needed (codes "file") ∷ wait_option ∷ transform_option ∷ [])

-- ---- the line

-- the commands by which a shop sells
abbrev pub shop_commands : List Shape
shop_commands = import_command ∷ shift_command ∷ sell_command ∷ []

-- those that print what an office has
abbrev pub reading_commands : List Shape
reading_commands = report_command ∷ show_command ∷ list_command ∷ offer_command ∷ []

-- those that change a tariff or a meter, check a file and serve it
abbrev pub care_commands : List Shape
care_commands = tariff_command ∷ withdraw_command ∷ base_command ∷ key_command ∷ audit_command
    ∷ serve_command ∷ []

-- those that need no office
abbrev pub officeless_commands : List Shape
officeless_commands = quote_command ∷ meter_command ∷ trial_command ∷ selfcheck_command ∷ []

-- the commands, each of which has one level of words, in the order in which a shop needs them
abbrev pub commands : List Shape
commands = shop_commands ++ (reading_commands ++ (care_commands ++ officeless_commands))

abbrev pub has_none : List Shape → Bool
has_none [] = true
has_none (shape ∷ shapes) = false

-- the words begin with one of the commands; the program's own name is not among them
abbrev pub line_of_commands : List Shape → App
line_of_commands shapes = record {
  top = record (new_shape (codes "vend")) {
    is_leaf = has_none shapes;
    has_version = true;
    no_binary_name = true;
    subcommand_required = true;
    arg_required_else_help = true;
  };
  subs = shapes;
}

abbrev pub vend_line : App
vend_line = line_of_commands commands

-- ---- what words mean

-- `--base`, alone or with its value after `=`
abbrev pub is_base_option : Text → Bool
is_base_option word = pointwise eqb word (codes "--base") || starts_with eqb word (codes "--base=")

-- `sell`, and the option `--base` right after it
abbrev pub sells_by_base : List Text → Bool
sells_by_base (command ∷ next ∷ rest) = pointwise eqb command (codes "sell") && is_base_option next
sells_by_base words = false

-- `--file` or `--desk`, alone or with its value after `=`
abbrev pub is_place_option : Text → Bool
is_place_option word =
    pointwise eqb word (codes "--file") || (starts_with eqb word (codes "--file=")
    || (pointwise eqb word (codes "--desk") || starts_with eqb word (codes "--desk=")))

-- one of them is among the options, which end at `--`
abbrev pub have_place : List Text → Bool
have_place [] = false
have_place (word ∷ rest) =
    if pointwise eqb word (codes "--") then false else is_place_option word || have_place rest

-- `quote` of an office
abbrev pub quotes_office : List Text → Bool
quotes_office (command ∷ rest) = pointwise eqb command (codes "quote") && have_place rest
quotes_office words = false

-- the words as they are meant: `sell` is `trial` where `--base` comes next, and `quote` is `offer`
-- where an office is named
abbrev pub meant_by : List Text → List Text
meant_by (command ∷ rest) =
    (if sells_by_base (command ∷ rest) then codes "trial"
    else if quotes_office (command ∷ rest) then codes "offer" else command) ∷ rest
meant_by [] = []

-- the faults that `clap` finds in the words; none where they are those of a command
unfoldable pub faults_in : List Text → Kinds
faults_in words = fault_of vend_line (meant_by words)

-- the name of the command, and its rows
unfoldable pub command_in : List Text → Option (Text × List Row)
command_in words = subcommand_of vend_line (meant_by words)

-- ---- what is described

-- a command without commands of its own is described as this
pub record IsDescribed (shape : Shape) (command : Command) : Type 0 where
  pub app : app_of command ≡ record { top = shape; subs = [] }
  pub no_globals : (fields_of command).has_globals ≡ false
