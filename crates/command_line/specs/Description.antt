-- What the data of a command describe.
use Rattle.std.specs.Prelude.{map}
use Rattle.clap.specs.Simple.{Shape}
use Rattle.clap.specs.Walk.{Rule}
use Rattle.sts_fields.specs.Text.{Text}
use Rattle.command_line.specs.Line.{command_named, flag_named, needed, option_named, with_default}
use Rattle.command_line.specs.Line.{word_named, words_named}
use Rattle.command_line.specs.declared.argument.Argument.{Argument}
use Rattle.command_line.specs.declared.argument.ArgumentKind.{ArgumentKind}
use Rattle.command_line.specs.declared.argument.ArgumentKind.TheVariants.{Optional, Needed, Default}
use Rattle.command_line.specs.declared.argument.ArgumentKind.TheVariants.{Flag, Word, Words}
use Rattle.command_line.specs.declared.description.Description.{Description}

-- the argument of a name and a kind
abbrev pub rule_named : Text → ArgumentKind → Rule
rule_named name (Optional value) = option_named name
rule_named name (Needed value) = needed name
rule_named name (Default value text) = with_default name text.now
rule_named name Flag = flag_named name
rule_named name (Word value) = word_named name
rule_named name (Words value) = words_named name

abbrev pub rule_of_argument : Argument → Rule
rule_of_argument argument = rule_named argument.name.now argument.kind

-- the command with its arguments
abbrev pub shape_of_description : Description → Shape
shape_of_description description =
    command_named description.name.now (map rule_of_argument description.arguments.now)
