-- A command grows by its arguments, and the line by its commands, as the data have them.
use Rattle.std.proofs.Common.{◌≡◌, ◌∙◌, ℕ, ◌+◌, ◌<◌, ◌||◌, Bool, false, List, [], ◌∷◌, ◌++◌, length, get_or, map, take, Result, subst, ap, append_assoc, ap₂, sym}
use Rattle.std.specs.Prelude.{IfOk}
use Rattle.std.specs.declared.alloc.AllocError.{AllocError}
use Rattle.std.proofs.lemmas.List.{map_more}
use Rattle.clap.specs.Built.{AddsArg, AddsSubcommand}
use Rattle.clap.specs.Simple.{App, Shape, app_of, with_rule, with_subcommand}
use Rattle.clap.specs.Walk.{Rule, rule_of}
use Rattle.clap.specs.declared.builder.arg.Arg.{Arg}
use Rattle.clap.specs.declared.builder.command.Command.{Command}
use Rattle.sts_fields.specs.Text.{Text}
use Rattle.command_line.specs.Description.{rule_of_argument, shape_of_description}
use Rattle.command_line.specs.Line.{IsDescribed, command_named, line_of_commands, vend_line}
use Rattle.command_line.specs.Line.{care_commands, officeless_commands, reading_commands, shop_commands}
use Rattle.command_line.specs.declared.argument.Argument.{Argument}
use Rattle.command_line.specs.declared.description.Description.{Description}

-- an argument more
pub one_argument_more : (name : Text) (arguments : List Argument) (i : ℕ) (argument : Argument) (old new : Command) (arg : Arg) → i < length arguments
    → IsDescribed (command_named name (map rule_of_argument (take i arguments))) old
    → rule_of arg ≡ rule_of_argument (get_or arguments i argument) → arg.global ≡ false → AddsArg old arg new
    → IsDescribed (command_named name (map rule_of_argument (take (i + 1) arguments))) new
one_argument_more name arguments i argument old new arg within described rule own adds = record {
  app = adds.shape own ∙ ap₂ with_rule described.app rule
      ∙ ap (λ (rules : List Rule). record { top = command_named name rules; subs = [] }) (sym (map_more rule_of_argument arguments i argument within));
  no_globals = adds.globals ∙ ap₂ (λ (a b : Bool). a || b) described.no_globals own;
}

-- a command more
one_command_more : (before : List Shape) (shape : Shape) (line sub new : Command) → app_of line ≡ line_of_commands before → IsDescribed shape sub
    → AddsSubcommand line sub new → app_of new ≡ line_of_commands (before ++ shape ∷ [])
one_command_more [] shape line sub new is described adds =
    adds.shape described.no_globals ∙ ap₂ with_subcommand is (ap (λ (a : App). a.top) described.app)
one_command_more (first ∷ rest) shape line sub new is described adds =
    adds.shape described.no_globals ∙ ap₂ with_subcommand is (ap (λ (a : App). a.top) described.app)

-- the next of some commands more
pub one_description_more : (before : List Shape) (descriptions : List Description) (i : ℕ) (description : Description) (line sub new : Command)
    → i < length descriptions → app_of line ≡ line_of_commands (before ++ map shape_of_description (take i descriptions))
    → IsDescribed (shape_of_description (get_or descriptions i description)) sub → AddsSubcommand line sub new
    → app_of new ≡ line_of_commands (before ++ map shape_of_description (take (i + 1) descriptions))
one_description_more before descriptions i description line sub new within is described adds =
    let shapes = map shape_of_description (take i descriptions) in
    let shape = shape_of_description (get_or descriptions i description) in
    one_command_more (before ++ shapes) shape line sub new is described adds
    ∙ ap line_of_commands (append_assoc before shapes (shape ∷ []))
    ∙ ap (λ (more : List Shape). line_of_commands (before ++ more)) (sym (map_more shape_of_description descriptions i description within))

-- the groups of the line, added one after another, are its commands
in_order_joined : (a b c d : List Shape) → ((a ++ b) ++ c) ++ d ≡ a ++ (b ++ (c ++ d))
in_order_joined a b c d = simp append_assoc

-- the four groups of commands stand in the line in the order in which they were added
pub in_order : (a b c d : List Shape) (r : Result Command AllocError) → a ≡ shop_commands → b ≡ reading_commands → c ≡ care_commands
    → d ≡ officeless_commands → IfOk r (λ line. app_of line ≡ line_of_commands (((([] ++ a) ++ b) ++ c) ++ d))
    → IfOk r (λ line. app_of line ≡ vend_line)
in_order a b c d r is_a is_b is_c is_d is =
    let both : List Shape → List Shape → List Shape = λ x y. x ++ y in
    let same = in_order_joined a b c d ∙ ap₂ both is_a (ap₂ both is_b (ap₂ both is_c is_d)) in
    subst (λ (shapes : List Shape). IfOk r (λ line. app_of line ≡ line_of_commands shapes)) same is
