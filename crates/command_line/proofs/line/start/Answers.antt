use Rattle.std.proofs.Common.{◌≡◌, ◌∙◌, Result, Ok, Err, true, ap}
use Rattle.std.specs.Prelude.{IfOk}
use Rattle.std.specs.declared.alloc.AllocError.{AllocError}
use Rattle.clap.specs.Simple.{App, Shape, app_of, app_of_fields, on_top}
use Rattle.clap.specs.declared.builder.command.Command.{Command}
use Rattle.clap.specs.declared.builder.command.Command.TheViews.{out-Command as fields_of}
use Rattle.command_line.proofs.line.start.Goals as goal

-- how a command is called where it is spoken of is nothing of what is parsed
named : (P : Command → Type 0) (r : Result Command AllocError) (old : Command) (app : App) → app_of old ≡ app
    → IfOk r (λ new. (fields_of new ≡ record (fields_of old) { bin_name = (fields_of new).bin_name }) × P new) → IfOk r (λ new. app_of new ≡ app)
named P (Ok new) old app is (same, name) = ap app_of_fields same ∙ is
named P (Err e) old app is name = tt

pub returns : goal.returns
returns c =
    let told = ap app_of_fields c.after_help.ensures ∙ ap app_of_fields c.about.ensures ∙ c.new.ensures.app in
    let dated = ap app_of_fields c.version.ensures ∙ ap (on_top (λ (s : Shape). record s { has_version = true })) told in
    let alone = ap app_of_fields c.no_binary_name.ensures ∙ ap (on_top (λ (s : Shape). record s { no_binary_name = true })) dated in
    let needs = ap app_of_fields c.subcommand_required.ensures ∙ ap (on_top (λ (s : Shape). record s { subcommand_required = true })) alone in
    let helps = ap app_of_fields c.arg_required_else_help.ensures ∙ ap (on_top (λ (s : Shape). record s { arg_required_else_help = true })) needs in
    named _ c.bin_name.result _ _ helps c.bin_name.ensures
