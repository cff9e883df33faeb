use Rattle.std.proofs.Common.{◌∙◌}
use Rattle.command_line.proofs.LineLemmas.{met, met_name}
use Rattle.command_line.proofs.said.command.Goals as goal

pub returns : goal.returns
returns c = met c.subcommand.result _ (c.subcommand.ensures.name ∙ met_name c.args.matches.now) c.subcommand.ensures.rows
