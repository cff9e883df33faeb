use Rattle.std.proofs.Common.{◌∙◌}
use Rattle.clap.proofs.WalkLemmas.{raw_values-rows}
use Rattle.clap.specs.Matches.{found_of}
use Rattle.command_line.specs.Said.{parsed_arguments, argument_rows}
use Rattle.command_line.proofs.said.texts.Goals as goal

pub returns : goal.returns
unfolding parsed_arguments argument_rows
returns c = c.get_strs.ensures ∙ raw_values-rows (found_of c.args.matches.now) c.args.id.now
