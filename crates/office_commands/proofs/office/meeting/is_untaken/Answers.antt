use Rattle.office_commands.proofs.MeetingLemmas.{untaken_told}
use Rattle.office_commands.proofs.office.meeting.is_untaken.Goals as goal

pub returns-clause-value : goal.returns-clause-value
returns-clause-value c = untaken_told c.args.schema.now c.in_ok-found.found c.in_ok-found.ensures.found c.eq.result c.eq.ensures
