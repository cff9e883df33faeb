use Rattle.asks.proofs.ValueLemmas.{day-reads}
use Rattle.desk_messages.proofs.reply.law.day_text_law.Goals as goal

pub returns-clause-days : goal.returns-clause-days
returns-clause-days c =
    day-reads c.calendar_law.ensures.each_moment c.day_law.ensures.shown c.day_law.ensures.whole

pub returns-clause-steps : goal.returns-clause-steps
returns-clause-steps c = c.steps_text_law.ensures.each_list
