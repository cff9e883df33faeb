use Rattle.desk_messages.proofs.HttpDateLemmas.{date_there}
use Rattle.desk_messages.proofs.reply.http_date.date_law.Goals as goal

pub returns : goal.returns
returns c moment is =
    let civil = c.calendar_law.ensures.each_moment moment is in
    date_there moment civil (c.calendar_law.ensures.ranges moment _ is civil)
