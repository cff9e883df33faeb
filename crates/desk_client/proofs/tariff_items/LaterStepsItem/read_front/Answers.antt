use Rattle.std.proofs.Common.{◌∙◌, codes, sym}
use Rattle.desk_messages.specs.reply.Lists.{day_text}
use Rattle.desk_client.proofs.TariffItemLemmas.{lent}
use Rattle.desk_client.proofs.TariffLemmas.{one_with_steps, plain_day}
use Rattle.desk_client.proofs.tariff_items.LaterStepsItem.read_front.Goals as goal

pub returns-in_default : goal.returns-in_default
returns-in_default c = λ item rest told is.
    let none = rw c.in_default.is at c.in_ok-value.ensures in
    none (record { value = lent (day_text item.from); steps = item.steps; rest = lent rest })
    (plain_day c.calendar_law.ensures.each_moment c.calendar_law.ensures.ranges item.from told.from, told.steps, is)

pub returns-in_default-day_in : goal.returns-in_default-day_in
returns-in_default-day_in c = λ item rest told is.
    let read = rw c.in-Some.is at c.in_ok-value.ensures in
    let found = c.in-Some.field-0 in
    let same = one_with_steps (codes "{\"from\":\"") found.value.now (day_text item.from) found.steps item.steps found.rest.now rest
    read.0 (plain_day c.calendar_law.ensures.each_moment c.calendar_law.ensures.ranges item.from told.from) read.1 told.steps (sym read.2 ∙ is) in
    c.in_default-day_in.ensures item.from (told.from, same.0)
