use Rattle.std.proofs.Common.{[], ◌∷◌, rules}
use Rattle.std.specs.Prelude.{decimal}
use Rattle.sts_fields.specs.Base.{year_of}
use Rattle.office_commands.proofs.print.audit_lines.put_broken.Goals as goal

pub returns-in-Number : goal.returns-in-Number
returns-in-Number g c = (decimal c.in-Number.row ∷ [], search rules, search rules)

pub returns-in-Tariff : goal.returns-in-Tariff
returns-in-Tariff g c = (c.in-Tariff.name ∷ [], search rules, search rules)

pub returns-in-Step : goal.returns-in-Step
returns-in-Step g c = (c.in-Step.tariff ∷ decimal c.in-Step.step ∷ [], search rules, search rules)

pub returns-in-DatedStep : goal.returns-in-DatedStep
returns-in-DatedStep g c =
    (c.in-DatedStep.tariff ∷ decimal c.in-DatedStep.day ∷ decimal c.in-DatedStep.step ∷ [], search rules, search rules)

pub returns-in-Meter : goal.returns-in-Meter
returns-in-Meter g c = (c.in-Meter.meter ∷ [], search rules, search rules)

pub returns-in-Base : goal.returns-in-Base
returns-in-Base g c = (c.in-Base.meter ∷ decimal (year_of c.in-Base.base) ∷ [], search rules, search rules)

pub returns-in-Month : goal.returns-in-Month
returns-in-Month g c = (c.in-Month.meter ∷ decimal c.in-Month.month ∷ [], search rules, search rules)

pub returns-in-Columns : goal.returns-in-Columns
returns-in-Columns g c = (c.put_value.ensures.0 ∷ [], search rules, search rules)
