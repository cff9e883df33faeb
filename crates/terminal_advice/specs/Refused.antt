-- What is said of the refusals of an office, in the order of docs/COMMANDS.md. The line of a row
-- has the advice for its cause, so that the sentences for a row stand on that page alone.
use Rattle.std.specs.Prelude.{codes}
use Rattle.sts_fields.specs.Text.{Text}
use Rattle.office_rules.specs.declared.decision.refusal.Refusal.{Refusal}
use Rattle.office_rules.specs.declared.decision.refusal.Refusal.TheVariants.{RefReused, NoShift}
use Rattle.office_rules.specs.declared.decision.refusal.Refusal.TheVariants.{ShiftOpen, NoMeter}
use Rattle.office_rules.specs.declared.decision.refusal.Refusal.TheVariants.{NoTariff, Differs}
use Rattle.office_rules.specs.declared.decision.refusal.Refusal.TheVariants.{BeforeBase}
use Rattle.office_rules.specs.declared.decision.refusal.Refusal.TheVariants.{IdentifiersSpent}
use Rattle.office_rules.specs.declared.decision.refusal.Refusal.TheVariants.{IdentifierAhead}
use Rattle.office_rules.specs.declared.decision.refusal.Refusal.TheVariants.{TooLittle, OfficeFull}
use Rattle.office_rules.specs.declared.decision.refusal.Refusal.TheVariants.{NoSale, NoSuchShift}
use Rattle.office_rules.specs.declared.decision.refusal.Refusal.TheVariants.{ImportRow, Memory}
use Rattle.office_rules.specs.declared.decision.refusal.Refusal.TheVariants.{Store, Stopped}
use Rattle.office_rules.specs.declared.decision.refusal.Refusal.TheVariants.{NotLater, DayPast}
use Rattle.office_rules.specs.declared.decision.refusal.Refusal.TheVariants.{HasSales}

-- why it refused
abbrev pub refusal_reason : Refusal → Text
refusal_reason RefReused =
    codes "This order number belongs to another sale. Nothing was sold now."
refusal_reason NoShift =
    codes "The operator has no open shift. Nothing was done."
refusal_reason ShiftOpen =
    codes "The operator's shift is open already."
refusal_reason NoMeter =
    codes "The office has no meter with this number."
refusal_reason NoTariff =
    codes "There is no tariff of this name."
refusal_reason Differs =
    codes "Something else is stored under this name, number or day. It was left as it is."
refusal_reason BeforeBase =
    codes "At this moment the base date has not come yet."
refusal_reason IdentifiersSpent =
    codes "This meter has used up its token identifiers."
refusal_reason IdentifierAhead =
    codes "This meter's identifiers are more than a day ahead of the office's clock."
refusal_reason TooLittle =
    codes "This does not pay for 0.1 kWh."
refusal_reason OfficeFull =
    codes "The office is full."
refusal_reason NoSale =
    codes "There is no sale of this number or ref, or none to the meter."
refusal_reason NoSuchShift =
    codes "There is no shift of this number."
refusal_reason (ImportRow row cause) =
    codes "A row of the file was refused, and nothing was added."
refusal_reason Memory =
    codes "The office's computer is out of memory. Nothing was done."
refusal_reason Store =
    codes "The office's disk failed, or a row is damaged."
refusal_reason Stopped =
    codes "The office has stopped after its disk failed or a row was found damaged."
refusal_reason NotLater =
    codes "This meter has a later base date already, and sells under it."
refusal_reason DayPast =
    codes "That day has begun (UTC), or something was sold on it or later."
refusal_reason HasSales =
    codes "Tokens were sold to this meter with the key that it has."

-- what to do about it
abbrev pub refusal_remedy : Refusal → Text
refusal_remedy RefReused =
    codes "Take a new number for another sale."
refusal_remedy NoShift =
    codes "Open one, or correct the operator."
refusal_remedy ShiftOpen =
    codes "Go on selling, or close it first."
refusal_remedy NoMeter =
    codes "Compare it with the number on the meter, or have the meter added."
refusal_remedy NoTariff =
    codes "Correct the name, or add the tariff first."
refusal_remedy Differs =
    codes "Take another name, or compare what you entered."
refusal_remedy BeforeBase =
    codes "Have the clock set right, or wait for the day."
refusal_remedy IdentifiersSpent =
    codes "Have the clock set right. If it is right, have the meter moved to a later base date and cleared."
refusal_remedy IdentifierAhead =
    codes "Have the clock set right. If it is right, wait."
refusal_remedy TooLittle =
    codes "Ask for more money."
refusal_remedy OfficeFull =
    codes "Whoever runs it has to begin a new file."
refusal_remedy NoSale =
    codes "Correct what you entered."
refusal_remedy NoSuchShift =
    codes "Correct the number."
refusal_remedy (ImportRow row cause) =
    codes "The cause says why, and what to do. Row 0 is the header."
refusal_remedy Memory =
    codes "Try again later."
refusal_remedy Store =
    codes "Make room and try the same again, or audit the file."
refusal_remedy Stopped =
    codes "Have somebody look whether the disk is full, and try again."
refusal_remedy NotLater =
    codes "There is nothing to do."
refusal_remedy DayPast =
    codes "Take a later day. Steps that have begun stay."
refusal_remedy HasSales =
    codes "Correct the number. The key of a meter with sales stays."
