use Rattle.sts_fields.specs.Day.{day_at}
use Rattle.book_facts.proofs.LooksLemmas.{looks_same, looks_weaker}
use Rattle.book_facts.proofs.facts.facts_of.Goals as goal

pub returns-in-AddTariff : goal.returns-in-AddTariff
returns-in-AddTariff g c = looks_weaker (λ o f is counted. rw c.in-AddTariff.is is) (λ db f seen. rw c.in-AddTariff.is seen)
    (λ db spoilt. rw c.in-AddTariff.is spoilt) (looks_same c.tariff_facts.ensures)

pub returns-in-AddSteps : goal.returns-in-AddSteps
returns-in-AddSteps g c = looks_weaker (λ o f is counted. rw c.in-AddSteps.is is) (λ db f seen. rw c.in-AddSteps.is seen)
    (λ db spoilt. rw c.in-AddSteps.is spoilt) (looks_same c.dated_facts.ensures)

pub returns-in-AddMeter : goal.returns-in-AddMeter
returns-in-AddMeter g c = looks_weaker (λ o f is counted. rw c.in-AddMeter.is is) (λ db f seen. rw c.in-AddMeter.is seen)
    (λ db spoilt. rw c.in-AddMeter.is spoilt) (looks_same c.meter_facts.ensures)

pub returns-in-Import : goal.returns-in-Import
returns-in-Import g c = looks_weaker (λ o f is counted. rw c.in-Import.is (is (day_at c.args.at.now.moment)))
    (λ db f seen. rw c.in-Import.is seen)
    (λ db spoilt. rw c.in-Import.is spoilt) c.import_facts.ensures

pub returns-in-SetTariff : goal.returns-in-SetTariff
returns-in-SetTariff g c = looks_weaker (λ o f is counted. rw c.in-SetTariff.is is) (λ db f seen. rw c.in-SetTariff.is seen)
    (λ db spoilt. rw c.in-SetTariff.is spoilt)
    (looks_same c.setting_facts.ensures)

pub returns-in-MoveBase : goal.returns-in-MoveBase
returns-in-MoveBase g c = looks_weaker (λ o f is counted. rw c.in-MoveBase.is is) (λ db f seen. rw c.in-MoveBase.is seen)
    (λ db spoilt. rw c.in-MoveBase.is spoilt) (looks_same c.moving_facts.ensures)

pub returns-in-OpenShift : goal.returns-in-OpenShift
returns-in-OpenShift g c = looks_weaker (λ o f is counted. rw c.in-OpenShift.is is) (λ db f seen. rw c.in-OpenShift.is seen)
    (λ db spoilt. rw c.in-OpenShift.is spoilt)
    (looks_same c.opening_facts.ensures)

pub returns-in-CloseShift : goal.returns-in-CloseShift
returns-in-CloseShift g c = looks_weaker (λ o f is counted. rw c.in-CloseShift.is is) (λ db f seen. rw c.in-CloseShift.is seen)
    (λ db spoilt. rw c.in-CloseShift.is spoilt)
    (looks_same c.closing_facts.ensures)

pub returns-in-Sell : goal.returns-in-Sell
returns-in-Sell g c = looks_weaker (λ o f is counted. rw c.in-Sell.is (is counted)) (λ db f seen. rw c.in-Sell.is seen)
    (λ db spoilt. rw c.in-Sell.is spoilt) (looks_same c.sale_facts.ensures)

pub returns-in-Reprint : goal.returns-in-Reprint
returns-in-Reprint g c = looks_weaker (λ o f is counted. rw c.in-Reprint.is is) (λ db f seen. rw c.in-Reprint.is seen)
    (λ db spoilt. rw c.in-Reprint.is spoilt) (looks_same c.reprint_facts.ensures)

pub returns-in-ShiftReport : goal.returns-in-ShiftReport
returns-in-ShiftReport g c = looks_weaker (λ o f is counted. rw c.in-ShiftReport.is is) (λ db f seen. rw c.in-ShiftReport.is seen)
    (λ db spoilt. rw c.in-ShiftReport.is spoilt)
    (looks_same c.report_facts.ensures)

pub returns-in-WithdrawSteps : goal.returns-in-WithdrawSteps
returns-in-WithdrawSteps g c = looks_weaker (λ o f is counted. rw c.in-WithdrawSteps.is is) (λ db f seen. rw c.in-WithdrawSteps.is seen)
    (λ db spoilt. rw c.in-WithdrawSteps.is spoilt) (looks_same c.withdrawal_facts.ensures)

pub returns-in-SetKey : goal.returns-in-SetKey
returns-in-SetKey g c = looks_weaker (λ o f is counted. rw c.in-SetKey.is is) (λ db f seen. rw c.in-SetKey.is seen)
    (λ db spoilt. rw c.in-SetKey.is spoilt) (looks_same c.key_facts.ensures)
