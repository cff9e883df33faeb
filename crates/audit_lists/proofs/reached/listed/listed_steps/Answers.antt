use Rattle.std.proofs.Common.{List, length, subst, sym}
use Rattle.office_rules.specs.Office.{Office}
use Rattle.audit_rows.specs.declared.rows.DatedStepRow.{DatedStepRow}
use Rattle.audit_rows.specs.declared.rows.StepRow.{StepRow}
use Rattle.audit_lists.specs.RowKeys.{dated_key, step_key}
use Rattle.audit_lists.specs.Ties.{Says}
use Rattle.audit_lists.specs.reached.Finds.{AreRowsOfOffice}
use Rattle.audit_lists.specs.reached.Prices.{AreListed, AreLists, HaveLists}
use Rattle.audit_lists.proofs.ReachedLemmas.FaultLemmas.{says_weaker, told_on}
use Rattle.audit_lists.proofs.ReachedLemmas.ListedLemmas.{dated_step_of, have_dated, have_steps, listed_all, step_of}
use Rattle.audit_lists.proofs.reached.listed.listed_steps.Goals as goal

pub returns-clause-lists : goal.returns-clause-lists
returns-clause-lists c o are =
    let first = c.in_ok-listed.listed.items in
    let dated = c.in_ok-lists_of.field-0.items in
    subst (AreListed o) (sym c.in_ok-append.ensures.items) (listed_all c.args.rows.now o are first dated
    (subst (λ (l : List StepRow). AreLists step_of step_key l (length l) first) c.deref.ensures.value c.in_ok-listed.ensures.lists)
    (subst (λ (l : List DatedStepRow). AreLists dated_step_of dated_key l (length l) dated) c.deref-2.ensures.value c.in_ok-lists_of.ensures.lists))

pub returns-in_err-listed-clause-found : goal.returns-in_err-listed-clause-found
returns-in_err-listed-clause-found c =
    let r = c.args.rows.now in
    told_on (Says (λ _. (o : Office) → ¬ AreRowsOfOffice r o)) c.from_residual.result c.in_err-listed.field-0.0 c.from_residual.ensures.1
    (says_weaker (λ _. ¬ HaveLists step_of step_key c.deref.result.now) (λ _. (o : Office) → ¬ AreRowsOfOffice r o) c.in_err-listed.field-0.0
    (λ f none o are. none (subst (HaveLists step_of step_key) (sym c.deref.ensures.value) (have_steps r o are))) c.in_err-listed.ensures.found)

pub returns-in_err-lists_of-clause-found : goal.returns-in_err-lists_of-clause-found
returns-in_err-lists_of-clause-found c =
    let r = c.args.rows.now in
    told_on (Says (λ _. (o : Office) → ¬ AreRowsOfOffice r o)) c.from_residual-in_err-lists_of.result c.in_err-lists_of.field-0.0
    c.from_residual-in_err-lists_of.ensures.1
    (says_weaker (λ _. ¬ HaveLists dated_step_of dated_key c.deref-2.result.now) (λ _. (o : Office) → ¬ AreRowsOfOffice r o) c.in_err-lists_of.field-0.0
    (λ f none o are. none (subst (HaveLists dated_step_of dated_key) (sym c.deref-2.ensures.value) (have_dated r o are))) c.in_err-lists_of.ensures.found)
