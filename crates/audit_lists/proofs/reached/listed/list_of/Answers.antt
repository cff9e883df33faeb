use Rattle.std.proofs.Common.{inl, inr, subst, sym, ◌∙◌}
use Rattle.std.proofs.lemmas.Bool.{false≢true}
use Rattle.tariff.specs.Steps.{IsSteps}
use Rattle.audit_rows.specs.declared.finding.Rule.TheVariants as rule
use Rattle.audit_lists.specs.Keys.{IsNew, Key}
use Rattle.audit_lists.specs.Steps.{AreFirstUnder, AreSteps}
use Rattle.audit_lists.specs.Ties.{Each, Says, found}
use Rattle.audit_lists.proofs.ReachedLemmas.FaultLemmas.{says_steps}
use Rattle.audit_lists.proofs.StepLemmas.{same_first}
use Rattle.audit_lists.proofs.reached.listed.list_of.Goals as goal

pub returns : goal.returns
returns g c =
    let step = g.T.HasStep.step in
    let key = g.K.KeyOf.key in
    let rows = c.args.rows.now in
    let q = key c.args.row.now in
    let first = subst (λ (k : Key). AreFirstUnder step key rows k c.in_ok-steps.steps.items) c.of-key.ensures c.in_ok-steps.ensures in
    let finding = found g.T.Named.name rule.Steps (g.T.Named.key c.args.row.now) in
    record {
      lists = λ _. tt;
      found = subst (Says (λ _. Each (IsNew key rows) rows → ¬ AreSteps step key rows q)) (sym c.steps_fault.ensures)
          (says_steps (Each (IsNew key rows) rows → ¬ AreSteps step key rows q) finding c.in-Err.fault (λ other once are.
          let same = same_first step key rows once q c.in_ok-steps.steps.items are.steps first are.first are.priced in
          elim (c.in-Err.ensures.reads.1 (subst IsSteps (sym (c.deref.ensures.value ∙ same)) are.priced)) [
            | inl ok ↦ false≢true ok
            | inr memory ↦ other (cc)
          ]));
    }
