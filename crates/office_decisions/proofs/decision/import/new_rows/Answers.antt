use Rattle.std.proofs.Common.{◌≡◌, ◌∙◌, ◌⊎◌, ap, inl, inr, sym, subst, arith, List, Err, ℕ, [], ◌+◌, drop}
use Rattle.std.specs.Prelude.{slice_get}
use Rattle.std.specs.Option.{option_copied}
use Rattle.std.proofs.lemmas.Result.{IfErr-weaker}
use Rattle.office_rules.specs.Decision.{at_row, new_rows, row_decision}
use Rattle.office_rules.specs.Decision.Edits.{with_rows}
use Rattle.office_rules.specs.Decision.Facts.{AreRowsFacts}
use Rattle.office_rules.specs.Law.Growth.{HaveStayed}
use Rattle.office_rules.specs.Office.{Office}
use Rattle.office_rules.specs.declared.office.row.Row.{Row}
use Rattle.office_rules.specs.declared.decision.refusal.Refusal.{Refusal}
use Rattle.office_rules.specs.declared.decision.refusal.Refusal.TheVariants as refusals
use Rattle.office_rules.proofs.DecisionLemmas.ImportLemmas.{ahead}
use Rattle.office_rules.proofs.DecisionLemmas.StayLemmas.{stayed_none}
use Rattle.office_decisions.proofs.ImportWalkLemmas.{FactsAt, SeesNew, facts_at, facts_further, get_copied, new_here, same_err, sees_further, stays_on, walks_on}
use Rattle.office_decisions.proofs.OverFactsLemmas.{on_err, refused_here, rows_decided, shows_found, shows_made, walks_on_facts}
use Rattle.office_decisions.specs.OverFacts.{Shows, new_rows_on, office_showing}
use Rattle.office_decisions.proofs.decision.import.new_rows.Goals as goal

-- the facts at this row, and what was found of it
facts_here : (c : goal.In_ok-go_on) (o : Office) → AreRowsFacts o c.args.today c.args.rows.now c.args.found.now
    → FactsAt o c.args.today c.args.rows.now c.args.found.now c.loop-row.row-index c.row-item.result
facts_here c o facts = facts_at o c.args.today c.args.rows.now c.args.found.now c.loop-row.row-index c.row-item.result (omega arith)
    c.row-item.is (c.loop-row.invariant.facts o facts)

got : (c : goal.In_ok-go_on) → option_copied c.get-facts.result ≡ slice_get c.args.found.now c.loop-row.row-index
got c = get_copied c.get-facts.result c.args.found.now c.loop-row.number c.get-facts.ensures.lookup.0 c.get-facts.ensures.lookup.1
    ∙ ap (slice_get c.args.found.now) c.loop-row.invariant.numbered

pub loop-row-preserved : goal.loop-row-preserved
loop-row-preserved c =
    let i = c.loop-row.row-index in
    let rows = c.args.rows.now in
    let taken = c.loop-row.taken.rows.items in
    let row = c.row-item.result in
    let granted = λ (o : Office) (facts : AreRowsFacts o c.args.today c.args.rows.now c.args.found.now). c.in_ok-go_on.ensures.ok o
    (shows_found o row (option_copied c.get-facts.result) (got c ∙ (facts_here c o facts).found)) in
    let fs = c.args.found.now in
    let shown = office_showing row (slice_get fs i) in
    let exact = c.in_ok-go_on.ensures.ok shown (subst (Shows shown row) (sym (got c)) (shows_made row (slice_get fs i))) in
    record {
      numbered = omega arith;
      few = omega (arith, c.in_ok-go_on.ensures.one);
      stayed = λ o facts. let g = granted o facts in
          subst (λ (l : List Row). HaveStayed o (with_rows l o)) (sym g.2) (stays_on o c.args.today taken row g.0 (c.loop-row.invariant.stayed o facts) g.1);
      facts = λ o facts. let g = granted o facts in
          facts_further o c.args.today c.args.rows.now c.args.found.now taken i row g.0 (c.loop-row.invariant.stayed o facts) g.1 (facts_here c o facts);
      seen = λ o facts. let g = granted o facts in
          subst (λ (l : List Row). SeesNew o c.args.today rows l (i + 1)) (sym g.2)
          (sees_further o c.args.today rows taken i row (omega arith) c.row-item.is g.0 (c.loop-row.invariant.seen o facts) g.1);
      rest = λ o facts. let g = granted o facts in
          walks_on o c.args.today rows taken i row (omega arith) c.row-item.is (c.loop-row.invariant.rest o facts) g.0 g.1
          ∙ ap (λ (l : List Row). ahead l (new_rows (with_rows l o) c.args.today (i + 1 + 1) (drop (i + 1) rows))) (sym g.2);
      exact = walks_on_facts c.args.today rows taken fs i row exact.0 (omega arith) c.row-item.is exact.1 c.loop-row.invariant.exact
          ∙ ap (λ (l : List Row). ahead l (new_rows_on l c.args.today (i + 1) (drop (i + 1) rows) fs)) (sym exact.2);
    }

pub returns-in_err-go_on-clause-memory : goal.returns-in_err-go_on-clause-memory
returns-in_err-go_on-clause-memory c = λ o facts none.
    let i = c.loop-row.row-index in
    let rows = c.args.rows.now in
    let row = c.row-item.result in
    let at = facts_at o c.args.today rows c.args.found.now i row (omega arith) c.row-item.is (c.loop-row.invariant.facts o facts) in
    let failed = same_err c.from_residual.result c.in_err-go_on.field-0.0 refusals.Memory c.from_residual.ensures.1 none in
    let found = get_copied c.get-facts.result c.args.found.now c.loop-row.number c.get-facts.ensures.lookup.0 c.get-facts.ensures.lookup.1
    ∙ ap (slice_get c.args.found.now) c.loop-row.invariant.numbered ∙ at.found in
    new_here o c.args.today rows c.loop-row.taken.rows.items i row (omega arith) c.row-item.is (c.loop-row.invariant.seen o facts)
    (c.in_err-go_on.ensures.memory o (shows_found o row (option_copied c.get-facts.result) found) failed)

pub returns-in_err-go_on-clause-exact_err : goal.returns-in_err-go_on-clause-exact_err
returns-in_err-go_on-clause-exact_err c =
    let today = c.args.today in
    let rows = c.args.rows.now in
    let fs = c.args.found.now in
    let i = c.loop-row.row-index in
    let row = c.row-item.result in
    let taken = c.loop-row.taken.rows.items in
    let why = c.in_err-go_on.field-0.0 in
    let shown = office_showing row (slice_get fs i) in
    let found = get_copied c.get-facts.result fs c.loop-row.number c.get-facts.ensures.lookup.0 c.get-facts.ensures.lookup.1
    ∙ ap (slice_get fs) c.loop-row.invariant.numbered in
    let told = c.in_err-go_on.ensures.err shown (subst (Shows shown row) (sym found) (shows_made row (slice_get fs i))) in
    on_err (λ (refusal : Refusal). (new_rows_on [] today 0 rows fs ≡ Err refusal) ⊎ (refusal ≡ refusals.Memory)) c.from_residual.result why
    c.from_residual.ensures.1 (elim told [
      | inl refused ↦ inl (refused_here today rows taken fs i row why (omega arith) c.row-item.is
          (subst (λ (n : ℕ). at_row (n + 1) (row_decision (with_rows taken shown) today row) ≡ Err why) c.loop-row.invariant.numbered refused)
          c.loop-row.invariant.exact)
      | inr memory ↦ inr memory
    ])

pub returns-in_err-go_on-clause-err : goal.returns-in_err-go_on-clause-err
returns-in_err-go_on-clause-err c = λ o facts.
    let same = rows_decided o c.args.today c.args.found.now c.args.rows.now [] 0 (stayed_none o) facts in
    IfErr-weaker c.from_residual.result _ _ (λ why told. elim told [ inl refused ↦ inl (same ∙ refused) | inr memory ↦ inr memory ])
    (returns-in_err-go_on-clause-exact_err c)
