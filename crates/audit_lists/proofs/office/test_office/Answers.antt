use Rattle.std.proofs.Common.{◌≤◌, arith}
use Rattle.one_table.proofs.ChangeLemmas.{if_err, on_ok, told_as}
use Rattle.audit_lists.specs.Ties.{Says}
use Rattle.audit_lists.specs.Told.{BreaksOffice}
use Rattle.audit_lists.proofs.OfficeLemmas.{sale_count}
use Rattle.audit_lists.proofs.ToldLemmas.{all_kept, told_ties, told_totals}
use Rattle.audit_lists.proofs.office.test_office.Goals as goal

pub returns-in_err-test_rules-clause-found : goal.returns-in_err-test_rules-clause-found
returns-in_err-test_rules-clause-found c =
    let fault = c.in_err-test_rules.field-0.0 in
    told_as (Says (BreaksOffice c.args.format c.args.rows.now)) c.from_residual.result fault c.from_residual.ensures.1
    (told_ties c.args.format c.args.rows.now fault c.in_err-test_rules.ensures.found)

pub returns-then-format-lt2-clause-passes : goal.returns-then-format-lt2-clause-passes
returns-then-format-lt2-clause-passes c =
    all_kept c.args.format c.args.rows.now c.in_ok-test_rules.ensures.passes (λ two. absurd (omega (arith, c.if-format-lt2.true, two)))

pub test_totals-requires : goal.test_totals-requires
test_totals-requires c = sale_count c.args.rows.now c.in_ok-test_rules.ensures.passes

pub returns-clause-passes : goal.returns-clause-passes
returns-clause-passes c =
    on_ok c.test_totals.result (λ kept. all_kept c.args.format c.args.rows.now c.in_ok-test_rules.ensures.passes (λ two. kept))
    c.test_totals.ensures.passes

pub returns-clause-found : goal.returns-clause-found
returns-clause-found c =
    let r = c.args.rows.now in
    let two : 2 ≤ c.args.format = omega (arith, c.if-format-lt2.false) in
    if_err c.test_totals.result (λ fault found. told_totals c.args.format r fault two c.in_ok-test_rules.ensures.passes found) c.test_totals.ensures.found
