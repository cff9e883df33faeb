use Rattle.std.proofs.Common.{inl, inr, refl}
use Rattle.one_table.proofs.ChangeLemmas.{told_as}
use Rattle.audit.specs.Fails.{TellsForged, given_by}
use Rattle.audit.proofs.SoundLemmas.{passed_by, passed_without, told_by}
use Rattle.audit.proofs.auditing.test_forged.Goals as goal

pub returns-in_err-test_reached-clause-found : goal.returns-in_err-test_reached-clause-found
returns-in_err-test_reached-clause-found g c =
    let given = given_by g.T.BlockTransform.forwards c.args.transform in
    told_as (TellsForged given c.args.rows.now) c.from_residual.result c.in_err-test_reached.field-0.0 c.from_residual.ensures.1
    (inl c.in_err-test_reached.ensures.found)

pub returns-in-Some-clause-passes : goal.returns-in-Some-clause-passes
returns-in-Some-clause-passes g c =
    passed_by g.T.BlockTransform.forwards c.args.transform c.args.rows.now c.in_ok-test_reached.ensures.passes c.in-Some.transform
    c.in-Some.is c.test_written.result
    c.test_written.ensures.passes

pub returns-in-Some-clause-found : goal.returns-in-Some-clause-found
returns-in-Some-clause-found g c =
    told_by g.T.BlockTransform.forwards c.args.transform c.args.rows.now c.in_ok-test_reached.ensures.passes c.in-Some.transform
    c.in-Some.is c.test_written.result
    c.test_written.ensures.found

pub returns-in-None-clause-passes : goal.returns-in-None-clause-passes
returns-in-None-clause-passes g c =
    passed_without g.T.BlockTransform.forwards c.args.transform c.args.rows.now c.in_ok-test_reached.ensures.passes c.in-None.is

pub returns-in_err-test_reached-clause-told : goal.returns-in_err-test_reached-clause-told
returns-in_err-test_reached-clause-told g c = inl refl

pub returns-in-Some-clause-told : goal.returns-in-Some-clause-told
returns-in-Some-clause-told g c = inr (c.passed.ensures, c.in_ok-test_reached.ensures.passes)

pub returns-in-None-clause-told : goal.returns-in-None-clause-told
returns-in-None-clause-told g c = inr (c.passed.ensures, c.in_ok-test_reached.ensures.passes)
