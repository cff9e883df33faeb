use Rattle.std.proofs.Common.{refl, subst}
use Rattle.sqlite.specs.Steps.{over_memory}
use Rattle.books.specs.Keeps.{seen}
use Rattle.vend_commands.specs.commands.Selfchecked.{IsGranted, IsUnprepared, add_flat, add_selfcheck_meter, open_selfcheck_shift}
use Rattle.vend_commands.specs.declared.selfcheck.fault.SelfcheckFault.TheVariants.{Refused}
use Rattle.vend_commands.proofs.SelfcheckLemmas.{first_request, on_err, on_ok, passed_on, second_request, third_request, ungranted}
use Rattle.vend_commands.proofs.selfcheck.prepared.ready.Goals as goal

pub returns-clause-granted : goal.returns-clause-granted
returns-clause-granted g c = on_ok c.grant-3.result c.grant-3.ensures.granted (λ last life keeps.
    let first = c.in_ok-grant.ensures.granted life keeps in
    let second = c.in_ok-grant-2.ensures.granted first.0 first.2 in
    let third = last second.0 second.2 in
    let with_tariff = subst (λ r. IsGranted r life first.0) c.in-Some.ensures first.1 in
    let with_meter = subst (λ r. IsGranted r first.0 second.0) c.add_selfcheck_meter.ensures second.1 in
    let with_shift = subst (λ r. IsGranted r second.0 third.0) c.open_selfcheck_shift.ensures third.1 in
    (third.0, (first.0, with_tariff, (second.0, with_meter, (third.0, with_shift, refl))), third.2))

pub returns-in_err-grant-clause-refused : goal.returns-in_err-grant-clause-refused
returns-in_err-grant-clause-refused g c =
    let see = seen {g = over_memory} {h = g.T.BlockTransform} in
    let why = c.in_err-grant.field-0.0 in
    passed_on (λ why. IsUnprepared see (Refused why)) c.from_residual.result why c.from_residual.ensures.1
    (ungranted see c.in-Some.tariff add_flat why c.args.books.now c.grant.new.books c.in-Some.ensures first_request c.in_err-grant.ensures.refused)

pub returns-in_err-grant-2-clause-refused : goal.returns-in_err-grant-2-clause-refused
returns-in_err-grant-2-clause-refused g c =
    let see = seen {g = over_memory} {h = g.T.BlockTransform} in
    let why = c.in_err-grant-2.field-0.0 in
    passed_on (λ why. IsUnprepared see (Refused why)) c.from_residual-in_err-grant-2.result why c.from_residual-in_err-grant-2.ensures.1
    (ungranted see c.add_selfcheck_meter.result add_selfcheck_meter why c.grant.new.books c.grant-2.new.books c.add_selfcheck_meter.ensures
    second_request c.in_err-grant-2.ensures.refused)

pub returns-clause-refused : goal.returns-clause-refused
returns-clause-refused g c =
    let see = seen {g = over_memory} {h = g.T.BlockTransform} in
    on_err c.grant-3.result c.grant-3.ensures.refused
    (λ why. ungranted see c.open_selfcheck_shift.result open_selfcheck_shift why c.grant-2.new.books c.grant-3.new.books
    c.open_selfcheck_shift.ensures third_request)
