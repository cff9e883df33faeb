use Rattle.std.proofs.Common.{Ok, Err, rules}
use Rattle.sts_fields.specs.declared.fault.TidFault.TheVariants.{IdentifierAhead}
use Rattle.sts_fields.specs.Tid.{FreshOutcome}
use Rattle.sts_fields.proofs.TidLemmas.{ahead_iff, spent_iff}
use Rattle.sts_fields.proofs.tid.next_tid.Goals as goal

pub returns-then-tid-minute-clause-spent : goal.returns-then-tid-minute-clause-spent
returns-then-tid-minute-clause-spent c = λ used last.
    let outcome : FreshOutcome used c.args.minute (Err IdentifierAhead) = search rules in
    spent_iff used c.args.minute _ outcome

pub returns-clause-spent : goal.returns-clause-spent
returns-clause-spent c = λ used last.
    let outcome : FreshOutcome used c.args.minute (Ok c.if-lowest-eq-RESERVED.tid) = search rules in
    spent_iff used c.args.minute _ outcome

pub returns-clause-ahead : goal.returns-clause-ahead
returns-clause-ahead c = λ used last.
    let outcome : FreshOutcome used c.args.minute (Ok c.if-lowest-eq-RESERVED.tid) = search rules in
    ahead_iff used c.args.minute _ outcome
