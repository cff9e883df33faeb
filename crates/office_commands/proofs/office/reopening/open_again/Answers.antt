use Rattle.std.proofs.Common.{refl, subst}
use Rattle.books.specs.Path.{AreTakenFrom}
use Rattle.books.specs.declared.refused_files.RefusedFiles.TheVariants.{Connected}
use Rattle.office_commands.specs.office.Lost.IsUnreopened.{refused, unsalted}
use Rattle.office_commands.proofs.office.reopening.open_again.Goals as goal

pub returns-in_default-clause-lost : goal.returns-in_default-clause-lost
returns-in_default-clause-lost g c =
    let left = c.let_refused_go.ensures in
    unsalted c.args.salts.now c.in_default.ensures.lacks refl c.args.books.conn
    (record { now = refl; committed = refl; is_open = refl; is_clean = refl; faults = refl; left = λ trees may. may; leaves = λ trees may. may })
    left.0 (subst (λ conn. AreTakenFrom (Connected conn) left.0) c.into_connection.ensures.same left.1) left.2

pub returns-in-Err-clause-lost : goal.returns-in-Err-clause-lost
returns-in-Err-clause-lost g c =
    let left = c.let_refused_go-in-Err.ensures in
    refused c.args.salts.now c.in-Some.salt c.in-Some.ensures.draws c.args.books.conn
    (record { now = refl; committed = refl; is_open = refl; is_clean = refl; faults = refl; left = λ trees may. may; leaves = λ trees may. may })
    c.in-Err.refused c.in-Err.ensures.refused left.0 left.1 left.2
