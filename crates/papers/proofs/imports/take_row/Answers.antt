use Rattle.std.proofs.Common.{◌≡◌, ◌∙◌, arith, sym, true}
use Rattle.std.specs.Result.{is_ok}
use Rattle.papers.proofs.ImportLemmas.{if_err, on_ok, one-too-many, row-fault, row-read}
use Rattle.papers.proofs.imports.take_row.Goals as goal

pub returns-then-number-gt-MAX-clause-fault : goal.returns-then-number-gt-MAX-clause-fault
returns-then-number-gt-MAX-clause-fault c = λ before after so_far at. one-too-many _ before after _ _ _ so_far at (omega arith)

pub returns-in_err-row-clause-fault : goal.returns-in_err-row-clause-fault
returns-in_err-row-clause-fault c = λ before after so_far at.
    if_err c.from_residual.result c.in_err-row.field-0.0 _ c.from_residual.ensures.1
    (row-fault _ before after _ _ _ c.in_err-row.field-0.0 so_far at (omega arith) c.in_err-row.ensures.fault)

pub returns-clause-taken : goal.returns-clause-taken
returns-clause-taken c = λ before so_far at. on_ok c.map_err.result (λ good.
    let pushed : is_ok c.push.result ≡ true = sym c.map_err.ensures.variant ∙ good in
    let items = rw pushed at c.push.ensures.items in
    rw items (row-read _ before _ _ c.in_ok-row.row so_far (omega arith) c.in_ok-row.ensures.says))
