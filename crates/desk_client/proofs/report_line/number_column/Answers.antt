use Rattle.std.proofs.Common.{◌∙◌, List, ◌++◌, ◌∷◌, ℕ, ap, sym, arith}
use Rattle.std.specs.Prelude.{decimal}
use Rattle.papers.specs.Text.{right}
use Rattle.desk_client.proofs.ColumnLemmas.{all_behind, fills, in_column, right-length, same_start}
use Rattle.desk_client.proofs.report_line.number_column.Goals as goal

pub returns-in_default : goal.returns-in_default
returns-in_default c = λ n rest fits is. c.in_default.ensures (right c.args.places (decimal n)) rest (right-length c.args.places n fits.1) is

pub returns-in-Some-number : goal.returns-in-Some-number
returns-in-Some-number c =
    let value = c.in-Some.value.now in
    let found = c.in-Some.ensures in
    let read = fills value c.args.places c.spaces_before.result c.in-Some-number.number found.0 c.spaces_before.ensures.within c.spaces_before.ensures.before (sym (all_behind c.spaces_before.result value) ∙ c.in-Some-number.ensures.1) in (
      (c.in-Some-number.ensures.0, read.0),
      found.1 ∙ ap (λ (t : List ℕ). t ++ c.args.end ∷ c.in-Some.rest.now) read.1,
    )

pub returns-in-None : goal.returns-in-None
returns-in-None c = λ n rest fits is.
    let value = c.in-Some.value.now in
    let found = c.in-Some.ensures in
    let cut =
    same_start value (right c.args.places (decimal n)) (c.args.end ∷ c.in-Some.rest.now) (c.args.end ∷ rest)
    (found.0 ∙ sym (right-length c.args.places n fits.1)) (sym found.1 ∙ is) in
    c.in-None.ensures n (fits.0, all_behind c.spaces_before.result value ∙ in_column value c.args.places c.spaces_before.result n fits.0 cut.0 c.spaces_before.ensures.before c.spaces_before.ensures.found)
