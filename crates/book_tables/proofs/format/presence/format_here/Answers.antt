use Rattle.std.proofs.Common.{arith, ◌≡◌, ◌+◌, ◌-◌, inl, inr, sym, subst, ◌∙◌}
use Rattle.std.proofs.lemmas.Bool.{cases_lt, false≢true}
use Rattle.book_tables.specs.Holds.{HasOfficeOf}
use Rattle.book_tables.specs.row.Rows.{present_format}
use Rattle.book_tables.proofs.format.presence.format_here.Goals as goal

pub formats-init : goal.formats-init
formats-init c = record { none = λ n known past. absurd (omega (arith, known, past)) }

pub formats-preserved : goal.formats-preserved
formats-preserved c = record {
  none = λ n known past has. elim (cases_lt present_format (n + c.formats.back)) [
    | inl before ↦ c.formats.invariant.none n known before has
    | inr now ↦
        let is : n ≡ present_format - c.formats.back = omega (arith, known, past, now) in
        false≢true (sym c.if-branch.false ∙ c.in_ok-has_format.ensures.1 (subst (λ n. HasOfficeOf n c.args.schema.now) is has))
  ];
}

pub returns-clause-found : goal.returns-clause-found
returns-clause-found c = λ n known. (λ e. absurd cc, λ has. absurd (c.formats.invariant.none n known (omega (arith, known, c.formats-test.false)) has))
