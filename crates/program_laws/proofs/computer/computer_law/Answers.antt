use Rattle.std.proofs.Common.{inl, inr, subst, sym}
use Rattle.program_laws.specs.runs.Steps.{IsOf}
use Rattle.program_laws.proofs.computer.computer_law.Goals as goal

pub returns : goal.returns
returns g c = λ start lives office of path wait found so.
    let holds = c.machine_file_law.ensures found.log found.db (elim so [ inl finds ↦ finds | inr meets ↦ meets ]) in
    ((subst (λ i. IsOf start lives i) (sym holds.present) of, λ image out. subst (λ i. IsOf start lives i) (sym (holds.crash image out)) of), of)
