use Rattle.std.proofs.Common.{sym, subst, inl, inr}
use Rattle.vend_core.specs.Lists.{office_of}
use Rattle.office_rules.specs.Office.{IsOffice}
use Rattle.vend_core.proofs.lists.Lists.serve.Goals as goal

pub returns-clause-office : goal.returns-clause-office
returns-clause-office g c = λ office.
    let now = c.args.self.now in
    elim c.served.ensures.served [
      | inl step ↦
          subst IsOffice (sym step.1) (c.office_law.ensures.keeps_office (g.T.BlockTransform.forwards now.transform) (office_of now) c.args.at.now
          office c.keeps_ranges.ensures (g.met.T.BlockTransform.forward_range now.transform))
      | inr none ↦ subst IsOffice (sym none.1) office
    ]
