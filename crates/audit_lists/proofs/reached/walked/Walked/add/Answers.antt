use Rattle.std.proofs.Common.{◌++◌, ◌∷◌, [], ℕ, length, min, subst, sym}
use Rattle.audit_lists.specs.reached.Lasts.{AreLasts}
use Rattle.audit_lists.specs.reached.Walk.{IsLatestOf}
use Rattle.audit_lists.proofs.ReachedLemmas.WalkLemmas.{latest_more}
use Rattle.audit_lists.proofs.reached.walked.Walked.add.Goals as goal

pub returns : goal.returns
returns c earlier few walked =
    let shifts = c.args.shifts.now in
    record {
      gathered = c.in_ok-add.ensures earlier few walked.gathered;
      latest = subst (IsLatestOf (earlier ++ c.args.sale.now ∷ [])) (sym c.max-self.ensures)
          (latest_more earlier c.args.self.now.latest c.args.sale.now walked.latest);
      lasts = subst (λ (n : ℕ). AreLasts c.add_shifts.new.lasts shifts (min (length shifts) n)) (sym c.max-self.ensures)
          (c.in_ok-add_shifts.ensures walked.lasts);
    }
