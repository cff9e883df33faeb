use Rattle.std.proofs.Common.{refl}
use Rattle.audit_lists.proofs.ReachedLemmas.ClassLemmas.{class_zero_where}
use Rattle.audit_lists.proofs.reached.sales.is_of_class_zero.Goals as goal

pub returns-in-Ok : goal.returns-in-Ok
returns-in-Ok c =
    let large = c.in-Ok.ensures.too_large in
    let class = c.in-Ok.ensures.wrong_class in
    (λ _. class_zero_where c.args.digits.now c.in-Ok.ensures.reading.1.digits (λ h. let e = large.1 h in cc) (λ h. let e = class.1 h in cc), λ _. refl)
