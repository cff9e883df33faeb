use Rattle.std.proofs.Common.{◌<◌, ◌↔◌, Bool, IsTrue, arith, subst, sym}
use Rattle.std.specs.Prelude.{is_some}
use Rattle.std.proofs.lemmas.Bool.Decides.{nat_tests}
use Rattle.sts_fields.specs.Base.{year_of}
use Rattle.audit_lists.specs.reached.Walk.{IsNotAfter}
use Rattle.audit_lists.proofs.ReachedLemmas.BaseLemmas.{not_after_or}
use Rattle.audit_lists.proofs.TextLemmas.{turned}
use Rattle.audit_lists.proofs.reached.before.is_not_after.Goals as goal

pub returns : goal.returns
returns c earlier gathered =
    let s = c.args.sale.now in
    let base = c.args.base in
    let later : year_of c.args.sale.now.base < year_of c.args.base = grind (arith, nat_tests) in
    subst (λ (b : Bool). IsTrue b ↔ IsNotAfter base earlier s) (sym (turned (is_some c.last_id.result) c.is_none.result c.is_none.ensures))
    (not_after_or earlier s base later c.last_id.result (c.last_id.ensures earlier gathered))
