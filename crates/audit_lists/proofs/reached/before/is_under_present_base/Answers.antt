use Rattle.std.proofs.lemmas.Bool.{false≢true}
use Rattle.sts_fields.specs.declared.base.Base.TheVariants.{Y2014, Y2035}
use Rattle.audit_lists.proofs.ReachedLemmas.BaseLemmas.{not_after_of, under_present}
use Rattle.audit_lists.proofs.TextLemmas.{is_false}
use Rattle.audit_lists.proofs.reached.before.is_under_present_base.Goals as goal

pub returns-then-not-is_not_after : goal.returns-then-not-is_not_after
returns-then-not-is_not_after c earlier gathered = (
  λ e. absurd (false≢true e),
  λ under. absurd (is_false c.is_not_after.result c.if-not-is_not_after.true
      ((c.is_not_after.ensures earlier gathered).1 (not_after_of earlier c.args.sale.now Y2014 under))),
)

pub returns : goal.returns
returns c earlier gathered =
    let s = c.args.sale.now in
    let first = (c.is_not_after.ensures earlier gathered).0 c.if-not-is_not_after.false in
    let second = c.is_not_after-2.ensures earlier gathered in
    (λ e. under_present earlier s first (second.0 e), λ under. second.1 (not_after_of earlier s Y2035 under))
