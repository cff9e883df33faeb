use Rattle.std.proofs.Common.{◌∙◌, ap, length, min, refl, sym}
use Rattle.audit_lists.specs.reached.Lasts.{last_shift_under}
use Rattle.audit_lists.proofs.ReachedLemmas.LastLemmas.{last_none, last_some}
use Rattle.audit_lists.proofs.ReachedLemmas.OwnLemmas.{open_none, open_some}
use Rattle.audit_lists.proofs.reached.sales.is_in_open_shift.Goals as goal

pub returns-in-Some : goal.returns-in-Some
returns-in-Some c o earlier latest office is are =
    let s = c.args.sale.now in
    let lasts = c.args.lasts.now in
    let found = ap (last_shift_under lasts) (sym c.as_bytes.ensures.view) ∙ sym c.last_of.ensures ∙ c.in-Some.is in
    open_some o office s earlier latest is c.in-Some.place
    (last_some o.shifts (min (length o.shifts) latest) s.operator c.in-Some.place (last_shift_under lasts s.operator) found (are s.operator))

pub returns-in-None : goal.returns-in-None
returns-in-None c o earlier latest office is are =
    let s = c.args.sale.now in
    let lasts = c.args.lasts.now in
    let found = ap (last_shift_under lasts) (sym c.as_bytes.ensures.view) ∙ sym c.last_of.ensures ∙ c.in-None.is in (
      λ e. open_none o office s earlier latest is (last_none o.shifts (min (length o.shifts) latest) s.operator
          (last_shift_under lasts s.operator) found (are s.operator)),
      λ was. refl,
    )
