use Rattle.std.proofs.Common.{◌≡◌, ◌∙◌, true, false, None, ap, subst, sym}
use Rattle.std.specs.Prelude.{if◌then◌else◌}
use Rattle.desk_commands.specs.print.Pages.{list_behind}
use Rattle.desk_commands.specs.print.ListTexts.{page_text}
use Rattle.vend_ports.specs.print.Told.{Takes}
use Rattle.vend_ports.proofs.TakeLemmas.{takes_none}
use Rattle.desk_commands.proofs.print.pages.put_page.Goals as goal

pub returns-in_default : goal.returns-in_default
returns-in_default g c = takes_none c.args.out.now

pub returns-then-has_failed : goal.returns-then-has_failed
returns-then-has_failed g c =
    let before = c.args.out.now in
    let after = c.put.new.self in
    let text = ◌∙◌ {c = page_text c.args.json c.args.is_first c.args.page.now} c.deref.ensures.value c.in-Ok.ensures in
    let failed : after.failed ≡ true = sym c.has_failed.ensures ∙ c.if-has_failed.true in
    (subst (Takes before after) text c.put.ensures, ap (λ b. if b then None else list_behind c.args.page.now) (sym failed))

pub returns : goal.returns
returns g c =
    let before = c.args.out.now in
    let after = c.put.new.self in
    let text = ◌∙◌ {c = page_text c.args.json c.args.is_first c.args.page.now} c.deref.ensures.value c.in-Ok.ensures in
    let sound : after.failed ≡ false = sym c.has_failed.ensures ∙ c.if-has_failed.false in
    (subst (Takes before after) text c.put.ensures, c.list_behind.ensures ∙ ap (λ b. if b then None else list_behind c.args.page.now) (sym sound))
