use Rattle.std.proofs.Common.{codes, inr, refl, rules, subst, sym}
use Rattle.sqlite_value.specs.Value.{owned}
use Rattle.office_commands.specs.print.AuditLines.{TellsValue}
use Rattle.office_commands.proofs.AuditLemmas.{other_value}
use Rattle.office_commands.proofs.print.audit_lines.put_value.Goals as goal

pub returns-in-None : goal.returns-in-None
returns-in-None g c =
    let shown = inr (λ named. let no = c.in-None.ensures.rule.1 named in cc, refl) in
    (codes "?", subst (λ value. TellsValue (owned value) (codes "?")) (sym c.in-Text.is) shown, search rules)

pub returns-in_default : goal.returns-in_default
returns-in_default g c = (codes "?", other_value c.args.value c.in_default.not-Int c.in_default.not-Text, search rules)
