use Rattle.std.proofs.Common.{subst}
use Rattle.std.proofs.lemmas.List.Elements.{All-push}
use Rattle.audit_rows.specs.declared.finding.Rule.{Rule}
use Rattle.audit_lists.specs.reached.Finds.{Keeps}
use Rattle.audit_lists.specs.reached.Walk.{FindsRule}
use Rattle.audit_lists.proofs.TextLemmas.{is_false}
use Rattle.audit_lists.proofs.ReachedLemmas.WalkLemmas.{breaks_last, breaks_still}
use Rattle.audit_lists.proofs.reached.walk.first_of.Goals as goal

pub returns-in-Some : goal.returns-in-Some
returns-in-Some c rules o earlier s finds tells = breaks_still rules o earlier s c.args.rule c.in-Some.broken
    (subst (FindsRule rules o earlier s) c.in-Some.is finds)

pub returns-then-kept : goal.returns-then-kept
returns-then-kept c rules o earlier s finds tells =
    All-push (λ (r : Rule). Keeps r o earlier s) rules c.args.rule (subst (FindsRule rules o earlier s) c.in-None.is finds) (tells.0 c.if-kept.true)

pub returns-else-kept : goal.returns-else-kept
returns-else-kept c rules o earlier s finds tells =
    breaks_last rules o earlier s c.args.rule (subst (FindsRule rules o earlier s) c.in-None.is finds)
    (λ keeps. is_false c.args.kept c.if-kept.false (tells.1 keeps))
