use Rattle.std.proofs.Common.{◌≡◌, ◌∙◌, Some, ap, rules, sym}
use Rattle.vend_ports.specs.print.Sink.{Sink}
use Rattle.law_witnesses.proofs.AuditLemmas.{at_end, counted_text}
use Rattle.law_witnesses.proofs.programs.audit_printed.Goals as goal

pub returns-in-Done : goal.returns-in-Done
returns-in-Done g c =
    let began = c.new-watched.ensures in
    let audited = at_end c.run-ended.ensures c.in-Done.is in
    let sound = c.sound_law.ensures c.args.office _ c.args.words.now.file.now _ _ _ audited in
    let named = sym (sound.printed.same ∙ ap (λ (s : Sink). s.name) began) in
    let out : c.out-2-1.given.0 ≡ c.into_inner.result.now = search rules in
    counted_text _ sound c.requires (ap (λ (s : Sink). s.held) began ∙ ap Some c.new-out.ensures.items) (ap (λ (s : Sink). s.failed) began)
    (sym c.has_failed-failed.ensures ∙ c.if-failed.false) (sym c.into_inner.ensures.held ∙ ap (λ v. Some v.items) (sym out))
