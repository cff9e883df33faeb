use Rattle.std.proofs.Common.{◌∙◌, [], ◌∷◌, codes, subst, sym}
use Rattle.vend_commands.specs.serving.Listening.IsDeaf.{no_text, not_told}
use Rattle.vend_ports.specs.print.Printed.{line_of}
use Rattle.vend_ports.specs.print.Told.{Takes}
use Rattle.vend_commands.proofs.commands.serve.listen.Goals as goal

pub returns-then-has_failed : goal.returns-then-has_failed
returns-then-has_failed g c =
    let told = subst (λ a. Takes c.args.err.now c.put_line-2.new.out
    (line_of (codes "listening" ∷ a ∷ []))) (c.as_bytes.ensures.value ∙ c.in-Ok-address_text.ensures) c.put_line-2.ensures in
    not_told c.in-Some.port c.in-Some.ensures.port c.in-Some.ensures.listens (sym c.has_failed.ensures ∙ c.if-has_failed.true) told

pub returns-in_default-address_text : goal.returns-in_default-address_text
returns-in_default-address_text g c = no_text c.in-Some.port c.in-Some.ensures.port c.in-Some.ensures.listens c.put_refusal-in_default-address_text.ensures
