use Rattle.std.proofs.Common.{◌∙◌}
use Rattle.records.proofs.NumberLemmas.{is_parsed, not_parsed, not_text, unlike}
use Rattle.records.proofs.reading.read_number.Goals as goal

pub returns-in_default : goal.returns-in_default
returns-in_default c = λ n is. not_text c.args.digits.now c.in_default.ensures.cases.0 n is.0 is.1

pub returns-in_default-parse : goal.returns-in_default-parse
returns-in_default-parse c = λ n is.
    not_parsed c.in-Ok.text.now c.in_default-parse.field-0 c.in_default-parse.ensures.value.0 n is.0 (c.in-Ok.ensures.cases.0 ∙ is.1)

pub returns-else-eq : goal.returns-else-eq
returns-else-eq c = λ n is.
    let written = is_parsed c.in-Ok.text.now c.parse.result c.in-Ok-parse.number n c.in-Ok-parse.is c.parse.ensures.value.0 is.0
    (c.in-Ok.ensures.cases.0 ∙ is.1) in
    unlike c.as_bytes.result.now c.args.digits.now c.if-eq.ensures
    (c.as_bytes.ensures.value ∙ c.format.ensures.text ∙ written ∙ c.in-Ok.ensures.cases.0)
