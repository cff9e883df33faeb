use Rattle.std.proofs.Common.{subst, arith}
use Rattle.tariff.specs.Pieces.{HasLead}
use Rattle.tariff.proofs.TextLemmas.{decimal_plain, number_from_parse}
use Rattle.tariff.proofs.text.read_number.Goals as goal

pub returns-then-has_lead : goal.returns-then-has_lead
returns-then-has_lead c = λ n small is. decimal_plain n (omega arith)
    (subst HasLead is (c.has_lead.ensures.0 c.if-has_lead.true))

pub returns : goal.returns
returns c = rw c.ok.ensures.value (number_from_parse c.args.digits.now c.parse.result c.parse.ensures.value.0
    (λ padded. let yes_padded = c.has_lead.ensures.1 padded in let no_padded = c.if-has_lead.false in cc))
