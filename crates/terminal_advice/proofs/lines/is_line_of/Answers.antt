use Rattle.std.proofs.Common.{◌∙◌, ◌++◌, [], ◌∷◌, None, Some, ap, codes}
use Rattle.std.specs.Prelude.{decimal}
use Rattle.std.proofs.lemmas.Bool.Decides.{Decides-eqb}
use Rattle.std.proofs.lemmas.Slice.Eq.{slice_eq-Decides, strip_prefix_is}
use Rattle.terminal_advice.proofs.LineLemmas.{name_decides, no_space, other_number}
use Rattle.terminal_advice.proofs.lines.is_line_of.Goals as goal

pub returns-in_default-strip_prefix : goal.returns-in_default-strip_prefix
returns-in_default-strip_prefix c = λ plain.
    other_number c.args.refusal c.args.line.now c.in-Some.rest.now c.as_bytes-number.result.now
    (strip_prefix_is Decides-eqb c.args.line.now (codes "refused ") (Some c.in-Some.rest) c.in-Some.ensures.cases)
    (c.as_bytes-number.ensures.value ∙ (c.format.ensures.text ∙ ap decimal c.number.ensures))
    (strip_prefix_is Decides-eqb c.in-Some.rest.now c.as_bytes-number.result.now None c.in_default-strip_prefix.ensures.cases)

pub returns-in_default-strip_prefix-2 : goal.returns-in_default-strip_prefix-2
returns-in_default-strip_prefix-2 c = λ plain.
    no_space c.args.refusal c.args.line.now c.in-Some.rest.now c.as_bytes-number.result.now c.in-Some-strip_prefix.rest.now
    (strip_prefix_is Decides-eqb c.args.line.now (codes "refused ") (Some c.in-Some.rest) c.in-Some.ensures.cases)
    (c.as_bytes-number.ensures.value ∙ (c.format.ensures.text ∙ ap decimal c.number.ensures))
    (strip_prefix_is Decides-eqb c.in-Some.rest.now c.as_bytes-number.result.now (Some c.in-Some-strip_prefix.rest) c.in-Some-strip_prefix.ensures.cases)
    (strip_prefix_is Decides-eqb c.in-Some-strip_prefix.rest.now (32 ∷ []) None c.in_default-strip_prefix-2.ensures.cases)

pub returns : goal.returns
returns c = λ plain.
    name_decides c.args.refusal c.args.line.now c.in-Some.rest.now c.as_bytes-number.result.now c.in-Some-strip_prefix-2.name.now
    c.as_bytes.result.now c.eq.result plain
    (strip_prefix_is Decides-eqb c.args.line.now (codes "refused ") (Some c.in-Some.rest) c.in-Some.ensures.cases)
    (c.as_bytes-number.ensures.value ∙ (c.format.ensures.text ∙ ap decimal c.number.ensures))
    (strip_prefix_is Decides-eqb c.in-Some.rest.now c.as_bytes-number.result.now (Some c.in-Some-strip_prefix.rest) c.in-Some-strip_prefix.ensures.cases
    ∙ ap (λ text. c.as_bytes-number.result.now ++ text)
    (strip_prefix_is Decides-eqb c.in-Some-strip_prefix.rest.now (32 ∷ []) (Some c.in-Some-strip_prefix-2.name) c.in-Some-strip_prefix-2.ensures.cases))
    (c.as_bytes.ensures.value ∙ c.name.ensures)
    (slice_eq-Decides Decides-eqb c.in-Some-strip_prefix-2.name.now c.as_bytes.result.now c.eq.result c.eq.ensures)
