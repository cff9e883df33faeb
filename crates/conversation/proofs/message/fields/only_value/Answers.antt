use Rattle.std.proofs.Common.{◌≡◌, ◌<◌, true, get_or, take, drop, suc, length}
use Rattle.httparse.specs.Spans.{header_bytes}
use Rattle.conversation.specs.message.Fields.{fields_at, is_named, values_of}
use Rattle.conversation.proofs.FieldLemmas.{no_span, values_of-at, some_found, more_than_one}
use Rattle.conversation.proofs.message.fields.only_value.Goals as goal

pub returns-in_default : goal.returns-in_default
returns-in_default c =
    let input = c.args.input.now in
    let spans = c.args.spans.now in
    let name = c.args.name.now in
    let i = c.loop-field.field-index in
    let field = header_bytes input (get_or spans i no_span) in
    let named : is_named name field ≡ true = cc in
    let before = values_of name (fields_at input (take i spans)) in
    let after = values_of name (fields_at input (drop (suc i) spans)) in
    let some : 0 < length before = some_found before c.loop-field.only c.loop-field.invariant c.in_default.not-Absent in
    rw (values_of-at name input spans i no_span c.loop-field-test.true named) (more_than_one before after field.1 some)
