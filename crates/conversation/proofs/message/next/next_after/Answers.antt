use Rattle.std.proofs.Common.{◌≡◌, ◌∙◌, Ok, Err, ap, sym, length, arith}
use Rattle.std.proofs.lemmas.List.{length-drop, take_rest}
use Rattle.conversation.specs.message.Framing.{framing_of}
use Rattle.conversation.specs.message.Target.{path_of}
use Rattle.conversation.proofs.MessageLemmas.{framing_at, refused_ever, whole_at}
use Rattle.conversation.proofs.message.next.next_after.Goals as goal

pub returns : goal.returns
returns c =
    let input = c.args.input.now in
    let spans = c.args.spans in
    let f = c.in-Ok.framing in
    let framed : framing_of c.requires.head ≡ Ok f =
    sym (framing_at input c.args.fields.now spans _ c.requires c.of.ensures) ∙ sym c.framing_of.ensures ∙ c.in-Ok.is in
    let rest = take_rest input spans.len in
    record {
      begins = whole_at input c.args.fields.now spans f _ _ c.requires framed rest c.if-after-framing.false (c.path_of-target.ensures ∙ ap path_of c.of-2.ensures);
      len = omega (arith, c.if-after-framing.false, ap length rest, length-drop spans.len input);
    }

pub returns-in-Err : goal.returns-in-Err
returns-in-Err c =
    let input = c.args.input.now in
    let spans = c.args.spans in
    let faulty : framing_of c.requires.head ≡ Err c.in-Err.fault =
    sym (framing_at input c.args.fields.now spans _ c.requires c.of.ensures) ∙ sym c.framing_of.ensures ∙ c.in-Err.is in
    refused_ever input c.requires.head _ c.in-Err.fault c.requires.begins faulty
