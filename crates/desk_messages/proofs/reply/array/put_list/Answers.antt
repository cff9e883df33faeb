use Rattle.records.proofs.ListLemmas.{item_more, items_begun, items_done}
use Rattle.desk_messages.proofs.reply.array.put_list.Goals as goal

pub loop-element-init : goal.loop-element-init
loop-element-init g c =
    items_begun g.T.Element.text_of c.args.elements.now _ _ c.in_ok-extend_from_slice.ensures.items

pub loop-element-preserved : goal.loop-element-preserved
loop-element-preserved g c =
    item_more g.T.Element.text_of c.loop-element.later c.args.elements.now c.loop-element.element-index c.element-item.result _ _ _ _
    c.loop-element-test.true c.element-item.is
    c.in_ok-put_between.ensures c.in_ok-put.ensures c.loop-element.invariant

pub returns : goal.returns
returns g c =
    items_done g.T.Element.text_of c.loop-element.later c.args.elements.now c.loop-element.element-index _ _ _ c.loop-element-test.false
    c.in_ok-extend_from_slice-2.ensures.items c.loop-element.invariant
