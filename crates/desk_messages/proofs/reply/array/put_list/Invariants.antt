use Rattle.std.proofs.Common.{◌≡◌, ◌++◌, drop, map}
use Rattle.records.specs.List.{list_text}
use Rattle.records.proofs.ListLemmas.{items_rest}
use Rattle.desk_messages.proofs.reply.array.put_list.Given as goal

-- what was added so far, before what is still to be added
abbrev pub invariant-loop-element : goal.invariant-loop-element
invariant-loop-element g l = l.text.items ++ items_rest g.T.Element.text_of l.later (drop l.element-index l.elements)
    ≡ l.fn.text.items ++ list_text (map g.T.Element.text_of l.elements)
