use Rattle.std.proofs.Common.{◌∙◌, refl, sym}
use Rattle.desk_messages.proofs.SaleTextLemmas.{sale_text-made, sale_text-pieces}
use Rattle.desk_messages.proofs.reply.sale_text.sale_text.Goals as goal

pub returns : goal.returns
returns c =
    let pieces = sale_text-pieces c.args.sale.now _ _ _ _ _ _ _ _ _ _ _ _ _
    (c.from.ensures ∙ c.year.ensures)
    (c.from-2.ensures ∙ c.change.ensures)
    c.as_bytes.ensures.view
    c.seconds.ensures
    c.from-3.ensures
    c.as_bytes-2.ensures.view
    c.from-4.ensures
    c.as_bytes-3.ensures.view
    c.from-5.ensures
    (c.from-6.ensures ∙ c.cents.ensures.value)
    (c.from-7.ensures ∙ c.tenths.ensures.value)
    c.from-8.ensures
    refl in
    sale_text-made _ _ _ _ _ _ _ _ _ _ _ _ _
    _ _ _ _ _ _ _ _ _ _ _ _ _ _ _ _ _ _ _ _ _ _ _ _ _ _ _ _
    c.new-text.ensures
    c.put.ensures.items
    c.put_number.ensures.items
    c.put-2.ensures.items
    c.put_number-2.ensures.items
    c.put-3.ensures.items
    c.put-4.ensures.items
    c.put-5.ensures.items
    c.put_number-3.ensures.items
    c.put-6.ensures.items
    c.put_number-4.ensures.items
    c.put-7.ensures.items
    c.put-8.ensures.items
    c.put-9.ensures.items
    c.put_number-5.ensures.items
    c.put-10.ensures.items
    c.put-11.ensures.items
    c.put-12.ensures.items
    c.put_number-6.ensures.items
    c.put-13.ensures.items
    c.put_number-7.ensures.items
    c.put-14.ensures.items
    c.put_number-8.ensures.items
    c.put-15.ensures.items
    c.put_number-9.ensures.items
    c.put-16.ensures.items
    c.put-17.ensures.items
    c.put-18.ensures.items
    ∙ sym pieces
