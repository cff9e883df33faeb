use Rattle.desk_messages.proofs.PageLemmas.{tariff-made}
use Rattle.desk_messages.proofs.reply.pages.ListedTariffElement.put.Goals as goal

pub returns : goal.returns
returns c =
    tariff-made c.args.self.now _ _ _ _ _ _ _ _ _ _
    c.deref.ensures.value
    c.as_bytes.ensures.view
    c.in_ok-extend_from_slice.ensures.items
    c.in_ok-put_list.ensures
    c.in_ok-extend_from_slice-2.ensures.items
    c.in_ok-extend_from_slice-3.ensures.items
    c.in_ok-extend_from_slice-4.ensures.items
    c.in_ok-put_steps.ensures.text
    c.in_ok-extend_from_slice-5.ensures.items
