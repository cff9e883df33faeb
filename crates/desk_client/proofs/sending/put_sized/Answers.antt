use Rattle.desk_client.proofs.PieceLemmas.{sized_pieces}
use Rattle.desk_client.specs.Message.{length_line}
use Rattle.desk_client.proofs.sending.put_sized.Goals as goal

pub returns : goal.returns
unfolding length_line
returns c =
    sized_pieces c.args.text.now.items _ _ _ _ _ _ _
    c.in_ok-extend_from_slice.ensures.items
    (rw (c.as_bytes.ensures.value, c.format.ensures.text) at c.in_ok-extend_from_slice-2.ensures.items)
    c.in_ok-extend_from_slice-3.ensures.items
    c.in_ok-extend_from_slice-4.ensures.items
