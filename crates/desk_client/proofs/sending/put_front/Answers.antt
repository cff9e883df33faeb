use Rattle.desk_client.proofs.PieceLemmas.{four_pieces}
use Rattle.desk_client.specs.Message.{front_lines}
use Rattle.desk_client.proofs.sending.put_front.Goals as goal

pub returns : goal.returns
unfolding front_lines
returns c =
    four_pieces c.args.text.now.items _ _ _ _ _ _ _ _
    (rw (c.as_bytes.ensures.value, c.word_of.ensures) at c.in_ok-extend_from_slice.ensures.items)
    c.in_ok-extend_from_slice-2.ensures.items
    c.in_ok-extend_from_slice-3.ensures.items
    c.in_ok-extend_from_slice-4.ensures.items
