use Rattle.desk_messages.proofs.ReplyLemmas.{are_parts}
use Rattle.std.proofs.Common.{◌≡◌, ◌++◌}
use Rattle.desk_messages.proofs.reply.text.head_and.Goals as goal

pub returns : goal.returns
returns c =
    let whole : c.extend_from_slice-2.new.self.items ≡ c.extend_from_slice.new.self.items ++ c.args.sent.now = c.in_ok-extend_from_slice-2.ensures.items in
    are_parts c.args.head c.args.len c.args.sent.now _ _ _ _ _ _ _ _
    c.in_ok-text.ensures.items
    c.in_ok-put_status.ensures
    c.in_ok-put_content.ensures
    c.in_ok-put_date.ensures
    c.in_ok-put_allowed.ensures
    c.in_ok-put_closing.ensures
    c.in_ok-extend_from_slice.ensures.items
    whole
