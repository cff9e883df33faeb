use Rattle.office_rules.proofs.NameLemmas.ShortTextLemmas.{put_in_room}
use Rattle.office_rules.proofs.name.short_text.ShortText.new.Goals as goal

pub invariant_of-result : goal.invariant_of-result
invariant_of-result g c = rw c.copy_from_slice.ensures.after (put_in_room g.row.N c.args.text.now c.requires)
