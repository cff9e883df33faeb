use Rattle.std.proofs.Common.{◌∙◌, sym, subst, true≢false}
use Rattle.records.specs.Front.{BeginsWithStop}
use Rattle.records.proofs.FrontLemmas.{one_text}
use Rattle.records.proofs.reading.quoted_at.Goals as goal

pub returns-else-begins_with_stop : goal.returns-else-begins_with_stop
returns-else-begins_with_stop c = λ bytes rest plain begins e.
    let found = c.in-Some.ensures in
    let same = one_text c.in-Some.bytes.now bytes c.in-Some.rest.now rest found.0 plain (sym found.1 ∙ e) in
    true≢false (sym (c.if-begins_with_stop.ensures.1 (subst BeginsWithStop (sym same.1) begins)))
