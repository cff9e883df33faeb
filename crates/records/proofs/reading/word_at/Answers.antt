use Rattle.std.proofs.Common.{sym, true≢false}
use Rattle.records.proofs.FrontLemmas.{no_word}
use Rattle.records.proofs.reading.word_at.Goals as goal

pub returns-else-begins_with_stop : goal.returns-else-begins_with_stop
returns-else-begins_with_stop c =
    no_word c.args.text.now c.split_at.result.1.now c.word_len.result c.word_len.ensures.before c.word_len.ensures.found c.split_at.ensures.back
    (λ begins. true≢false (sym (c.if-begins_with_stop.ensures.1 begins)))
