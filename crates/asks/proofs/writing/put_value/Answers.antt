use Rattle.sts_token.specs.Digits.{digits_text}
use Rattle.sts_token.proofs.KeyLemmas.{key_within, one_key_text, written_key}
use Rattle.asks.proofs.WritingLemmas.{added}
use Rattle.asks.proofs.writing.put_value.Goals as goal

pub returns-in-Key : goal.returns-in-Key
returns-in-Key c =
    let key = c.in-Key.key in
    let written = written_key key (key_within key c.key_text.result c.key_text.ensures) in
    let digits = one_key_text key c.key_text.result (digits_text 16 16 key) c.key_text.ensures written in
    rw c.in-Key.is (added c.extend_from_slice.result c.extend_from_slice.new.self.items c.args.text.now.items c.key_text.result (digits_text 16 16 key)
    c.extend_from_slice.ensures.items digits)
