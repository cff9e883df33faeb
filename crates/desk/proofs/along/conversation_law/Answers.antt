use Rattle.desk.proofs.OneLemmas.{one_conversation, same_exchanges}
use Rattle.desk.proofs.along.conversation_law.Goals as goal

pub returns : goal.returns
returns c stop input xs ys e f served others x y moments a b outcomes =
    let messages = c.message_law.ensures stop input _ _ e f x y in
    let same = same_exchanges c.meaning_law.ensures.one xs ys served others messages.0 moments a b outcomes in
    one_conversation stop xs ys e f served others same.0 same.1 messages.1
