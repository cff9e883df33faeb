-- What `front_of` says of an input.
use Rattle.std.specs.Prelude.{ℕ, List, drop}
use Rattle.httparse.specs.Grammar.{RequestHead}
use Rattle.httparse.specs.Spans.{IsRequestWithin, IsRequestAt}
use Rattle.httparse.specs.declared.spans.HeaderSpan.{HeaderSpan}
use Rattle.httparse.specs.declared.spans.RequestSpans.{RequestSpans}
use Rattle.conversation.specs.declared.message.head.Front.{Front}
use Rattle.conversation.specs.declared.message.head.Front.TheVariants.{Head, Partial, Never}
use Rattle.conversation.specs.message.Heads.{BeginsWithHead, NeverHasHead, AwaitsHead}

-- the input begins with a head, and the spans are those of its parts
pub record IsHeadAt
    (input : List ℕ) (fields : List HeaderSpan) (spans : RequestSpans) : Type 0 where
  pub head : RequestHead
  pub begins : BeginsWithHead input head (drop spans.len input)
  pub parts : IsRequestAt input fields spans head
  pub within : IsRequestWithin input fields spans

-- what each answer says
abbrev pub IsFront : List ℕ → List HeaderSpan → Front → Type 0
IsFront input fields (Head spans) = IsHeadAt input fields spans
IsFront input fields Partial = AwaitsHead input
IsFront input fields Never = NeverHasHead input
