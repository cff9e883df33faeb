use Rattle.std.proofs.Common.{◌≡◌, ℕ, ℤ, List, ◌++◌, ◌≤◌, ◌-◌, length, drop}
use Rattle.conversation.specs.Conversation.{Progress, interim_for}
use Rattle.conversation.specs.Ends.{WritesWhole}
use Rattle.conversation.specs.Exchanges.{clocked, timed}
use Rattle.conversation.specs.message.Messages.{IsTold}
use Rattle.conversation.specs.Parts.{MayOfferBehind}
use Rattle.conversation.proofs.conversation.answer_all.Given as goal

-- the messages before the place were answered, and this was written for them and for the next one
abbrev pub invariant-messages : goal.invariant-messages
invariant-messages g l = record {
  within : l.len ≤ length l.input;
  text : List ℕ;
  whole : List ℕ;
  wrote : WritesWhole (MayOfferBehind (clocked (g.C.Clock.reads l.fn.clock) g.S.Service.step) g.S.Service.refusal (interim_for l.told)
      (l.fn.office, g.C.Clock.answers l.fn.clock) l.input) (g.W.Write.contents l.fn.writer, g.L.Line.uses l.fn.line)
      (g.W.Write.contents l.writer, g.L.Line.uses l.line) text;
  stays : (given : ℤ) → g.C.Clock.reads l.clock given → g.C.Clock.reads l.fn.clock given;
  progress : Progress (timed (clocked (g.C.Clock.reads l.fn.clock) g.S.Service.step)) l.input (drop l.len l.input)
      (l.fn.office, g.C.Clock.answers l.fn.clock) whole (l.office, g.C.Clock.answers l.clock);
  was : IsTold (drop l.len l.input) l.was_told;
  said : interim_for l.told ++ text ≡ whole ++ interim_for l.was_told;
}

abbrev pub decreases-messages : goal.decreases-messages
decreases-messages g l = length l.input - l.len
