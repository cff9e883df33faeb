use Rattle.std.proofs.Common.{◌≡◌, ℤ, List}
use Rattle.conversation.specs.Exchanges.{clocked}
use Rattle.conversation.specs.Uses.{AreOpen, Use, least_read, reads_in, received, window_behind, written}
use Rattle.conversation.proofs.RunLemmas.{Answered, Used}
use Rattle.conversation.proofs.conversation.run.Given as goal

-- of what was read all whole messages were answered, and this is left of it
abbrev pub invariant-reads : goal.invariant-reads
invariant-reads g l = record {
  uses : List Use;
  stays : (given : ℤ) → g.C.Clock.reads l.clock given → g.C.Clock.reads l.fn.clock given;
  used : Used (clocked (g.C.Clock.reads l.fn.clock) g.S.Service.step) g.S.Service.refusal (l.fn.office, g.C.Clock.answers l.fn.clock) (g.L.Line.uses l.fn.line)
      (g.L.Line.uses l.line)
      (g.R.Read.remaining l.fn.reader) (g.R.Read.remaining l.reader) (g.W.Write.contents l.fn.writer) (g.W.Write.contents l.writer) uses;
  still_open : AreOpen uses;
  answered : Answered (clocked (g.C.Clock.reads l.fn.clock) g.S.Service.step) (l.fn.office, g.C.Clock.answers l.fn.clock)
      (received uses) (written uses) l.unanswered.bytes.items l.wants (l.office, g.C.Clock.answers l.clock);
  counted : reads_in uses ≡ l.made;
  window : l.unanswered.window ≡ window_behind least_read uses;
}
