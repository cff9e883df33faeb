use Rattle.std.proofs.Common.{◌≡◌, ◌≤◌, true, length, take, vec_capacity, vec_len}
use Rattle.books.specs.Asking.{AreServedInTurn}
use Rattle.books.specs.Keeps.{seen}
use Rattle.books.proofs.AlongLemmas.{HaveServed}
use Rattle.books.proofs.books.Books.serve_all.Given as goal

abbrev pub invariant-loop-at : goal.invariant-loop-at
invariant-loop-at g l = record {
  served : HaveServed (seen l.fn.self) (seen l.self) (take l.at-index l.ats) l.replies.items;
  each : AreServedInTurn seen l.fn.self (take l.at-index l.ats) l.replies.items l.self;
  room : length l.ats ≤ vec_capacity l.replies;
  filled : vec_len l.replies ≡ l.at-index;
  idle : l.fn.self.stopped ≡ true → l.self ≡ l.fn.self;
}
