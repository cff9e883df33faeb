use Rattle.std.proofs.Common.{◌≡◌, true, ◌++◌, ◌∷◌, [], ◌+◌, take, take_all, refl, ap, sym, subst, ◌∙◌, arith}
use Rattle.std.proofs.lemmas.List.{take_more}
use Rattle.book_states.proofs.OthersLemmas.{others_same}
use Rattle.books.specs.InTurn.{ServeInTurn}
use Rattle.books.specs.Keeps.{seen}
use Rattle.books.proofs.AlongLemmas.{HaveServed, served_more, served_none, served_on}
use Rattle.books.proofs.books.Books.serve_all.Goals as goal

pub loop-at-init : goal.loop-at-init
loop-at-init g c = record {
  served = subst (HaveServed (seen c.args.self.now) (seen c.args.self.now) []) (sym c.in_ok-replies.ensures.items)
      (served_none (seen c.args.self.now) c.life_law.ensures.along_none);
  each = rw c.in_ok-replies.ensures.items refl;
  room = c.in_ok-replies.ensures.capacity;
  filled = c.in_ok-replies.ensures.len;
  idle = λ _. refl;
}

pub loop-at-preserved : goal.loop-at-preserved
loop-at-preserved g c =
    let old = seen c.args.self.now in
    let mid = seen c.loop-at.self in
    let new = seen c.serve-reply.new.self in
    let so_far = c.loop-at.invariant in
    let ats = take c.loop-at.at-index c.args.ats.now in
    let replies = c.loop-at.replies.items in
    let at = c.at-item.result in
    let more : take (c.loop-at.at-index + 1) c.args.ats.now ≡ ats ++ at ∷ [] =
    take_more c.args.ats.now c.loop-at.at-index at (omega arith) ∙ ap (λ x. ats ++ x ∷ []) (sym c.at-item.is) in record {
      served = rw (more, c.push_reserved.ensures.items)
          (served_more old mid new ats replies at c.serve-reply.result so_far.served
          (λ life. c.life_law.ensures.along_one life ats replies at c.serve-reply.result) c.serve-reply.ensures.says.keeps
          c.serve-reply.ensures.says.tables c.serve-reply.ensures.says.others
          c.serve-reply.ensures.says.clean c.serve-reply.ensures.says.stopped c.serve-reply.ensures.says.stops);
      each = rw (more, c.push_reserved.ensures.items)
          (served_on seen c.args.self.now c.loop-at.self c.serve-reply.new.self ats replies at c.serve-reply.result so_far.each
          c.serve-reply.ensures.says);
      room = omega (arith, so_far.room, c.push_reserved.ensures.capacity);
      filled = omega (arith, so_far.filled, c.push_reserved.ensures.len);
      idle = λ stopped. let still : c.loop-at.self.stopped ≡ true = rw (so_far.idle stopped) stopped in c.serve-reply.ensures.idle still ∙ so_far.idle stopped;
    }

pub returns-in_err-replies-clause-leaves : goal.returns-in_err-replies-clause-leaves
returns-in_err-replies-clause-leaves g c = record {
  says = record { tables = λ has. has; others = λ _ _. others_same (seen c.args.self.now).state; clean = λ clean. clean };
  idle = λ _. refl;
}

pub returns-clause-served : goal.returns-clause-served
returns-clause-served g c =
    let so_far = c.loop-at.invariant in
    let all = take_all c.loop-at.at-index c.args.ats.now c.loop-at-test.false in
    subst (λ ats. ServeInTurn ats c.loop-at.replies.items c.args.self.now c.loop-at.self) all (record {
      count = so_far.served.count;
      served = so_far.each;
      keeps = so_far.served.keeps;
      stops = so_far.served.stops;
    })

pub returns-clause-leaves : goal.returns-clause-leaves
returns-clause-leaves g c =
    let so_far = c.loop-at.invariant in
    record {
      says = record { tables = so_far.served.tables; others = so_far.served.others; clean = so_far.served.clean };
      idle = so_far.idle;
    }
