use Rattle.std.proofs.Common.{◌≡◌, arith, length, rules, IsTrue, ap, inl, inr, subst, Err}
use Rattle.sqlite.specs.Held.{state}
use Rattle.book_states.proofs.FailingLemmas.{told_of_read}
use Rattle.book_states.proofs.StayLemmas.{clean_before, left_same}
use Rattle.book_states.specs.FactsSeen.{AreFactsSeen}
use Rattle.book_states.specs.Failing.{AreRead}
use Rattle.book_facts.proofs.DecidedLemmas.{granted_by_facts, refused_by_facts}
use Rattle.book_facts.proofs.decisions.decision_of.Goals as goal

pub returns-in-Ok-clause-decides : goal.returns-in-Ok-clause-decides
returns-in-Ok-clause-decides g c clean o at next =
    let count : c.saturating_sub.result ≡ length o.sales = omega (arith, c.saturating_sub.ensures, next) in
    let decided = c.decided_by.ensures.decided o (c.in-Ok.ensures.facts clean o at.office at.members count) in
    elim decided [ inl is ↦ inl is | inr none ↦ inr (inl none) ]

pub returns-in-Ok-clause-nothing : goal.returns-in-Ok-clause-nothing
returns-in-Ok-clause-nothing g c clean tables = record { same = c.in-Ok.ensures.reads.same clean tables; survives = c.facts_of.ensures.reads.survives tables }

pub returns-in-Err-clause-decides : goal.returns-in-Err-clause-decides
returns-in-Err-clause-decides g c clean o at next =
    inr (elim c.refusal_of.ensures.either [ inl memory ↦ inl (ap (λ r. Err r) memory) | inr failed ↦ inr (ap (λ r. Err r) failed) ])

pub returns-in-Err-clause-nothing : goal.returns-in-Err-clause-nothing
returns-in-Err-clause-nothing g c clean tables =
    let old = state g.S.Store c.args.conn.now in
    let new = state g.S.Store c.facts_of.new.conn in
    let outside : IsTrue c.is_autocommit-settled.result = search rules in record {
      same = left_same old new (c.is_autocommit-settled.ensures.settled outside) (c.in-Err.ensures.reads.kept clean tables);
      survives = c.facts_of.ensures.reads.survives tables;
    }

pub returns-in-Ok-clause-clean : goal.returns-in-Ok-clause-clean
returns-in-Ok-clause-clean g c = clean_before (state g.S.Store c.args.conn.now) (state g.S.Store c.facts_of.new.conn) _
    (g.met.S.Store.shut_if_dirty c.args.conn.now.store) c.facts_of.ensures.reads.survives

pub returns-in-Err-clause-clean : goal.returns-in-Err-clause-clean
returns-in-Err-clause-clean g c = clean_before (state g.S.Store c.args.conn.now) (state g.S.Store c.facts_of.new.conn) _
    (g.met.S.Store.shut_if_dirty c.args.conn.now.store) c.facts_of.ensures.reads.survives

pub returns-in-Ok-clause-failures : goal.returns-in-Ok-clause-failures
returns-in-Ok-clause-failures g c clean tables =
    let at = c.args.at.now in
    let old = state g.S.Store c.args.conn.now in
    let forward = g.T.BlockTransform.forwards c.args.transform.now in
    let read : AreRead at c.args.next_number old c.in-Ok.facts = record {
      of_office = λ o office members next. c.in-Ok.ensures.facts clean o office members (omega (arith, c.saturating_sub.ensures, next));
      seen = λ has count next.
          let is : c.saturating_sub.result ≡ count = omega (arith, c.saturating_sub.ensures, next) in
          subst (λ n. AreFactsSeen n at old.now c.in-Ok.facts) is (c.in-Ok.ensures.shown clean has);
    } in
    refused_by_facts forward at c.args.next_number old (state g.S.Store c.facts_of.new.conn) c.in-Ok.facts read c.decided_by.result
    (c.decided_by.ensures.exact, c.decided_by.ensures.decided) c.decided_by.ensures.no_store.0

pub returns-in-Err-clause-failures : goal.returns-in-Err-clause-failures
returns-in-Err-clause-failures g c clean tables =
    inl (told_of_read (state g.S.Store c.args.conn.now) (state g.S.Store c.facts_of.new.conn) c.in-Err.error c.refusal_of.result
    c.refusal_of.ensures.value (c.in-Err.ensures.reads.faults clean tables) (c.in-Err.ensures.spoilt clean tables) clean
    (c.facts_of.ensures.reads.survives tables))

pub returns-in-Ok-clause-read : goal.returns-in-Ok-clause-read
returns-in-Ok-clause-read g c clean =
    let at = c.args.at.now in
    let old = state g.S.Store c.args.conn.now in
    let forward = g.T.BlockTransform.forwards c.args.transform.now in
    let read : AreRead at c.args.next_number old c.in-Ok.facts = record {
      of_office = λ o office members next. c.in-Ok.ensures.facts clean o office members (omega (arith, c.saturating_sub.ensures, next));
      seen = λ has count next.
          let is : c.saturating_sub.result ≡ count = omega (arith, c.saturating_sub.ensures, next) in
          subst (λ n. AreFactsSeen n at old.now c.in-Ok.facts) is (c.in-Ok.ensures.shown clean has);
    } in
    granted_by_facts forward at c.args.next_number old (state g.S.Store c.facts_of.new.conn) c.in-Ok.facts read c.decided_by.result
    (c.decided_by.ensures.exact, c.decided_by.ensures.decided) c.decided_by.ensures.prior
