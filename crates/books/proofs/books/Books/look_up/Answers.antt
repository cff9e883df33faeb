use Rattle.std.proofs.Common.{Ok, Result, ap, inr, refl, subst, sym, ◌∙◌}
use Rattle.std.proofs.lemmas.Bool.{false≢true}
use Rattle.sqlite.specs.Held.{state}
use Rattle.office_rules.specs.declared.decision.refusal.Refusal.{Refusal}
use Rattle.book_facts.specs.Looking.{TellsTables}
use Rattle.book_facts.specs.Lookups.{IsOfRules}
use Rattle.book_facts.specs.LookupsSeen.{IsFoundSeen, LookupSpoilt}
use Rattle.book_states.specs.Health.{IsHealthOf}
use Rattle.book_states.specs.declared.lookup.Found.{Found}
use Rattle.book_states.specs.declared.lookup.Found.TheVariants as variants
use Rattle.book_states.specs.declared.lookup.Health.{Health}
use Rattle.books.specs.Keeps.{seen}
use Rattle.books.proofs.KnownLemmas.{not_failed, same_books}
use Rattle.books.proofs.ReadLemmas.{found_here, read_stopped, was_read}
use Rattle.books.proofs.books.Books.look_up.Goals as goal

pub returns-then-self : goal.returns-then-self
returns-then-self g c = record {
  says = record {
    of_life = λ clean life keeps. inr (inr (inr refl));
    reads = read_stopped IsOfRules (seen c.args.self.now) c.if-self.true;
  };
  idle = λ _. refl;
  health = λ is runs. absurd (false≢true (sym runs ∙ c.if-self.true));
}

pub returns : goal.returns
returns g c =
    let old = seen c.args.self.now in
    let new = record old { state = state g.S.Store c.look_up-found.new.conn; stopped = c.has_failed-self.result } in
    let lookup = c.args.lookup.now in
    let found = c.look_up-found.result in
    let told = c.look_up-found.ensures in
    let known = c.health-health.ensures in
    record {
      says = record {
        of_life = λ clean life keeps.
            let kept = keeps (told.tells.clean clean) in
            found_here life old c.args.moment lookup found (kept.running c.if-self.false)
            (λ o at health. told.found clean o at (subst (IsHealthOf o) (sym known) health));
        reads = was_read found old new c.if-self.false refl (record { next = refl; last = refl; writes = refl })
            (λ own. own.not_stopped refl)
            (subst (λ health. TellsTables IsOfRules (IsFoundSeen health c.args.moment lookup) (LookupSpoilt c.args.moment lookup) old.state new.state found)
            known told.tells) c.has_failed-self.ensures;
      };
      idle = λ was. absurd (false≢true (sym c.if-self.false ∙ was));
      health = λ is runs.
          let unread = told.unread is in
          let goes = not_failed c.has_failed-self.result found (variants.Health c.health-health.result) unread.0 c.has_failed-self.ensures in (
            unread.0 ∙ ap (λ (health : Health). let given : Result Found Refusal = Ok (variants.Health health) in given) known,
            same_books c.args.self.now c.look_up-found.new.conn c.has_failed-self.result _ unread.1 (goes ∙ sym runs),
          );
    }
