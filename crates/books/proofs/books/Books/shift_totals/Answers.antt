use Rattle.std.proofs.Common.{◌≡◌, refl, sym, ◌∙◌}
use Rattle.std.proofs.lemmas.Bool.{false≢true}
use Rattle.sqlite.specs.Held.{state}
use Rattle.office_rules.specs.declared.decision.refusal.Refusal.TheVariants.{NoSuchShift}
use Rattle.book_facts.specs.Totals.{AreTotalsIn}
use Rattle.books.specs.Keeps.{seen}
use Rattle.books.proofs.ReadLemmas.{of_present, read_stopped, was_read}
use Rattle.books.proofs.books.Books.shift_totals.Goals as goal

pub returns-then-self : goal.returns-then-self
returns-then-self g c = record {
  says = record {
    of_life = λ clean life keeps is. absurd cc;
    reads = read_stopped (λ why. why ≡ NoSuchShift) (seen c.args.self.now) c.if-self.true;
  };
  idle = λ _. refl;
}

pub returns : goal.returns
returns g c =
    let old = seen c.args.self.now in
    let new = record old { state = state g.S.Store c.totals-totals.new.conn; stopped = c.has_failed-self.result } in
    let totals = c.totals-totals.result in
    let told = c.totals-totals.ensures in
    record {
      says = record {
        of_life = λ clean life keeps. of_present (λ o. AreTotalsIn o c.args.number totals) life old new c.if-self.false told.tells.clean told.given
            clean keeps;
        reads = was_read totals old new c.if-self.false refl (record { next = refl; last = refl; writes = refl }) (λ is. absurd cc) told.tells
            c.has_failed-self.ensures;
      };
      idle = λ was. absurd (false≢true (sym c.if-self.false ∙ was));
    }
