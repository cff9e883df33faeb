use Rattle.std.proofs.Common.{◌≡◌, IfOk, refl, sym, ◌∙◌}
use Rattle.std.proofs.lemmas.Bool.{false≢true}
use Rattle.sqlite.specs.Held.{state}
use Rattle.office_rules.specs.Law.Store.{sales_above}
use Rattle.books.specs.Keeps.{seen}
use Rattle.books.proofs.ReadLemmas.{of_present, read_stopped, was_read}
use Rattle.books.proofs.books.Books.sales_after.Goals as goal

pub returns-then-self : goal.returns-then-self
returns-then-self g c = record {
  says = record { of_life = λ clean life keeps. tt; reads = read_stopped (λ why. ⊥) (seen c.args.self.now) c.if-self.true };
  idle = λ _. refl;
}

pub returns : goal.returns
returns g c =
    let old = seen c.args.self.now in
    let new = record old { state = state g.S.Store c.page-sales.new.conn; stopped = c.has_failed-self.result } in
    let sales = c.page-sales.result in
    let told = c.page-sales.ensures in
    record {
      says = record {
        of_life = λ clean life keeps. of_present (λ o. IfOk sales (λ sales. sales.items ≡ sales_above o c.args.number c.args.limit)) life old new
            c.if-self.false told.tells.clean told.given clean keeps;
        reads = was_read sales old new c.if-self.false refl (record { next = refl; last = refl; writes = refl }) (λ none. none) told.tells c.has_failed-self.ensures;
      };
      idle = λ was. absurd (false≢true (sym c.if-self.false ∙ was));
    }
