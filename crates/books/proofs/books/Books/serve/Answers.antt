use Rattle.std.proofs.Common.{rules, ap, refl, sym, subst, ◌∙◌}
use Rattle.std.proofs.lemmas.Bool.{false≢true}
use Rattle.books.specs.Keeps.{seen}
use Rattle.books.specs.Serving.{ServingEnds}
use Rattle.book_states.proofs.OthersLemmas.{others_same, tables_stay}
use Rattle.books.proofs.ServeLemmas.{GoesOnWith, failures_on, granted_on, kept_attempted, kept_stopped, stops_on, with_stopped}
use Rattle.books.proofs.books.Books.serve.Goals as goal

pub returns-then-self : goal.returns-then-self
returns-then-self g c =
    let old = seen c.args.self.now in
    let at = c.args.at.now in
    record {
      says = record {
        keeps = λ life keeps clean.
            let kept = keeps clean in
            kept_stopped life at old (c.life_law.ensures.stopped life at kept.is_life c.keeps_ranges.ensures)
            (c.life_law.ensures.stays life at) c.if-self.true kept;
        tables = λ has. has;
        others = λ clean has. others_same old.state;
        clean = λ clean. clean;
        granted = search rules;
        failures = search rules;
        stopped = search rules;
        stops = search rules;
      };
      idle = λ _. refl;
    }

pub returns : goal.returns
returns g c =
    let now = c.args.self.now in
    let at = c.args.at.now in
    let law = c.life_law.ensures in
    let old = seen now in
    let mid = seen c.attempt-reply.new.self in
    let answer = c.attempt-reply.result in
    let tried = c.attempt-reply.ensures in
    record {
      says = record {
        keeps = λ life keeps clean.
            let kept = keeps (tried.clean clean) in
            let here = kept.running c.if-self.false in
            let o = here.present in
            let stamped = c.keeps_ranges.ensures in
            let laws : GoesOnWith life o at = record {
              served = law.served life o at here.running stamped;
              no_memory = law.no_memory life o at here.running stamped;
              failed = law.failed life o at here.running stamped;
              doubted = λ p. law.doubted life o p at here.running stamped;
              alone = law.running;
            } in
            let attempts = tried.attempts clean o (record { at = here.at; next = here.next; last = here.last }) in
            let ends = subst (λ f. ServingEnds f o at answer mid) (sym kept.forward) attempts in
            let forward = kept.forward ∙ ap g.T.BlockTransform.forwards (sym tried.transform) in
            kept_attempted life o at answer (record mid { stopped = c.has_failed-self.result }) laws kept.opening forward
            (with_stopped life.forward o at answer mid c.has_failed-self.result ends) c.has_failed-self.ensures.1;
        tables = λ has clean runs.
            let before = has (tried.clean clean) c.if-self.false in
            tables_stay old.state mid.state (tried.others clean before) before;
        others = λ clean has. tried.others clean (has (tried.clean clean) c.if-self.false);
        clean = tried.clean;
        granted = λ clean has runs. granted_on at answer old mid c.has_failed-self.result (tried.granted clean (has (tried.clean clean) runs));
        failures = λ clean has runs. failures_on at answer old mid c.has_failed-self.result (tried.failures clean (has (tried.clean clean) runs));
        stopped = search rules;
        stops = stops_on c.has_failed-self.result answer c.has_failed-self.ensures tried.never_stopped;
      };
      idle = λ was. absurd (false≢true (sym c.if-self.false ∙ was));
    }
