use Rattle.std.proofs.Common.{◌≡◌, ◌+◌, ◌-◌, ◌^◌, ◌<◌, false, length, Option, None, Some, ap, arith, inl, inr, refl, subst, sym, ◌∙◌}
use Rattle.sqlite.specs.Held.{state}
use Rattle.office_rules.specs.Office.{IsOffice}
use Rattle.office_rules.specs.declared.decision.change.Edit.{Edit}
use Rattle.books.specs.Keeps.{Seen, seen}
use Rattle.books.specs.Serving.{IsDecidedFor, IsMade, failed_after, moment_after, sales_added}
use Rattle.office_rules.specs.Decision.Edits.{applied}
use Rattle.books.proofs.AttemptLemmas.{committed_ends, failed_ends, handed_on, is_applied, is_decision, moment_goes, refused_ends, sales_grow, unchanged_ends}
use Rattle.book_facts.proofs.FactsLemmas.{none_of}
use Rattle.book_edits.proofs.CommitLemmas.{commits_others, counted_after, fails_after, has_after}
use Rattle.book_states.proofs.OthersLemmas.{nothing_others, others_then, tables_stay}
use Rattle.book_states.proofs.StayLemmas.{has_tables, still_held}
use Rattle.books.proofs.books.Books.attempt.Goals as goal
use Rattle.books.proofs.books.Books.attempt.Goals.{in-Some+in-Ok, in_default}

pub returns-in_err-decided-clause-attempts : goal.returns-in_err-decided-clause-attempts
returns-in_err-decided-clause-attempts g c clean o held =
    let now = c.args.self.now in
    let forward = g.T.BlockTransform.forwards now.transform in
    let old = seen now in
    let new = record old { state = state g.S.Store c.decision_of.new.conn } in
    let nothing = c.decision_of.ensures.nothing clean (has_tables o old.state held.at) in
    let same = handed_on c.from_residual.result c.in_err-decided.field-0.0 c.from_residual.ensures.1 in
    rw same (refused_ends forward o c.args.at.now c.in_err-decided.field-0.0 old new held
    (c.in_err-decided.ensures.decides clean o held.at held.next) clean nothing (record { next = refl; last = refl; writes = refl }))

pub returns-in_err-decided-clause-others : goal.returns-in_err-decided-clause-others
returns-in_err-decided-clause-others g c clean tables =
    nothing_others (state g.S.Store c.args.self.now.conn) (state g.S.Store c.decision_of.new.conn) clean (c.decision_of.ensures.nothing clean tables)

pub returns-in-Err-clause-attempts : goal.returns-in-Err-clause-attempts
returns-in-Err-clause-attempts g c clean o held =
    let now = c.args.self.now in
    let forward = g.T.BlockTransform.forwards now.transform in
    let range = g.met.T.BlockTransform.forward_range now.transform in
    let at = c.args.at.now in
    let change = c.in_ok-decided.decided.change in
    let mid = state g.S.Store c.decision_of.new.conn in
    let early = c.commit.ensures.clean clean in
    let decided = c.in_ok-decided.ensures.decides early o held.at held.next in
    let is = is_decision forward o at change decided in
    let old = seen now in
    let new = record old { state = state g.S.Store c.commit.new.conn; write_failed = c.failed_after-self.result } in
    let tables = has_tables o old.state held.at in
    let here = still_held o old.state mid early held.at (c.decision_of.ensures.nothing early tables) in
    let meets = c.store_law.ensures.meets forward o at change c.in-Some.edit held.at.office c.requires.stamped range is c.in-Some.is in
    let after = is_applied forward o at change decided new c.in-Some.edit c.in-Some.is in
    let office = subst IsOffice after (c.office_law.ensures.keeps_office forward o at held.at.office c.requires.stamped range) in
    let commits = c.in-Err.ensures.commits clean (has_tables o mid here) in
    failed_ends forward o at change decided new c.in-Some.edit c.in-Some.is mid here meets office c.in_ok-decided.decided.prior
    c.in-Err.refusal clean commits held.next held.last

pub returns-in-Err-clause-others : goal.returns-in-Err-clause-others
returns-in-Err-clause-others g c clean tables =
    let old = state g.S.Store c.args.self.now.conn in
    let mid = state g.S.Store c.decision_of.new.conn in
    let new = state g.S.Store c.commit.new.conn in
    let early = c.commit.ensures.clean clean in
    let first = nothing_others old mid early (c.decision_of.ensures.nothing early tables) in
    others_then old mid new first (commits_others c.in-Some.edit c.in_ok-decided.decided.prior _ mid new clean
    (c.in-Err.ensures.commits clean (tables_stay old mid first tables)))

pub returns-clause-attempts : goal.returns-clause-attempts
returns-clause-attempts g c clean o held =
    let now = c.args.self.now in
    let forward = g.T.BlockTransform.forwards now.transform in
    let range = g.met.T.BlockTransform.forward_range now.transform in
    let at = c.args.at.now in
    let change = c.in_ok-decided.decided.change in
    let mid = state g.S.Store c.decision_of.new.conn in
    let old = seen now in
    let tables = has_tables o old.state held.at in
    elim c.match-decided.branch [
      | in-Some+in-Ok w ↦
          let late = rw w.self-is at clean in
          let early = w.commit.ensures.clean late in
          let new = record old {
            state = state g.S.Store w.commit.new.conn;
            next_number = w.next_after-self.result;
            last_moment = w.moment_after-self.result;
            write_failed = false;
          } in
          let decided = c.in_ok-decided.ensures.decides early o held.at held.next in
          let is = is_decision forward o at change decided in
          let edit = w.in-Some.edit in
          let here = still_held o old.state mid early held.at (c.decision_of.ensures.nothing early tables) in
          let meets = c.store_law.ensures.meets forward o at change edit held.at.office c.requires.stamped range is w.in-Some.is in
          let after = is_applied forward o at change decided new edit w.in-Some.is in
          let office = subst IsOffice after (c.office_law.ensures.keeps_office forward o at held.at.office c.requires.stamped range) in
          let commits = w.in-Ok.ensures.commits late (has_tables o mid here) in
          let fits : old.next_number < 2 ^ 64 - 1 = omega (arith, held.next, held.at.office.sale_count) in
          let next : w.next_after-self.result ≡ length (applied edit o).sales + 1 =
          omega (arith, w.next_after-self.ensures fits, sales_grow edit o, held.next) in
          let last = w.moment_after-self.ensures ∙ ap (moment_after (Some edit)) held.last ∙ sym (moment_goes edit o) in
          rw w.self-is (committed_ends forward o at change decided new edit w.in-Some.is mid here meets office c.in_ok-decided.decided.prior commits next last)
      | in_default w ↦
          let late = rw w.self-is at clean in
          let new = record old { state = mid } in
          let decided = c.in_ok-decided.ensures.decides late o held.at held.next in
          let here = still_held o old.state mid late held.at (c.decision_of.ensures.nothing late tables) in
          rw w.self-is (unchanged_ends forward o at change decided new (none_of change.edit w.in_default.not-Some) (record { at = here; next = held.next; last = held.last }))
    ]

pub returns-clause-others : goal.returns-clause-others
returns-clause-others g c clean tables =
    let old = state g.S.Store c.args.self.now.conn in
    let mid = state g.S.Store c.decision_of.new.conn in
    elim c.match-decided.branch [
      | in-Some+in-Ok w ↦
          let late = rw w.self-is at clean in
          let early = w.commit.ensures.clean late in
          let new = state g.S.Store w.commit.new.conn in
          let first = nothing_others old mid early (c.decision_of.ensures.nothing early tables) in
          rw w.self-is (others_then old mid new first (commits_others w.in-Some.edit c.in_ok-decided.decided.prior _ mid new late
          (w.in-Ok.ensures.commits late (tables_stay old mid first tables))))
      | in_default w ↦
          let late = rw w.self-is at clean in
          rw w.self-is (nothing_others old mid late (c.decision_of.ensures.nothing late tables))
    ]

pub returns-in_err-decided-clause-failures : goal.returns-in_err-decided-clause-failures
returns-in_err-decided-clause-failures g c clean tables =
    let same = handed_on c.from_residual.result c.in_err-decided.field-0.0 c.from_residual.ensures.1 in
    rw same (inl (c.decision_of.ensures.nothing clean tables, c.in_err-decided.ensures.failures clean tables, record { next = refl; last = refl; writes = refl }))

pub returns-in-Err-clause-failures : goal.returns-in-Err-clause-failures
returns-in-Err-clause-failures g c clean tables =
    let old = state g.S.Store c.args.self.now.conn in
    let mid = state g.S.Store c.decision_of.new.conn in
    let new = state g.S.Store c.commit.new.conn in
    let early = c.commit.ensures.clean clean in
    let nothing = c.decision_of.ensures.nothing early tables in
    let commits = c.in-Err.ensures.commits clean (tables_stay old mid (nothing_others old mid early nothing) tables) in
    let decided : IsDecidedFor c.args.at.now (seen c.args.self.now) c.in-Some.edit = λ o held. (
      c.in_ok-decided.decided.change,
      is_decision (g.T.BlockTransform.forwards c.args.self.now.transform) o c.args.at.now c.in_ok-decided.decided.change
          (c.in_ok-decided.ensures.decides early o held.at held.next),
      c.in-Some.is,
    ) in
    let prior = c.in_ok-decided.decided.prior in
    let change = c.in_ok-decided.decided.change in
    inr (
      c.in-Some.edit,
      decided,
      record {
        next = refl;
        last = refl;
        store = λ is. c.failed_after-self.ensures.store is;
        memory = λ is. c.failed_after-self.ensures.memory is;
      },
      (
        change,
        c.in-Some.is,
        (
          prior,
          c.in_ok-decided.ensures.read early,
          fails_after c.in-Some.edit old mid new clean nothing g.S.Store prior
              c.in-Err.refusal commits.failed,
        ),
      ),
    )

pub returns-clause-granted : goal.returns-clause-granted
returns-clause-granted g c clean tables =
    let old = state g.S.Store c.args.self.now.conn in
    let mid = state g.S.Store c.decision_of.new.conn in
    let books = seen c.args.self.now in
    let change = c.in_ok-decided.decided.change in
    let prior = c.in_ok-decided.decided.prior in
    elim c.match-decided.branch [
      | in-Some+in-Ok w ↦
          let late = rw w.self-is at clean in
          let early = w.commit.ensures.clean late in
          let new = state g.S.Store w.commit.new.conn in
          let after : Seen = record books {
            state = new;
            next_number = w.next_after-self.result;
            last_moment = w.moment_after-self.result;
            write_failed = false;
          } in
          let of_edit = λ (Says : Option Edit → Type 0) (says : Says (Some w.in-Some.edit)). subst Says (sym w.in-Some.is) says in
          let nothing = c.decision_of.ensures.nothing early tables in
          let commits = w.in-Ok.ensures.commits late (tables_stay old mid (nothing_others old mid early nothing) tables) in
          let counted = counted_after w.in-Some.edit old mid new late nothing prior commits.done.was_open commits.counted in
          let made = subst (λ (edit : Option Edit). IsMade edit prior books after) (sym w.in-Some.is)
          (has_after w.in-Some.edit old mid new late nothing commits.done, counted) in
          rw w.self-is (record {
            change = change;
            answers = refl;
            granted = λ o held. (
              change,
              is_decision (g.T.BlockTransform.forwards c.args.self.now.transform) o c.args.at.now change
                  (c.in_ok-decided.ensures.decides early o held.at held.next),
              refl,
            );
            prior = prior;
            read = c.in_ok-decided.ensures.read early;
            made = made;
            next = λ fits. of_edit (λ e. after.next_number ≡ books.next_number + sales_added e) (w.next_after-self.ensures fits);
            last = of_edit (λ e. after.last_moment ≡ moment_after e books.last_moment) w.moment_after-self.ensures;
            writes = of_edit (λ e. after.write_failed ≡ failed_after e books.write_failed) refl;
          })
      | in_default w ↦
          let late = rw w.self-is at clean in
          let after : Seen = record books { state = mid } in
          let of_none = λ (Says : Option Edit → Type 0) (says : Says None). subst Says (sym (none_of change.edit w.in_default.not-Some)) says in
          let made = of_none (λ edit. IsMade edit prior books after) (c.decision_of.ensures.nothing late tables) in
          rw w.self-is (record {
            change = change;
            answers = refl;
            granted = λ o held. (
              change,
              is_decision (g.T.BlockTransform.forwards c.args.self.now.transform) o c.args.at.now change
                  (c.in_ok-decided.ensures.decides late o held.at held.next),
              refl,
            );
            prior = prior;
            read = c.in_ok-decided.ensures.read late;
            made = made;
            next = λ fits. of_none (λ e. books.next_number ≡ books.next_number + sales_added e) (omega arith);
            last = of_none (λ e. books.last_moment ≡ moment_after e books.last_moment) refl;
            writes = of_none (λ e. books.write_failed ≡ failed_after e books.write_failed) refl;
          })
    ]
