use Rattle.std.proofs.Common.{subst, sym, ◌∙◌}
use Rattle.sqlite.specs.Held.{state}
use Rattle.sqlite.specs.Steps.{over_memory}
use Rattle.sqlite.proofs.Callers.{memory_is_clean}
use Rattle.office_rules.specs.Office.{empty_office}
use Rattle.book_states.specs.Stores.{StoreStandsFor}
use Rattle.books.proofs.FreshLemmas.{memory_stands, store_or_memory}
use Rattle.books.proofs.books.memory.Books+MemStore+T.in_memory.Goals as goal

pub returns-in-Ok-open_from-clause-opened : goal.returns-in-Ok-open_from-clause-opened
returns-in-Ok-open_from-clause-opened g c =
    let told = c.in-Ok-open_from.ensures.opened in
    let stands = memory_stands c.in-Ok.conn c.stands_law.ensures.untaken c.in-Ok.ensures.empty in
    record {
      opens = λ o is. told.books.opens o (subst (StoreStandsFor (state over_memory c.in-Ok.conn)) (sym is) stands);
      tables = told.books.tables;
      running = told.books.running;
      writes = told.books.writes;
    }

pub returns-in-Ok-open_from-clause-unlimited : goal.returns-in-Ok-open_from-clause-unlimited
returns-in-Ok-open_from-clause-unlimited g c = c.in-Ok-open_from.ensures.opened.survives.limit ∙ c.in-Ok.ensures.fresh.unlimited

pub returns-clause-faults : goal.returns-clause-faults
returns-clause-faults g c =
    let stands = memory_stands c.in-Ok.conn c.stands_law.ensures.untaken c.in-Ok.ensures.empty in
    store_or_memory c.in-Err.fault (λ e. c.in-Err.ensures.refused.other (memory_is_clean c.in-Err.field-0-1) e empty_office stands)
