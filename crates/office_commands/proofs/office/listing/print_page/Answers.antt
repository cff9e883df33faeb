use Rattle.std.proofs.Common.{inl, refl}
use Rattle.book_facts.specs.Lookups.{IsOfRules}
use Rattle.books.specs.Keeps.{health_of, seen}
use Rattle.office_commands.proofs.ListingLemmas.{any_refusal, page_found, page_refusal, page_shown, seen_refusal}
use Rattle.office_commands.proofs.OnlyReadLemmas.{read_once}
use Rattle.office_commands.proofs.RefusedLemmas.{fails_only, stopped_as_before, tells_no_memory, tells_refusal}
use Rattle.vend_ports.proofs.TakeLemmas.{takes_none}
use Rattle.office_commands.proofs.office.listing.print_page.Goals as goal

pub returns-in-Err-clause-page : goal.returns-in-Err-clause-page
returns-in-Err-clause-page g c =
    let old = seen c.args.books.now in
    let new = seen c.look_up.new.self in (
      takes_none c.args.out.now,
      λ is clean life kept.
          page_refusal life c.args.moment c.args.list c.in-Err.refusal is (c.in-Err.ensures.says.of_life clean life kept),
      λ is clean tables.
          any_refusal old new c.in-Err.refusal
          (tells_refusal old new c.in-Err.refusal (c.in-Err.ensures.says.reads.stopped, c.in-Err.ensures.says.reads.stops))
          (λ runs.
          seen_refusal (health_of old) c.args.moment old.state.now c.args.list c.in-Err.refusal is
          (c.in-Err.ensures.says.reads.seen clean tables runs)),
      tells_refusal old new c.in-Err.refusal (c.in-Err.ensures.says.reads.stopped, c.in-Err.ensures.says.reads.stops),
      fails_only IsOfRules old new c.in-Err.refusal (λ own. own.not_store refl) c.in-Err.ensures.says.reads.failures,
    )

pub returns-in-Ok-put_page-clause-page : goal.returns-in-Ok-put_page-clause-page
returns-in-Ok-put_page-clause-page g c = (
  c.in-Ok.page,
  λ clean life kept. page_found life c.args.moment c.args.list c.in-Ok.page (c.in-Ok.ensures.says.of_life clean life kept),
  λ clean tables runs.
      let old = seen c.args.books.now in
      page_shown (health_of old) c.args.moment old.state.now c.args.list c.in-Ok.page (c.in-Ok.ensures.says.reads.seen clean tables runs),
  c.in-Ok-put_page.ensures.0,
  c.in-Ok-put_page.ensures.1,
  stopped_as_before (seen c.args.books.now) (seen c.look_up.new.self) c.in-Ok.page (c.in-Ok.ensures.says.reads.stopped, c.in-Ok.ensures.says.reads.stops),
)

pub returns-clause-page : goal.returns-clause-page
returns-clause-page g c =
    let old = seen c.args.books.now in
    let new = seen c.look_up.new.self in (
      c.in-Err-put_page.ensures,
      λ is clean life kept. inl refl,
      λ is clean tables. inl refl,
      tells_no_memory old new c.in-Ok.page (c.in-Ok.ensures.says.reads.stopped, c.in-Ok.ensures.says.reads.stops),
      λ clean tables running is. absurd cc,
    )

pub returns-in-Err-clause-reads : goal.returns-in-Err-clause-reads
returns-in-Err-clause-reads g c = read_once (seen c.args.books.now) (seen c.look_up.new.self) c.in-Err.ensures.says.reads

pub returns-in-Ok-put_page-clause-reads : goal.returns-in-Ok-put_page-clause-reads
returns-in-Ok-put_page-clause-reads g c = read_once (seen c.args.books.now) (seen c.look_up.new.self) c.in-Ok.ensures.says.reads

pub returns-clause-reads : goal.returns-clause-reads
returns-clause-reads g c = read_once (seen c.args.books.now) (seen c.look_up.new.self) c.in-Ok.ensures.says.reads
