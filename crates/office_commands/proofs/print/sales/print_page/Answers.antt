use Rattle.std.proofs.Common.{◌≡◌, ◌⊎◌, ◌∙◌, true, false, None, ap, inl, inr, refl, subst, sym}
use Rattle.std.specs.Prelude.{if◌then◌else◌}
use Rattle.papers.specs.Export.{export_of}
use Rattle.vend_core.specs.Law.Life.{present}
use Rattle.vend_ports.specs.print.Told.{Takes}
use Rattle.books.specs.Keeps.{seen}
use Rattle.office_commands.proofs.OnlyReadLemmas.{read_once}
use Rattle.office_commands.proofs.RefusedLemmas.{stopped_as_before, tells_no_memory, tells_refusal}
use Rattle.vend_ports.proofs.TakeLemmas.{takes_none}
use Rattle.office_commands.specs.print.Exported.{number_behind}
use Rattle.office_commands.proofs.print.sales.print_page.Goals as goal

-- a page has no refusal of its own
not_own : {P : Type 0} → ⊥ ⊎ P → P
not_own (inl none) = absurd none
not_own (inr told) = told

pub returns-in_default-clause-page : goal.returns-in_default-clause-page
returns-in_default-clause-page g c =
    let old = seen c.args.books.now in
    let new = seen c.sales_after.new.self in (
      takes_none c.args.out.now,
      inl refl,
      record {
        tells = tells_no_memory old new c.in-Ok.sales (c.in-Ok.ensures.says.reads.stopped, c.in-Ok.ensures.says.reads.stops);
        failures = λ clean tables running. inl refl;
      },
    )

pub returns-in-Err-clause-page : goal.returns-in-Err-clause-page
returns-in-Err-clause-page g c =
    let old = seen c.args.books.now in
    let new = seen c.sales_after.new.self in (
      takes_none c.args.out.now,
      not_own c.in-Err.ensures.says.reads.refusals,
      record {
        tells = tells_refusal old new c.in-Err.refusal (c.in-Err.ensures.says.reads.stopped, c.in-Err.ensures.says.reads.stops);
        failures = λ clean tables running. inr (not_own (c.in-Err.ensures.says.reads.failures clean tables running));
      },
    )

-- what is told of a page that was printed
pub returns-then-has_failed-clause-page : goal.returns-then-has_failed-clause-page
returns-then-has_failed-clause-page g c =
    let before = c.args.out.now in
    let after = c.put.new.self in
    let text = c.deref-2.ensures.value ∙ c.in-Ok-export.ensures ∙ ap (export_of c.args.is_first) c.deref.ensures.value in
    let failed : after.failed ≡ true = sym c.has_failed.ensures ∙ c.if-has_failed.true in (
      c.in-Ok.sales.items,
      λ clean life kept.
          let here = kept (c.in-Ok.ensures.says.reads.clean clean) in
          let office = (c.life_law.ensures.left life (present life) here.is_life here.opening (inl refl)).0 in
          c.in-Ok.ensures.says.of_life clean life kept ∙ c.store_law.ensures.sales_above (present life) c.args.after 1000 office,
      c.in-Ok.ensures.says.reads.seen,
      subst (Takes before after) text c.put.ensures,
      ap (λ b. if b then None else number_behind c.in-Ok.sales.items) (sym failed),
      stopped_as_before (seen c.args.books.now) (seen c.sales_after.new.self) c.in-Ok.sales
          (c.in-Ok.ensures.says.reads.stopped, c.in-Ok.ensures.says.reads.stops),
    )

pub returns-clause-page : goal.returns-clause-page
returns-clause-page g c =
    let before = c.args.out.now in
    let after = c.put.new.self in
    let text = c.deref-2.ensures.value ∙ c.in-Ok-export.ensures ∙ ap (export_of c.args.is_first) c.deref.ensures.value in
    let sound : after.failed ≡ false = sym c.has_failed.ensures ∙ c.if-has_failed.false in (
      c.in-Ok.sales.items,
      λ clean life kept.
          let here = kept (c.in-Ok.ensures.says.reads.clean clean) in
          let office = (c.life_law.ensures.left life (present life) here.is_life here.opening (inl refl)).0 in
          c.in-Ok.ensures.says.of_life clean life kept ∙ c.store_law.ensures.sales_above (present life) c.args.after 1000 office,
      c.in-Ok.ensures.says.reads.seen,
      subst (Takes before after) text c.put.ensures,
      c.number_behind.ensures ∙ ap number_behind c.deref-else-has_failed.ensures.value
          ∙ ap (λ b. if b then None else number_behind c.in-Ok.sales.items) (sym sound),
      stopped_as_before (seen c.args.books.now) (seen c.sales_after.new.self) c.in-Ok.sales
          (c.in-Ok.ensures.says.reads.stopped, c.in-Ok.ensures.says.reads.stops),
    )

pub returns-in_default-clause-reads : goal.returns-in_default-clause-reads
returns-in_default-clause-reads g c = read_once (seen c.args.books.now) (seen c.sales_after.new.self) c.in-Ok.ensures.says.reads

pub returns-in-Err-clause-reads : goal.returns-in-Err-clause-reads
returns-in-Err-clause-reads g c = read_once (seen c.args.books.now) (seen c.sales_after.new.self) c.in-Err.ensures.says.reads

pub returns-then-has_failed-clause-reads : goal.returns-then-has_failed-clause-reads
returns-then-has_failed-clause-reads g c = read_once (seen c.args.books.now) (seen c.sales_after.new.self) c.in-Ok.ensures.says.reads

pub returns-clause-reads : goal.returns-clause-reads
returns-clause-reads g c = read_once (seen c.args.books.now) (seen c.sales_after.new.self) c.in-Ok.ensures.says.reads
