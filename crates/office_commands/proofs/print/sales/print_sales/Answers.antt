use Rattle.std.proofs.Common.{◌≡◌, ◌==◌, [], inl, refl, subst, arith, Ok}
use Rattle.books.specs.Keeps.{seen}
use Rattle.vend_core.specs.Law.Life.{present}
use Rattle.office_commands.specs.print.Exported.{IsPage, most_full}
use Rattle.vend_ports.specs.print.Printed.{refusal_line}
use Rattle.vend_ports.specs.print.Told.{Takes}
use Rattle.office_commands.proofs.ExportLemmas.{AreOffices, all_pages, no_pages, page_last, page_more, page_refused}
use Rattle.office_commands.proofs.print.sales.print_sales.Goals as goal

pub loop-page-init : goal.loop-page-init
loop-page-init g c = ([], no_pages (seen c.args.books.now) c.args.out.now, refl)

pub returns-in-Ok-None : goal.returns-in-Ok-None
returns-in-Ok-None g c =
    let so_far = c.loop-page.invariant in
    let old = seen c.args.books.now in
    let offices : AreOffices old = λ clean life kept.
    let here = kept clean in (c.life_law.ensures.left life (present life) here.is_life here.opening (inl refl)).0 in
    rw so_far.2 (page_last old (seen c.loop-page.books) (seen c.print_page.new.books)
    c.args.out.now c.loop-page.out c.print_page.new.out
    c.loop-page.after c.loop-page.page so_far.0 c.export_law.ensures.pages offices so_far.1 c.in-Ok-None.ensures.reads c.args.err.now
    _ c.in-Ok-None.field-0-is c.in-Ok-None.ensures.page)

pub returns-in-Err : goal.returns-in-Err
returns-in-Err g c =
    let so_far = c.loop-page.invariant in
    let old = seen c.args.books.now in
    let offices : AreOffices old = λ clean life kept.
    let here = kept clean in (c.life_law.ensures.left life (present life) here.is_life here.opening (inl refl)).0 in
    let told = subst (λ e. Takes e c.put_refusal.new.out (refusal_line c.in-Err.refusal)) so_far.2 c.put_refusal.ensures in
    page_refused old (seen c.loop-page.books) (seen c.print_page.new.books) c.args.out.now
    c.loop-page.out c.print_page.new.out c.loop-page.after c.loop-page.page so_far.0
    c.export_law.ensures.pages offices so_far.1 c.in-Err.ensures.reads c.args.err.now
    c.put_refusal.new.out c.in-Err.refusal c.in-Err.ensures.page told

pub loop-page-preserved : goal.loop-page-preserved
loop-page-preserved g c =
    let old = seen c.args.books.now in
    let mid = seen c.loop-page.books in
    let new = seen c.print_page.new.books in
    let before = c.args.out.now in
    let part = c.loop-page.out in
    let after = c.print_page.new.out in
    let so_far = c.loop-page.invariant in
    let offices : AreOffices old = λ clean life kept.
    let here = kept clean in (c.life_law.ensures.left life (present life) here.is_life here.opening (inl refl)).0 in
    let put = subst (λ next. IsPage c.loop-page.after (c.loop-page.page == 0) mid new part after (Ok next)) c.in-Ok-Some.field-0-is
    c.in-Ok-Some.ensures.page in (
      _,
      page_more old mid new before part after c.loop-page.after c.loop-page.page so_far.0 c.export_law.ensures.pages offices so_far.1
          c.in-Ok-Some.ensures.reads c.in-Ok-Some.last put,
      so_far.2,
    )

pub returns : goal.returns
returns g c =
    let so_far = c.loop-page.invariant in
    let most : c.loop-page.page ≡ most_full = omega (arith, c.loop-page-test.false) in
    rw so_far.2 (all_pages (seen c.args.books.now) (seen c.loop-page.books) c.args.out.now
    c.loop-page.out c.args.err.now c.loop-page.after c.loop-page.page so_far.0
    most so_far.1
    (λ clean life kept.
    let here = kept clean in
    let office = (c.life_law.ensures.left life (present life) here.is_life here.opening (inl refl)).0 in
    omega (arith, office.sale_count, c.loop-page-test.false)))
