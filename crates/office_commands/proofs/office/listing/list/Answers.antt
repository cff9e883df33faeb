use Rattle.std.proofs.Common.{◌≡◌, ◌==◌, [], Ok, refl, subst, arith}
use Rattle.books.specs.Keeps.{seen}
use Rattle.office_commands.specs.print.Listing.{IsListPage}
use Rattle.desk_commands.specs.print.Pages.{most_pages}
use Rattle.vend_ports.specs.print.Printed.{refusal_line}
use Rattle.vend_ports.specs.print.Told.{Takes}
use Rattle.office_commands.proofs.ListingLemmas.{most_printed, no_pages, page_last, page_more, page_refused}
use Rattle.office_commands.proofs.office.listing.list.Goals as goal

pub loop-page-init : goal.loop-page-init
loop-page-init g c = ([], no_pages c.args.moment c.args.list c.args.json (seen c.args.books.now) c.args.out.now, refl)

pub returns-in-Ok-None : goal.returns-in-Ok-None
returns-in-Ok-None g c =
    let so_far = c.loop-page.invariant in
    rw so_far.2 (page_last c.args.moment c.args.list c.args.json (seen c.args.books.now) (seen c.loop-page.books)
    (seen c.print_page.new.books) c.args.out.now c.loop-page.out
    c.print_page.new.out c.loop-page.next c.loop-page.page so_far.0 so_far.1 c.in-Ok-None.ensures.reads
    c.args.err.now _ c.in-Ok-None.field-0-is c.in-Ok-None.ensures.page)

pub returns-in-Err : goal.returns-in-Err
returns-in-Err g c =
    let so_far = c.loop-page.invariant in
    let told = subst (λ e. Takes e c.put_refusal.new.out (refusal_line c.in-Err.refusal)) so_far.2 c.put_refusal.ensures in
    page_refused c.args.moment c.args.list c.args.json (seen c.args.books.now) (seen c.loop-page.books) (seen c.print_page.new.books)
    c.args.out.now c.loop-page.out c.print_page.new.out
    c.loop-page.next c.loop-page.page so_far.0 so_far.1 c.in-Err.ensures.reads c.args.err.now
    c.put_refusal.new.out c.in-Err.refusal c.in-Err.ensures.page told

pub loop-page-preserved : goal.loop-page-preserved
loop-page-preserved g c =
    let mid = seen c.loop-page.books in
    let new = seen c.print_page.new.books in
    let part = c.loop-page.out in
    let after = c.print_page.new.out in
    let so_far = c.loop-page.invariant in
    let put = subst (λ next. IsListPage c.args.moment c.loop-page.next c.args.json (c.loop-page.page == 0) mid new part after (Ok next))
    c.in-Ok-Some.field-0-is c.in-Ok-Some.ensures.page in (
      _,
      page_more c.args.moment c.args.list c.args.json (seen c.args.books.now) mid new c.args.out.now part after
          c.loop-page.next c.loop-page.page so_far.0 so_far.1 c.in-Ok-Some.ensures.reads c.in-Ok-Some.behind put,
      so_far.2,
    )

pub returns : goal.returns
returns g c =
    let so_far = c.loop-page.invariant in
    let most : c.loop-page.page ≡ most_pages = omega (arith, c.loop-page-test.false) in
    rw so_far.2 (most_printed c.args.moment c.args.list c.args.json (seen c.args.books.now) (seen c.loop-page.books)
    c.args.out.now c.loop-page.out c.args.err.now
    c.loop-page.next c.loop-page.page so_far.0 so_far.1 most)
