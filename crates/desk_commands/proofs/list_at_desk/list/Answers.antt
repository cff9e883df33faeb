use Rattle.std.proofs.Common.{◌≡◌, ◌==◌, Ok, refl, subst, arith}
use Rattle.desk_commands.specs.ListedAtDesk.{IsPagePrinted, page_fault_line}
use Rattle.desk_commands.specs.print.Pages.{most_pages}
use Rattle.vend_ports.specs.print.Told.{Takes}
use Rattle.desk_commands.proofs.DeskListLemmas.{most_printed, none_asked, page_last, page_more, page_stopped, uncalled}
use Rattle.desk_commands.proofs.list_at_desk.list.Goals as goal

pub returns-in-Err : goal.returns-in-Err
returns-in-Err g c = uncalled g.L.Loopback g.L.Stream.Read.remaining g.L.Stream.Write.contents c.args.loopback c.args.desk c.args.list
    c.args.json c.args.out.now c.args.err.now
    c.put_line.new.out c.in-Err.ensures.misses c.put_line.ensures

pub loop-page-init : goal.loop-page-init
loop-page-init g c = (
  none_asked g.L.Loopback g.L.Stream.Read.remaining g.L.Stream.Write.contents c.args.loopback c.args.desk c.args.list
      c.args.json c.args.out.now c.in-Ok.stream c.in-Ok.ensures.calls,
  refl,
)

pub returns-in-Ok-None : goal.returns-in-Ok-None
returns-in-Ok-None g c =
    let so_far = c.loop-page.invariant in
    rw so_far.1 (page_last g.L.Loopback g.L.Stream.Read.remaining g.L.Stream.Write.contents c.args.loopback c.args.desk c.args.list
    c.args.json c.args.out.now c.loop-page.stream c.print_page.new.stream
    c.loop-page.out c.print_page.new.out c.loop-page.next c.loop-page.page so_far.0
    c.end.ensures c.args.err.now _ c.in-Ok-None.field-0-is c.in-Ok-None.ensures)

pub returns-in-Err-print_page : goal.returns-in-Err-print_page
returns-in-Err-print_page g c =
    let so_far = c.loop-page.invariant in
    let told = subst (λ e. Takes e c.put_page_fault.new.err (page_fault_line c.in-Err-print_page.fault)) so_far.1
    c.put_page_fault.ensures in
    page_stopped g.L.Loopback g.L.Stream.Read.remaining g.L.Stream.Write.contents c.args.loopback c.args.desk c.args.list c.args.json
    c.args.out.now c.loop-page.stream c.print_page.new.stream c.loop-page.out
    c.print_page.new.out c.loop-page.next c.loop-page.page so_far.0 c.end-in-Err-print_page.ensures c.args.err.now
    c.put_page_fault.new.err c.in-Err-print_page.fault c.in-Err-print_page.ensures told

pub loop-page-preserved : goal.loop-page-preserved
loop-page-preserved g c =
    let so_far = c.loop-page.invariant in
    let printed = subst (λ next. IsPagePrinted g.L.Stream.Read.remaining g.L.Stream.Write.contents c.loop-page.next c.args.json
    (c.loop-page.page == 0) c.loop-page.stream c.print_page.new.stream c.loop-page.out
    c.print_page.new.out (Ok next)) c.in-Ok-Some.field-0-is c.in-Ok-Some.ensures in (
      page_more g.L.Loopback g.L.Stream.Read.remaining g.L.Stream.Write.contents c.args.loopback c.args.desk c.args.list c.args.json
          c.args.out.now c.loop-page.stream c.print_page.new.stream c.loop-page.out
          c.print_page.new.out c.loop-page.next c.loop-page.page so_far.0 c.in-Ok-Some.behind printed,
      so_far.1,
    )

pub returns : goal.returns
returns g c =
    let so_far = c.loop-page.invariant in
    let most : c.loop-page.page ≡ most_pages = omega (arith, c.loop-page-test.false) in
    rw so_far.1 (most_printed g.L.Loopback g.L.Stream.Read.remaining g.L.Stream.Write.contents c.args.loopback c.args.desk c.args.list
    c.args.json c.args.out.now c.loop-page.stream c.loop-page.stream
    c.loop-page.out c.loop-page.out c.loop-page.next c.loop-page.page so_far.0
    c.end-2.ensures c.args.err.now most)
