use Rattle.std.proofs.Common.{◌≡◌, ◌∙◌, [], Some, take}
use Rattle.csv.specs.Writing.{text_written}
use Rattle.std.proofs.lemmas.List.{append-nil, take_all}
use Rattle.papers.specs.Export.{HasRecords, export_of}
use Rattle.papers.proofs.ExportLemmas.{export_of-more, items_given}
use Rattle.papers.proofs.exports.export.Goals.{then-header+in_ok-put_record, else-header}
use Rattle.papers.proofs.exports.export.Goals as goal

pub loop-sale-init : goal.loop-sale-init
unfolding export_of
loop-sale-init c =
    let new = c.from_writer-writer.ensures in
    let held : text_written (λ v. Some v.items) c.from_writer-writer.result ≡ Some [] = rw (new.wtr, c.new-2.ensures.items, new.empty) in
    let empty : HasRecords c.from_writer-writer.result [] = record { setup = new.cfg ∙ c.new.ensures; fields = new.fields; started = new.wrote; held = held } in
    elim c.if-header.branch [
      | then-header+in_ok-put_record w ↦ rw (w.writer-is, w.if-header.true, append-nil) (w.in_ok-put_record.ensures [] empty)
      | else-header w ↦ rw (w.writer-is, w.if-header.false) empty
    ]

pub loop-sale-preserved : goal.loop-sale-preserved
loop-sale-preserved c =
    let more = export_of-more c.args.header c.args.sales.now c.loop-sale.sale-index c.sale-item.result c.loop-sale-test.true c.sale-item.is in
    rw more (c.in_ok-put_sale.ensures _ c.loop-sale.invariant)

pub returns : goal.returns
returns c =
    let whole : take c.loop-sale.sale-index c.args.sales.now ≡ c.args.sales.now = take_all _ _ c.loop-sale-test.false in
    let held = rw whole at c.loop-sale.invariant.held in
    items_given _ c.into_inner.result c.map_err.result _ _ held c.into_inner.ensures.ok c.map_err.ensures.cases
