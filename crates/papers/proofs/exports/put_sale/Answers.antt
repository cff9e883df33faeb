use Rattle.std.proofs.Common.{◌≡◌, ◌∙◌, ◌++◌, List, ℕ, w64, to_z, of_z, ap, subst}
use Rattle.std.specs.Fmt.{decimal}
use Rattle.std.specs.Result.{OnOk}
use Rattle.std.proofs.Math.IntN.{nat_abs}
use Rattle.papers.specs.Export.{HasRecords, record_text}
use Rattle.papers.proofs.ExportLemmas.{export_fields-are, moment_of_bits}
use Rattle.papers.proofs.exports.put_sale.Goals as goal

pub returns : goal.returns
returns c = λ text held.
    let s = c.args.sale.now in
    let last = c.secs.ensures.range.1 in
    let seconds = moment_of_bits s.moment last in
    let written : decimal (nat_abs (to_z w64 (of_z w64 c.secs.result))) ≡ decimal s.moment =
    ap (λ z. decimal (nat_abs (to_z w64 (of_z w64 z)))) c.secs.ensures.value ∙ ap (λ z. decimal (nat_abs z)) seconds in
    let fields = export_fields-are s _ _ _ _ _ _ _ _ _ _ _ _ _
    (c.as_bytes.ensures.value ∙ c.in_ok-number.ensures ∙ ap decimal c.from.ensures)
    (c.as_bytes-2.ensures.value ∙ c.in_ok-moment.ensures ∙ written)
    (c.as_bytes-3.ensures.value ∙ c.in_ok-shift.ensures ∙ ap decimal c.from-2.ensures)
    c.as_bytes-4.ensures.view
    c.as_bytes-5.ensures.view
    c.as_bytes-6.ensures.view
    (c.as_bytes-7.ensures.value ∙ c.in_ok-base.ensures ∙ ap decimal c.from-3.ensures ∙ ap decimal c.year.ensures)
    (c.as_bytes-8.ensures.value ∙ c.in_ok-tid.ensures ∙ ap decimal c.from-4.ensures)
    (c.as_bytes-9.ensures.value ∙ c.in_ok-tenths.ensures ∙ ap decimal c.from-5.ensures ∙ ap decimal c.tenths.ensures.value)
    (c.as_bytes-10.ensures.value ∙ c.in_ok-price.ensures ∙ ap decimal c.from-6.ensures)
    (c.as_bytes-11.ensures.value ∙ c.in_ok-tender.ensures ∙ ap decimal c.from-7.ensures ∙ ap decimal c.cents.ensures.value)
    (c.as_bytes-12.ensures.value ∙ c.in_ok-change.ensures ∙ ap decimal c.from-8.ensures ∙ ap decimal c.change.ensures)
    c.as_slice.ensures in
    subst (λ (fs : List (List ℕ)). OnOk c.put_record.result (HasRecords c.put_record.new.writer (text ++ record_text fs))) fields
    (c.put_record.ensures text held)
