use Rattle.std.proofs.Common.{◌≡◌, ◌∙◌, length, sym, ap, arith}
use Rattle.std.proofs.lemmas.Bool.{false≢true}
use Rattle.std.proofs.lemmas.Option.{same_Some, slice_get_within}
use Rattle.sts_fields.specs.Base.{year_of}
use Rattle.book_tables.specs.declared.reading.pages.MeterRow.{MeterRow}
use Rattle.audit_lists.specs.Keys.{Key}
use Rattle.audit_lists.specs.RowKeys.{meter_key, name_key}
use Rattle.audit_lists.proofs.EachLemmas.{row_at}
use Rattle.audit_lists.proofs.ListLemmas.{one_row}
use Rattle.audit_lists.proofs.PlacesLemmas.{none_under, some_under}
use Rattle.audit_lists.proofs.bases.is_of_meter.Goals as goal

pub returns-in-Some : goal.returns-in-Some
returns-in-Some c =
    let meters = c.args.meters.now in
    let row = c.index-meters-at.result in
    let f = some_under meter_key c.args.places.now meters (length meters) c.requires.places (name_key c.as_bytes.result.now) c.in-Some.at
    (sym c.place_of.ensures ∙ c.in-Some.is) in
    let there = row_at meters c.in-Some.at row f.0 c.index-meters-at.is in
    let is : f.1.0 ≡ row = same_Some f.1.0 row (sym f.1.1 ∙ there) in
    let number : row.number ≡ c.args.base.now.meter = ap (λ (m : MeterRow). m.number) (sym is) ∙ ap (λ (q : Key). q.0) f.1.2 ∙ c.as_bytes.ensures.view in
    let base : c.year.result ≡ year_of c.args.base.now.base = c.year.ensures in
    let present : c.year-in-Some.result ≡ year_of row.meter.base =
    c.year-in-Some.ensures ∙ ap (λ (m : MeterRow). year_of m.meter.base) (sym c.index-meters-at.is) in (
      λ yes. (c.in-Some.at, row, there, number, grind (arith, yes, base, present)),
      λ (i, m, at, same, least).
          let one : year_of m.meter.base ≡ year_of row.meter.base =
          ap (λ (x : MeterRow). year_of x.meter.base) (one_row meter_key meters c.requires.apart i c.in-Some.at m row at there
          (ap name_key (same ∙ sym number))) in
          grind (arith, least, one, base, present),
    )

pub returns-in-None : goal.returns-in-None
returns-in-None c =
    let meters = c.args.meters.now in (
      λ yes. absurd (false≢true yes),
      λ (i, m, at, same, least).
          absurd (none_under meter_key c.args.places.now meters (length meters) c.requires.places (name_key c.as_bytes.result.now)
          (sym c.place_of.ensures ∙ c.in-None.is) i m (slice_get_within meters i m at) at (ap name_key (same ∙ sym c.as_bytes.ensures.view))),
    )
