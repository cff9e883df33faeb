use Rattle.std.proofs.Common.{◌≡◌, ◌<◌, ◌∙◌, List, ℕ, Some, get_or, length, sym, ap, subst}
use Rattle.std.specs.Prelude.{slice_get}
use Rattle.std.proofs.lemmas.Bool.{false≢true}
use Rattle.std.proofs.lemmas.Option.{same_Some}
use Rattle.book_tables.specs.declared.reading.pages.MeterRow.{MeterRow}
use Rattle.sts_token.specs.Token.{IsToken}
use Rattle.office_rules.specs.Law.NewSale.{fields_of}
use Rattle.audit_lists.specs.Keys.{Key}
use Rattle.audit_lists.specs.RowKeys.{meter_key, name_key}
use Rattle.audit_lists.proofs.EachLemmas.{row_at}
use Rattle.audit_lists.proofs.PlacesLemmas.{none_under, some_under}
use Rattle.audit_lists.proofs.TokenLemmas.{are_fields, by_key, meter_is, no_meter}
use Rattle.audit_lists.proofs.tokens.is_written.Goals as goal

pub returns-in-Some : goal.returns-in-Some
returns-in-Some g c o are row =
    let r = c.args.rows.now in
    let s = c.args.sale.now in
    let m = c.index-meters-place.result in
    let forward = g.T.BlockTransform.forwards c.args.transform.now in
    let f = some_under meter_key c.args.places.now r.meters.items (length r.meters.items) c.requires (name_key c.as_bytes.result.now)
    c.in-Some.place (sym c.place_of.ensures ∙ c.in-Some.is) in
    let low = subst (λ (l : List MeterRow). c.in-Some.place < length l) (sym c.as_slice-meters.ensures.value) f.0 in
    let there : slice_get r.meters.items c.in-Some.place ≡ Some m =
    subst (λ (l : List MeterRow). slice_get l c.in-Some.place ≡ Some m) c.as_slice-meters.ensures.value
    (row_at c.as_slice-meters.result.now c.in-Some.place m low c.index-meters-place.is) in
    let is : f.1.0 ≡ m = same_Some f.1.0 m (sym f.1.1 ∙ there) in
    let number : m.number ≡ s.meter = ap (λ (x : MeterRow). x.number) (sym is) ∙ ap (λ (q : Key). q.0) f.1.2 ∙ c.as_bytes.ensures.view in
    let named = by_key r o are forward s m.meter (meter_is r o are s c.in-Some.place m there number) in
    let token = c.is_token_of.ensures (are_fields o s row) in
    let key : m.meter.key ≡ (get_or c.as_slice-meters.result.now c.in-Some.place m).meter.key = ap (λ (x : MeterRow). x.meter.key) c.index-meters-place.is in (
      λ yes. named.0 (subst (λ (k : ℕ). IsToken forward k (fields_of s) s.digits) (sym key) (token.0 yes)),
      λ written. token.1 (subst (λ (k : ℕ). IsToken forward k (fields_of s) s.digits) key (named.1 written)),
    )

pub returns-in-None : goal.returns-in-None
returns-in-None g c o are row = (
  λ yes. absurd (false≢true yes),
  λ is.
      let r = c.args.rows.now in
      absurd (no_meter r o are (g.T.BlockTransform.forwards c.args.transform.now) c.args.sale.now
      (λ i m low there same.
      none_under meter_key c.args.places.now r.meters.items (length r.meters.items) c.requires (name_key c.as_bytes.result.now)
      (sym c.place_of.ensures ∙ c.in-None.is) i m low there (same ∙ ap name_key (sym c.as_bytes.ensures.view)))
      is),
)
