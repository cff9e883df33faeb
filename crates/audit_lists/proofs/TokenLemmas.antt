-- The meters of an office's rows by their places, and what their keys say of the tokens of its sales.
use Rattle.std.proofs.Common.{◌≡◌, ◌≢◌, ◌<◌, ◌∙◌, ℕ, List, Some, length, sym, ap, subst, arith}
use Rattle.std.specs.Prelude.{◌↔◌, slice_get}
use Rattle.std.proofs.lemmas.Option.{same_Some, slice_get_within}
use Rattle.sts_token.specs.Fields.{AreFields, TokenFields}
use Rattle.sts_token.specs.Token.{BlockFunction, IsToken}
use Rattle.office_rules.specs.Law.NewSale.{fields_of}
use Rattle.vend_core.specs.Law.Reached.{HasTokensOf, IsWrittenBy}
use Rattle.office_rules.specs.Office.{IsSaleRow, Office}
use Rattle.office_rules.specs.declared.office.meter.Meter.{Meter}
use Rattle.office_rules.specs.declared.office.sale.Sale.{Sale}
use Rattle.book_tables.specs.declared.reading.pages.MeterRow.{MeterRow}
use Rattle.audit_rows.specs.Entries.{meter_entry}
use Rattle.audit_rows.specs.declared.finding.Finding.{Finding}
use Rattle.audit_rows.specs.declared.office_rows.OfficeRows.{OfficeRows}
use Rattle.audit_lists.specs.RowKeys.{meter_key, name_key}
use Rattle.audit_lists.specs.Ties.{IsFirst}
use Rattle.audit_lists.specs.Tokens.{written_tie}
use Rattle.audit_lists.specs.reached.Finds.{AreRowsOfOffice}
use Rattle.audit_lists.proofs.ListLemmas.{all_at, contains_map, map_contains}

-- fields are the same where the three numbers are, and only there
pub same_fields : (rnd tid tenths : ℕ) (read f : TokenFields) → record { rnd = rnd; tid = tid; tenths = tenths } ≡ read → rnd ≡ f.rnd → tid
    ≡ f.tid → tenths ≡ f.tenths → read ≡ f
same_fields rnd tid tenths read f is same_rnd same_tid same_tenths =
    sym is ∙ ap (λ (n : ℕ). record { rnd = n; tid = tid; tenths = tenths }) same_rnd ∙ ap (λ (n : ℕ). record { rnd = f.rnd; tid = n; tenths = tenths }) same_tid
    ∙ ap (λ (n : ℕ). record { rnd = f.rnd; tid = f.tid; tenths = n }) same_tenths

-- fields that were read and are those of another have the other's values
pub fields_same : (rnd tid tenths : ℕ) (read f : TokenFields) → record { rnd = rnd; tid = tid; tenths = tenths } ≡ read → read ≡ f
    → (rnd ≡ f.rnd) × (tid ≡ f.tid) × (tenths ≡ f.tenths)
fields_same rnd tid tenths read f is same =
    (ap (λ (x : TokenFields). x.rnd) (is ∙ same), ap (λ (x : TokenFields). x.tid) (is ∙ same), ap (λ (x : TokenFields). x.tenths) (is ∙ same))

-- a sale of an office has fields that a token can carry
pub are_fields : (o : Office) (s : Sale) → IsSaleRow o s → AreFields (fields_of s)
are_fields o s row = record { rnd = row.rnd; tid = let last = row.tid in omega (arith, last); tenths = row.tenths }

module _ (r : OfficeRows) (o : Office) (are : AreRowsOfOffice r o) where
  -- the meter that a sale names is that at the place of its number
  pub meter_is : (s : Sale) (i : ℕ) (m : MeterRow) → slice_get r.meters.items i ≡ Some m → m.number ≡ s.meter → o.meters s.meter ≡ Some m.meter
  meter_is s i m there named =
      subst (λ (n : List ℕ). o.meters n ≡ Some m.meter) named ((are.members.meters m.number m.meter).1 (contains_map meter_entry r.meters.items i m there))

  -- its key says whether the sale was written,
  pub by_key : (forward : BlockFunction) (s : Sale) (m : Meter) → o.meters s.meter ≡ Some m
      → IsToken forward m.key (fields_of s) s.digits ↔ IsWrittenBy forward o s
  by_key forward s m is = (
    λ token. record { meter = m; meter_is = is; token = token },
    λ w. subst (λ (k : Meter). IsToken forward k.key (fields_of s) s.digits) (same_Some w.meter m (sym w.meter_is ∙ is)) w.token,
  )

  -- and a sale of no meter was not
  pub no_meter : (forward : BlockFunction) (s : Sale)
      → ((i : ℕ) (m : MeterRow) → i < length r.meters.items → slice_get r.meters.items i ≡ Some m → meter_key m ≢ name_key s.meter) → ¬ IsWrittenBy forward o s
  no_meter forward s none w =
      let at = map_contains meter_entry r.meters.items (s.meter, w.meter) ((are.members.meters s.meter w.meter).0 w.meter_is) in
      none at.0 at.1 (slice_get_within r.meters.items at.0 at.1 at.2) at.2 (ap (λ (p : List ℕ × Meter). name_key p.0) at.3)

-- of an office whose tokens are written nothing is found
pub none_unwritten : (forward : BlockFunction) (o : Office) (f : Finding) → HasTokensOf forward o → IsFirst (written_tie forward o) f → ⊥
none_unwritten forward o f has (place, s, first, named) = first.breaks (all_at (IsWrittenBy forward o) o.sales has place s first.there)
