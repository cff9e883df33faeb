-- Under one transform each sale has the token of its fields by its meter's key, which stays from the
-- first sale on: along requests, and in what lives lead to.
use Rattle.std.proofs.Common.{◌≡◌, ◌⊎◌, ℕ, inl, inr, List, Some, refl, sym, ◌∙◌, ap, subst, arith}
use Rattle.std.specs.Prelude.{All, Contains, map}
use Rattle.std.proofs.lemmas.List.Elements.{All-contains, All-map, All-nil, All-push, All-weaker, Contains-get_or}
use Rattle.std.proofs.lemmas.Option.{same_Some}
use Rattle.sts_token.specs.Token.{IsToken, KeepsRange}
use Rattle.office_rules.specs.Decision.Fold.{after, step}
use Rattle.office_rules.specs.Decision.Requests.{IsStamped}
use Rattle.vend_core.specs.Law.Imports.{LeavesRow}
use Rattle.vend_core.specs.Law.Life.{Exchange, LeadTo, Life, SellsUnder, WasMadeSince}
use Rattle.office_rules.specs.Law.Growth.{HasGrown}
use Rattle.office_rules.specs.Law.NewSale.{IsNewSale, fields_of}
use Rattle.vend_core.specs.Law.Reached.{HasTokensOf, IsWrittenBy}
use Rattle.vend_core.specs.Law.SoldTokens.{AreMadeFor, SimMeter}
use Rattle.office_rules.specs.Office.{IsOffice, Office, empty_office}
use Rattle.office_rules.specs.declared.decision.request.Order.{Order}
use Rattle.office_rules.specs.declared.decision.request.Request.TheVariants as requests
use Rattle.office_rules.specs.declared.decision.request.Stamped.{Stamped}
use Rattle.office_rules.specs.declared.office.meter.Meter.{Meter}
use Rattle.office_rules.specs.declared.office.row.Row.TheVariants as kinds
use Rattle.office_rules.specs.declared.office.sale.Sale.{Sale}
use Rattle.office_rules.proofs.DecisionLemmas.NewSaleLemmas.{LowerLaws}
use Rattle.vend_core.proofs.LawLemmas.AnswerLemmas.{sells_one}
use Rattle.vend_core.proofs.LawLemmas.LeaveLemmas.{step_stays}
use Rattle.vend_core.proofs.LawLemmas.FoldLemmas.{step_grows}
use Rattle.vend_core.proofs.LifeLemmas.{led_office}
use Rattle.vend_core.proofs.LifeLemmas.AlongLemmas.{LifeKeeps, after_keeps_by, led_keeps}
use Rattle.vend_core.proofs.LawLemmas.MeterLemmas.{SoldTo, from_one_made, rising_made, stand_made}
use Rattle.office_rules.proofs.OfficeLemmas.{empty_is_office}
use Rattle.office_rules.proofs.OfficeLemmas.MapLemmas.{all_from_contains}

-- the sale is one of the start's, or has the token of its fields
abbrev IsOldOrWritten : Office → (ℕ → ℕ → ℕ) → Office → Sale → Type 0
IsOldOrWritten start forward o s = Contains start.sales s ⊎ IsWrittenBy forward o s

abbrev HasTokensSince : Office → (ℕ → ℕ → ℕ) → Office → Type 0
HasTokensSince start forward o = All (IsOldOrWritten start forward o) o.sales

-- of the empty office there is no sale, so that all are written
none_old : (forward : ℕ → ℕ → ℕ) (o : Office) → HasTokensOf forward o
    → HasTokensSince empty_office forward o
none_old forward o have =
    All-weaker (IsWrittenBy forward o) (IsOldOrWritten empty_office forward o)
    (λ s written. inr written) o.sales have

all_written : (forward : ℕ → ℕ → ℕ) (o : Office) → HasTokensSince empty_office forward o
    → HasTokensOf forward o
all_written forward o have =
    All-weaker (IsOldOrWritten empty_office forward o) (IsWrittenBy forward o)
    (λ s either. elim either [
      | inl old ↦ absurd (omega (arith, old.1))
      | inr written ↦ written
    ]) o.sales have

module _ (laws : LowerLaws) where
  -- a sale that stands was written with the key that its meter has for good
  written_stays : (forward : ℕ → ℕ → ℕ) (o p : Office) (s : Sale) → HasGrown o p
      → Contains o.sales s → IsWrittenBy forward o s → IsWrittenBy forward p s
  written_stays forward o p s grown there was =
      let m = grown.meters s.meter was.meter was.meter_is in
      let key = grown.keys s.meter was.meter m.0 (s, there, refl) was.meter_is m.1 in
      record {
        meter = m.0;
        meter_is = m.1;
        token = subst (λ key. IsToken forward key (fields_of s) s.digits) (sym key) was.token;
      }

  -- the meter of a new sale is as it was
  meter_of_new : (forward : ℕ → ℕ → ℕ) (o : Office) (at : Stamped) (order : Order) (s : Sale)
      → at.request ≡ requests.Sell order → (new : IsNewSale forward o at order s)
      → (step forward o at).meters s.meter ≡ Some new.to_meter
  meter_of_new forward o at order s asks new =
      step_stays forward o at (kinds.Meter s.meter new.to_meter)
      (subst (λ request. LeavesRow request (kinds.Meter s.meter new.to_meter)) (sym asks) tt)
      (ap o.meters new.meter ∙ new.meter_is)

  -- if each sale but those of the start has the token of its fields by a transform, it has it after a
  -- request too: under this transform, or any other where the request is no order
  step_writes_since : (start : Office) (forward other : ℕ → ℕ → ℕ) (o : Office) (at : Stamped)
      → IsOffice o → IsStamped at → KeepsRange other
      → ((order : Order) → at.request ≡ requests.Sell order → other ≡ forward)
      → HasTokensSince start forward o → HasTokensSince start forward (step other o at)
  step_writes_since start forward other o at office is range sells have =
      let p = step other o at in
      let grown = step_grows laws other o at office is range in
      let stay = all_from_contains (IsOldOrWritten start forward p) o.sales (λ s there.
      elim (All-contains (IsOldOrWritten start forward o) o.sales s have there) [
        | inl old ↦ inl old
        | inr written ↦ inr (written_stays forward o p s grown there written)
      ]) in
      elim (sells_one laws other o at office range) [
        | inl same ↦
            subst (λ (sales : List Sale). All (IsOldOrWritten start forward p) sales) (sym same) stay
        | inr (s, (order, asks, new), pushed, answered) ↦
            subst (λ (sales : List Sale). All (IsOldOrWritten start forward p) sales) (sym pushed)
            (All-push (IsOldOrWritten start forward p) o.sales s stay
            (inr (record {
              meter = new.to_meter;
              meter_is = meter_of_new other o at order s asks new;
              token = subst (λ by. IsToken by new.to_meter.key (fields_of s) s.digits)
                  (sells order asks) new.digits;
            })))
      ]

  -- so it does after each request of a life that sells under the transform
  life_writes : (start : Office) (forward : ℕ → ℕ → ℕ) (life : Life) → SellsUnder forward life
      → LifeKeeps (HasTokensSince start forward) life
  life_writes start forward life sells o at there office is range holds =
      step_writes_since start forward life.forward o at office is range
      (All-contains (λ (at : Stamped). (order : Order) → at.request ≡ requests.Sell order
      → life.forward ≡ forward) (map (λ (e : Exchange). e.request) life.exchanges) at
      (All-map (λ (at : Stamped). (order : Order) → at.request ≡ requests.Sell order
      → life.forward ≡ forward) (λ (e : Exchange). e.request) life.exchanges sells) there) holds

  -- each sale that lives made that sell under one transform has the token of its fields
  led_write_since : (forward : ℕ → ℕ → ℕ) (start earlier : Office) (lives : List Life) (o : Office)
      → IsOffice earlier → LeadTo earlier lives o → All (SellsUnder forward) lives
      → HasTokensSince start forward earlier → HasTokensSince start forward o
  led_write_since forward start earlier lives o office lead one have =
      led_keeps laws (HasTokensSince start forward) earlier lives o
      (All-weaker (SellsUnder forward) (LifeKeeps (HasTokensSince start forward))
      (life_writes start forward) lives one)
      office lead have

  -- where lives sell under one transform, a sale that they made was written by it
  pub made_writes : (forward : ℕ → ℕ → ℕ) (start : Office) (lives : List Life) (o : Office)
      (s : Sale) → IsOffice start → LeadTo start lives o → All (SellsUnder forward) lives
      → WasMadeSince start o s → IsWrittenBy forward o s
  made_writes forward start lives o s office lead one made =
      let have = led_write_since forward start start lives o office lead one
      (λ k d below. inl (Contains-get_or start.sales k d below)) in
      elim (All-contains (IsOldOrWritten start forward o) o.sales s have made.stands) [
        | inl old ↦ absurd (made.new old)
        | inr written ↦ written
      ]

  -- if each sale has the token of its fields, it has it after a request too
  pub step_writes : (forward : ℕ → ℕ → ℕ) (o : Office) (at : Stamped) → IsOffice o
      → IsStamped at → KeepsRange forward → HasTokensOf forward o
      → HasTokensOf forward (step forward o at)
  step_writes forward o at office is range have =
      all_written forward (step forward o at)
      (step_writes_since empty_office forward forward o at office is range (λ order asks. refl)
      (none_old forward o have))

  -- requests from the empty office on lead to sales with the tokens of their fields
  pub after_writes : (forward : ℕ → ℕ → ℕ) (ats : List Stamped) → All IsStamped ats
      → KeepsRange forward → HasTokensOf forward (after forward empty_office ats)
  after_writes forward ats are range =
      after_keeps_by laws (HasTokensOf forward) forward
      (λ o at office is range holds. step_writes forward o at office is range holds)
      empty_office ats empty_is_office are range (All-nil (IsWrittenBy forward empty_office))

  -- if each sale has the token of its fields, it has it in what lives lead to that sell under the
  -- transform
  pub led_write : (forward : ℕ → ℕ → ℕ) (start : Office) (lives : List Life) (o : Office)
      → IsOffice start → LeadTo start lives o → All (SellsUnder forward) lives
      → HasTokensOf forward start → HasTokensOf forward o
  led_write forward start lives o office lead one have =
      all_written forward o
      (led_write_since forward empty_office start lives o office lead one
      (none_old forward start have))

  -- sales that lives made to a meter, and that sell under its transform, were written with the key
  -- that the office has for it in the end
  made_for_token : (start : Office) (lives : List Life) (o : Office) (m : SimMeter)
      (sales : List Sale) → AreMadeFor start lives o m sales → (s : Sale) → Contains sales s
      → IsToken m.forward m.key (fields_of s) s.digits
  made_for_token start lives o m sales are s in_sales =
      let made = All-contains (WasMadeSince start o) sales s are.made in_sales in
      let was = made_writes m.forward start lives o s are.begins are.lead are.under_it made in
      let to : s.meter ≡ m.number =
      All-contains (λ (s : Sale). s.meter ≡ m.number) sales s are.to_meter in_sales in
      let one : was.meter ≡ are.meter =
      same_Some was.meter are.meter (sym was.meter_is ∙ ap o.meters to ∙ are.meter_is) in
      subst (λ key. IsToken m.forward key (fields_of s) s.digits)
      (ap (λ (k : Meter). k.key) one ∙ are.key_is) was.token

  -- what is made for a meter with the key of the office is sold to it
  pub made_for_are_sold : (start : Office) (lives : List Life) (o : Office) (m : SimMeter)
      (sales : List Sale) → AreMadeFor start lives o m sales → SoldTo o m sales
  made_for_are_sold start lives o m sales are =
      let office = led_office laws start lives o are.begins are.lead in
      record {
        office = office;
        transform = are.transform;
        key_bits = omega (arith, (office.meters m.number are.meter are.meter_is).key, are.key_is);
        stand = stand_made laws start lives o are.begins are.lead sales are.made;
        to_meter = are.to_meter;
        under = are.under;
        tokens = all_from_contains (λ (s : Sale). IsToken m.forward m.key (fields_of s) s.digits)
            sales (made_for_token start lives o m sales are);
        from_one = from_one_made laws start lives o are.begins are.lead sales are.made;
        in_order = are.in_order;
        rising = rising_made laws start lives o are.begins are.lead sales are.made;
      }
