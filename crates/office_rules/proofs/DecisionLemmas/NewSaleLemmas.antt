-- A granted new sale is what the rules say of it.
use Rattle.std.proofs.Common.{◌≡◌, ℕ, ◌+◌, ◌<◌, ◌≤◌, ◌↔◌, ◌^◌, inl, inr, List, [], ◌∷◌, length, max, Option, Some, None, Ok, refl, sym, ap, subst, arith}
use Rattle.std.specs.Prelude.{Contains, unwrap_or}
use Rattle.std.proofs.lemmas.Bool.{cases_lt}
use Rattle.std.proofs.lemmas.List.Elements.{All-cons, All-weaker}
use Rattle.sts_fields.specs.Calendar.{month_at}
use Rattle.sts_fields.specs.Day.{day_at}
use Rattle.sts_fields.specs.Tid.{FreshOutcome, IsLast, fresh_after, minute_of}
use Rattle.sts_token.specs.Fields.{AreFields, TokenFields}
use Rattle.sts_token.specs.Token.{IsToken, KeepsRange, token_of}
use Rattle.tariff.specs.Purchase.{IsPurchase, purchase_of}
use Rattle.tariff.specs.declared.bought.Buy.{Buy}
use Rattle.tariff.specs.declared.step.Step.{Step}
use Rattle.office_rules.specs.Decision.{MeterAccount, account_of, sell}
use Rattle.office_rules.specs.Office.Lookup.{greatest_of, open_shift, prior, steps_on, used}
use Rattle.office_rules.specs.Law.NewSale.{IsNewSale}
use Rattle.office_rules.specs.Office.{IsOffice, Office, greatest_count}
use Rattle.office_rules.specs.declared.decision.change.Change.{Change}
use Rattle.office_rules.specs.declared.office.meter.Meter.{Meter}
use Rattle.office_rules.specs.declared.decision.request.Order.{Order}
use Rattle.office_rules.specs.declared.decision.request.Stamped.{Stamped}
use Rattle.office_rules.specs.declared.office.sale.Sale.{Sale}
use Rattle.office_rules.proofs.DecisionLemmas.{Selling, sale_change, sale_made, sell_ok}
use Rattle.office_rules.proofs.OfficeLemmas.RowLemmas.{contains_first, contains_further, option_map_some}

-- what the laws of the lower crates say
pub record LowerLaws : Type 0 where
  pub fresh : (used : List ℕ) (now : ℕ) (last : Option ℕ) → IsLast used last → FreshOutcome used now (fresh_after now last)
  pub purchase : (steps : List Step) (prior tender : ℕ) (b : Buy) → (purchase_of steps prior tender ≡ Some b) ↔ IsPurchase steps prior tender b
  pub token : (forward : ℕ → ℕ → ℕ) (key : ℕ) (f : TokenFields) → KeepsRange forward → key < 2 ^ 64 → AreFields f
      → IsToken forward key f (token_of forward key f)

-- the greatest of some numbers is the last identifier where they are those sold
greatest_more : (n : ℕ) (ns : List ℕ) (last : Option ℕ) → IsLast ns last → IsLast (n ∷ ns) (Some (max n (unwrap_or last 0)))
greatest_more n ns None none =
    let alone : max n 0 ≡ n = omega arith in (
      subst (λ g. Contains (n ∷ ns) g) (sym alone) (contains_first n ns),
      All-cons (λ u. u ≤ max n 0) n ns (omega arith) (λ k d below. absurd (omega (arith, ap length none))),
    )
greatest_more n ns (Some last) is = (
  elim (cases_lt n last) [
    | inl less ↦ let g : last ≡ max n last = omega arith in subst (λ g. Contains (n ∷ ns) g) g (contains_further n last ns is.0)
    | inr more ↦ let g : n ≡ max n last = omega arith in subst (λ g. Contains (n ∷ ns) g) g (contains_first n ns)
  ],
  All-cons (λ u. u ≤ max n last) n ns (omega arith) (All-weaker (λ u. u ≤ last) (λ u. u ≤ max n last) (λ u below. omega arith) ns is.1),
)

-- the greatest of some identifiers is the last of them
pub greatest_is_last : (ns : List ℕ) → IsLast ns (greatest_of ns)
greatest_is_last [] = refl
greatest_is_last (n ∷ ns) = greatest_more n ns (greatest_of ns) (greatest_is_last ns)

-- the new sale
module _ (laws : LowerLaws) (forward : ℕ → ℕ → ℕ) (o : Office) (at : Stamped) (order : Order) where
  -- a meter's account at the moment: steps in force, last identifier, month's tenths
  abbrev pub facts_of : Meter → MeterAccount
  facts_of m = record {
    meter = m;
    steps = steps_on o m.tariff (day_at at.moment);
    last = greatest_of (used o order.meter m.base);
    prior = prior o order.meter (month_at at.moment);
  }

  fresh_is : (m : Meter) (now tid : ℕ) → fresh_after now (greatest_of (used o order.meter m.base)) ≡ Ok tid
      → FreshOutcome (used o order.meter m.base) now (Ok tid)
  fresh_is m now tid e = subst (λ r. FreshOutcome (used o order.meter m.base) now r) e
      (laws.fresh (used o order.meter m.base) now _ (greatest_is_last (used o order.meter m.base)))

  pub record Granted (change : Change) : Type 0 where
    pub sale : Sale
    pub new : IsNewSale forward o at order sale
    pub room : length o.sales < greatest_count
    pub change_is : change ≡ sale_change sale

  abbrev Sells : Change → Type 0
  Sells change = Selling forward at.moment at.nibble order (open_shift o order.operator) (account_of o order.meter at.moment) (length o.sales) change

  granted_at : (change : Change) (m : Meter) → KeepsRange forward → IsOffice o → o.meters order.meter ≡ Some m → (s : Sells change)
      → s.facts ≡ facts_of m → Granted change
  granted_at change m range office there s is =
      let minute = subst (λ (f : MeterAccount). minute_of f.meter.base at.moment ≡ Ok s.now) is s.minute_is in
      let fresh = fresh_is m s.now s.tid (subst (λ (f : MeterAccount). fresh_after s.now f.last ≡ Ok s.tid) is s.fresh_is) in
      let buys = subst (λ (f : MeterAccount). purchase_of f.steps f.prior order.tender ≡ Some s.buy) is s.buy_is in
      let bought = (laws.purchase _ _ _ s.buy).0 buys in
      record {
        sale = sale_made forward at.moment at.nibble order s.opened (facts_of m) s.tid s.buy (length o.sales + 1);
        new = record {
          to_meter = m;
          in_shift = s.opened;
          minute = s.now;
          bought = s.buy;
          meter_is = there;
          shift_is = s.shift_is;
          minute_is = minute;
          bought_is = bought;
          number = refl;
          moment = refl;
          shift = refl;
          operator = refl;
          order_ref = refl;
          meter = refl;
          base = refl;
          tid = fresh;
          rnd = refl;
          tenths = refl;
          price = refl;
          tender = refl;
          digits = laws.token forward m.key _ range (office.meters order.meter m there).key
              (record { rnd = at.nibble_in_range; tid = omega (arith, fresh.0.may_sell.within); tenths = bought.representable });
        };
        room = s.room;
        change_is = subst (λ (f : MeterAccount). change ≡ sale_change
            (sale_made forward at.moment at.nibble order s.opened f s.tid s.buy (length o.sales + 1))) is s.change_is;
      }

  -- a sale that is granted is a new sale by the rules, and there is room for it
  pub granted_sale : (change : Change) → KeepsRange forward → IsOffice o
      → sell forward at.moment at.nibble order (open_shift o order.operator) (account_of o order.meter at.moment) (length o.sales) ≡ Ok change → Granted change
  granted_sale change range office e =
      let s = sell_ok forward at.moment at.nibble order (open_shift o order.operator) (account_of o order.meter at.moment) (length o.sales) change e in
      let m = option_map_some facts_of (o.meters order.meter) s.facts s.meter_is in
      granted_at change m.0 range office m.1 s (sym m.2)
