-- What `quote` of a file prints is a purchase that `quote` prints of the meter's steps.
use Rattle.std.proofs.Common.{◌≡◌, ◌∙◌, ℕ, ◌-◌, List, Option, Some, None, option_map, Result, Ok, Err, ap, refl, subst}
use Rattle.std.specs.Option.{ok_or}
use Rattle.sts_fields.specs.Tid.{fresh_after, minute_of}
use Rattle.sts_fields.specs.Text.{Text}
use Rattle.tariff.specs.Purchase.{purchase_of}
use Rattle.tariff.specs.declared.bought.Buy.{Buy}
use Rattle.tariff.specs.declared.step.Step.{Step}
use Rattle.office_rules.specs.Decision.{◌>>=◌, MeterAccount, next_number, or_refusal}
use Rattle.office_rules.specs.Office.{Office}
use Rattle.office_rules.specs.declared.decision.refusal.Refusal.{Refusal}
use Rattle.office_rules.specs.declared.decision.refusal.Refusal.TheVariants as refusals
use Rattle.book_facts.specs.Lookups.{quote, quote_for}
use Rattle.book_states.specs.declared.lookup.Found.{Found}
use Rattle.book_states.specs.declared.lookup.Found.TheVariants as found
use Rattle.book_states.specs.declared.lookup.Quote.{Quote}
use Rattle.office_commands.specs.commands.LookedUp.{IsPurchaseFor}
use Rattle.desk_commands.specs.print.FoundTexts.{purchase_in}

-- what a test that was passed gave
then_ok : {A B : Type 0} (r : Result A Refusal) (f : A → Result B Refusal) (y : B) → r >>= f ≡ Ok y → (x : A) × (r ≡ Ok x) × (f x ≡ Ok y)
then_ok (Ok x) f y is = (x, refl, is)
then_ok (Err why) f y is = cc

there_ok : {A : Type 0} (o : Option A) (why : Refusal) (x : A) → ok_or o why ≡ Ok x → o ≡ Some x
there_ok None why x is = cc
there_ok (Some y) why x is = cc

-- the change of a purchase is what is left of the tender
change_of_some : (o : Option ℕ) (f : ℕ → Buy) (tender : ℕ) (b : Buy) → ((code : ℕ) → (f code).change ≡ tender - (f code).price)
    → option_map f o ≡ Some b → b.change ≡ tender - b.price
change_of_some None f tender b each is = cc
change_of_some (Some code) f tender b each is =
    let same : f code ≡ b = cc in
    subst (λ (x : Buy). x.change ≡ tender - x.price) same (each code)

change_left : (steps : List Step) (prior tender : ℕ) (b : Buy) → purchase_of steps prior tender ≡ Some b → b.change ≡ tender - b.price
unfolding purchase_of
change_left steps prior tender b is = change_of_some _ _ tender b (λ code. refl) is

abbrev found_quote : Quote → Result Found Refusal
found_quote q = Ok (found.Quote q)

same_quote : (a b : Quote) → found_quote a ≡ found_quote b → a ≡ b
same_quote a b is = cc

same_purchase : (b : Buy) (a q : Quote) (tender : ℕ) → a ≡ q → a.tender ≡ tender → a.tenths ≡ b.tenths → a.price ≡ b.price → b.change
    ≡ tender - b.price → b ≡ purchase_in q
same_purchase b a q tender is of_tender of_tenths of_price change =
    subst (λ (x : Quote). b ≡ purchase_in x) is (rw (of_tender, of_tenths, of_price, ← change) refl)

bought_for : (office : Office) (moment : ℕ) (number : Text) (tender count : ℕ) (account : Option MeterAccount) (q : Quote)
    → quote_for moment number tender account count ≡ Ok (found.Quote q)
    → (m : MeterAccount) × (account ≡ Some m) × (purchase_of m.steps m.prior tender ≡ Some (purchase_in q))
bought_for office moment number tender count account q is =
    let there = then_ok (ok_or account refusals.NoMeter) _ _ is in
    let m = there.0 in
    let now = then_ok (or_refusal (minute_of m.meter.base moment)) _ _ there.2 in
    let tid = then_ok (or_refusal (fresh_after now.0 m.last)) _ _ now.2 in
    let buys = then_ok (ok_or (purchase_of m.steps m.prior tender) refusals.TooLittle) _ _ tid.2 in
    let next = then_ok (next_number count) _ _ buys.2 in
    let bought = there_ok (purchase_of m.steps m.prior tender) refusals.TooLittle buys.0 buys.1 in (
      m,
      there_ok account refusals.NoMeter m there.1,
      bought ∙ ap Some (same_purchase buys.0 _ q tender (same_quote _ q next.2) refl refl refl (change_left m.steps m.prior tender buys.0 bought)),
    )

-- a quote that an office gives is a purchase by the steps of the meter's account
pub purchase_for : (office : Office) (moment : ℕ) (meter : Text) (tender : ℕ) (q : Quote) → quote office moment meter tender
    ≡ Ok (found.Quote q) → IsPurchaseFor office moment meter tender q
purchase_for office moment meter tender q is =
    let all = bought_for office moment meter tender _ _ q is in
    record { account = all.0; of_meter = all.1; bought = all.2 }
