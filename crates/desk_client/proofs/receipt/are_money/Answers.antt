use Rattle.std.proofs.Common.{◌≡◌, ◌-◌, arith}
use Rattle.desk_client.proofs.NumberLemmas.{same_number}
use Rattle.desk_client.proofs.receipt.are_money.Goals as goal

pub returns-then-price-cents : goal.returns-then-price-cents
returns-then-price-cents c = (
  λ t. absurd cc,
  λ is.
      let price = same_number _ c.in-Some.price is.cents (omega (arith, c.in-Some.ensures.0)) (omega (arith, is.within, is.rule)) c.in-Some.ensures.1 is.price_is in
      let tender = same_number _ c.in-Some-tender_of.tender is.paid (omega (arith, c.in-Some-tender_of.ensures.0)) (omega (arith, is.rule)) c.in-Some-tender_of.ensures.1 is.tender_is in
      absurd (omega (arith, price, tender, is.within, c.if-price-cents.true, c.cents-cents.ensures.value)),
)

pub returns-then-change-cents : goal.returns-then-change-cents
returns-then-change-cents c = (
  λ t. absurd cc,
  λ is.
      let price = same_number _ c.in-Some.price is.cents (omega (arith, c.in-Some.ensures.0)) (omega (arith, is.within, is.rule)) c.in-Some.ensures.1 is.price_is in
      let tender = same_number _ c.in-Some-tender_of.tender is.paid (omega (arith, c.in-Some-tender_of.ensures.0)) (omega (arith, is.rule)) c.in-Some-tender_of.ensures.1 is.tender_is in
      let change = same_number _ c.in-Some-small_number.change (is.paid - is.cents) (omega (arith, c.in-Some-small_number.ensures.0)) (omega (arith, is.rule)) c.in-Some-small_number.ensures.1 is.change_is in
      absurd (c.if-change-cents.true (omega (arith, price, tender, change, c.cents-cents.ensures.value))),
)
