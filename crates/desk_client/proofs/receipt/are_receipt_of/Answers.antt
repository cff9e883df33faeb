use Rattle.std.proofs.Common.{◌≡◌, ◌≤◌, ◌∙◌, [], length, sym, subst, refl, arith}
use Rattle.sts_token.specs.Reading.{IsOfClassZero}
use Rattle.sts_fields.specs.declared.base.Base.TheVariants.{Y1993}
use Rattle.desk_client.specs.Receipt.{receipt_values}
use Rattle.desk_client.proofs.FoundLemmas.{first_value_at, from_place, no_value}
use Rattle.desk_client.proofs.NumberLemmas.{not_unlike, unlike_not}
use Rattle.desk_client.proofs.ReceiptLemmas.{same_digits, same_eight, spaced-is}
use Rattle.desk_client.proofs.receipt.are_receipt_of.Goals as goal

pub returns-then-ne : goal.returns-then-ne
returns-then-ne c = (
  λ t. absurd cc,
  λ is.
      let of = c.args.values.now.of in
      let owner = first_value_at 8 of (receipt_values is.sale) 1 no_value (omega arith) (omega (arith, c.type_inv.values)) is.are in
      absurd (unlike_not _ _ c.if-ne.ensures (owner ∙ is.named ∙ sym c.as_bytes.ensures.view)),
)

pub returns-in-Some-spaced_token : goal.returns-in-Some-spaced_token
returns-in-Some-spaced_token c =
    let of = c.args.values.now.of in
    let len : 8 ≤ length of = omega (arith, c.type_inv.values) in
    let money = c.are_money.ensures.0 c.if-not-are_money.false in
    let digits = c.in-Some-spaced_token.digits in
    let token = c.in-Some-spaced_token.ensures in (
      λ yes.
          record {
            sale = record {
              number = c.in-Some.field-0;
              moment = c.in-Some-time_of.field-0;
              shift = 0;
              operator = [];
              order_ref = [];
              meter = c.args.meter.now;
              base = Y1993;
              tid = 0;
              rnd = 0;
              tenths = c.in-Some-energy_of.field-0;
              price = money.cents;
              tender = money.paid;
              digits = digits;
            };
            told = record {
              number = c.in-Some.ensures.0;
              meter = c.as_bytes.ensures.rule;
              moment = c.in-Some-time_of.ensures.0;
              tenths = c.in-Some-energy_of.ensures.0;
              price = money.within;
              tender = money.rule;
              digits = c.is_of_class_zero.ensures.0 yes;
            };
            named = refl;
            are = from_place no_value 8 0 of len
                ∙ same_eight _ _ _ _ _ _ _ _ _ _ _ _ _ _ _ _ c.in-Some.ensures.1 (not_unlike _ _ c.if-ne.ensures ∙ c.as_bytes.ensures.view)
                c.in-Some-time_of.ensures.1 c.in-Some-energy_of.ensures.1 money.price_is money.tender_is money.change_is
                (token.1 ∙ spaced-is digits token.0);
          },
      λ is.
          let there = first_value_at 8 of (receipt_values is.sale) 7 no_value (omega arith) len is.are in
          let same = same_digits _ digits is.sale.digits token.0 is.told.digits.digits token.1 there in
          c.is_of_class_zero.ensures.1 (subst IsOfClassZero (sym same) is.told.digits),
    )

pub returns-in-None : goal.returns-in-None
returns-in-None c = (
  λ t. absurd cc,
  λ is.
      let of = c.args.values.now.of in
      let token = first_value_at 8 of (receipt_values is.sale) 7 no_value (omega arith) (omega (arith, c.type_inv.values)) is.are in
      let digits = is.told.digits.digits in
      absurd (c.in-None.ensures is.sale.digits (digits, token ∙ sym (spaced-is is.sale.digits digits))),
)
