use Rattle.std.proofs.Common.{◌≡◌, ◌≤◌, ◌∙◌, length, sym, arith}
use Rattle.desk_client.specs.Receipt.{receipt_values}
use Rattle.desk_client.proofs.FoundLemmas.{first_value_at, no_value}
use Rattle.desk_client.proofs.NumberLemmas.{same_number}
use Rattle.desk_client.proofs.receipt.are_receipt_numbered.Goals as goal

pub returns-then-own-number : goal.returns-then-own-number
returns-then-own-number c = (
  λ t. absurd cc,
  λ is.
      let of = c.args.values.now.of in
      let there = first_value_at 8 of (receipt_values is.sale) 0 no_value (omega arith) (omega (arith, c.type_inv.values)) is.are in
      let same = same_number _ c.in-Some.own is.sale.number (omega (arith, c.in-Some.ensures.0.most)) (omega (arith, is.told.number.most))
      c.in-Some.ensures.1 there in
      absurd (c.if-own-number.true (same ∙ is.named)),
)

pub returns-in-Some-meter_of : goal.returns-in-Some-meter_of
returns-in-Some-meter_of c =
    let of = c.args.values.now.of in
    let len : 8 ≤ length of = omega (arith, c.type_inv.values) in (
      λ yes.
          let are = c.are_receipt_of.ensures.0 yes in
          let there = first_value_at 8 of (receipt_values are.sale) 0 no_value (omega arith) len are.are in
          let same = same_number _ c.in-Some.own are.sale.number (omega (arith, c.in-Some.ensures.0.most)) (omega (arith, are.told.number.most))
          c.in-Some.ensures.1 there in
          record { sale = are.sale; told = are.told; named = omega (arith, same, c.if-own-number.false); are = are.are },
      λ is.
          let owner = first_value_at 8 of (receipt_values is.sale) 1 no_value (omega arith) len is.are in
          c.are_receipt_of.ensures.1 (record {
            sale = is.sale;
            told = is.told;
            named = sym owner ∙ c.in-Some-meter_of.ensures.1;
            are = is.are;
          }),
    )
