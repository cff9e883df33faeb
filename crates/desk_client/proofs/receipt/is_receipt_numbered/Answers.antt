use Rattle.std.proofs.Common.{◌≡◌, ◌∙◌, List, ℕ, [], ◌++◌, codes, map, take, ap, sym, refl, arith}
use Rattle.std.proofs.lemmas.List.{length-map}
use Rattle.desk_client.specs.Receipt.{receipt_ends, receipt_values}
use Rattle.records.specs.Record.{now}
use Rattle.desk_client.specs.Text.{woven}
use Rattle.desk_client.proofs.ReadingLemmas.{cut_off}
use Rattle.desk_client.proofs.ReceiptLemmas.{plain_receipt, receipt-woven}
use Rattle.desk_client.proofs.TimeLemmas.{plain_time}
use Rattle.desk_client.proofs.WovenLemmas.{one_reading}
use Rattle.desk_client.proofs.receipt.is_receipt_numbered.Goals as goal

pub returns-in-Some : goal.returns-in-Some
returns-in-Some c =
    let of = c.in-Some.values.of in
    let found = c.in-Some.ensures in
    let plain = plain_time c.calendar_law.ensures.each_moment c.calendar_law.ensures.ranges in (
      λ yes.
          let are = c.are_receipt_numbered.ensures.0 yes in
          record {
            sale = are.sale;
            told = are.told;
            named = are.named;
            written = found.1 ∙ ap (λ (t : List ℕ). codes "SALE " ++ t) (sym (cut_off (map now of) receipt_ends 8 [] (omega arith))
                ∙ ap (λ (vs : List (List ℕ)). woven vs receipt_ends []) are.are) ∙ sym (receipt-woven are.sale);
          },
      λ is.
          c.are_receipt_numbered.ensures.1 (record {
            sale = is.sale;
            told = is.told;
            named = is.named;
            are = one_reading c.args.text.now (codes "SALE ") (map now of) (receipt_values is.sale) receipt_ends
                (omega (arith, found.2, length-map of now)) refl (refl, (refl, (refl, (refl, (refl, (refl, (refl, (refl, tt))))))))
                found.0 (plain_receipt c.amount_law.ensures.greatest plain is.sale is.told) found.1 (is.written ∙ receipt-woven is.sale);
          }),
    )

pub returns-in-None : goal.returns-in-None
returns-in-None c = (
  λ t. absurd cc,
  λ is.
      absurd (c.in-None.ensures (receipt_values is.sale) refl
      (plain_receipt c.amount_law.ensures.greatest (plain_time c.calendar_law.ensures.each_moment c.calendar_law.ensures.ranges) is.sale is.told)
      (is.written ∙ receipt-woven is.sale)),
)
