use Rattle.std.proofs.Common.{rules, ◌≡◌, ◌∙◌, ℕ, length, refl, sym}
use Rattle.csv.specs.Records.{fields_of}
use Rattle.papers.specs.Import.{IsRowFault}
use Rattle.papers.specs.declared.file_form.FileForm.TheVariants.{DatedTariffs}
use Rattle.sts_fields.specs.Day.{IsDayText}
use Rattle.papers.proofs.ImportLemmas.{from-outside, if_err, no-from, not-empty}
use Rattle.papers.proofs.read_row.read_dated_tariff.Goals as goal

pub returns-in_err-name-clause-fault : goal.returns-in_err-name-clause-fault
returns-in_err-name-clause-fault c =
    let fault = c.in_err-name.ensures.fault DatedTariffs refl (sym c.len.ensures ∙ c.if-len-ne3.false) in
    if_err c.from_residual.result c.in_err-name.field-0.0 (IsRowFault DatedTariffs (fields_of c.args.raw.now) c.args.number) c.from_residual.ensures.1 fault

pub returns-in-Err-clause-fault : goal.returns-in-Err-clause-fault
returns-in-Err-clause-fault c =
    let count : length (fields_of c.args.raw.now) ≡ 3 = sym c.len.ensures ∙ c.if-len-ne3.false in
    let some = not-empty c.is_empty.result c.field-from.result.now c.is_empty.ensures c.if-is_empty.false in
    let none : (day : ℕ) → ¬ IsDayText c.field-from.result.now day = search rules in
    let wrong = no-from c.field-from.result.now some none in
    (refl, (count, from-outside _ _ _ _ c.in_ok-name.ensures.says count (rw c.field-from.ensures at wrong)))
