use Rattle.std.proofs.Common.{◌∙◌, refl, sym}
use Rattle.csv.specs.Records.{fields_of}
use Rattle.papers.specs.Import.{IsRowFault}
use Rattle.papers.specs.declared.file_form.FileForm.TheVariants.{Tariffs}
use Rattle.papers.proofs.ImportLemmas.{if_err}
use Rattle.papers.proofs.read_row.read_tariff.Goals as goal

pub returns-in_err-name-clause-fault : goal.returns-in_err-name-clause-fault
returns-in_err-name-clause-fault c =
    let fault = c.in_err-name.ensures.fault Tariffs refl (sym c.len.ensures ∙ c.if-len-ne2.false) in
    if_err c.from_residual.result c.in_err-name.field-0.0 (IsRowFault Tariffs (fields_of c.args.raw.now) c.args.number) c.from_residual.ensures.1 fault
