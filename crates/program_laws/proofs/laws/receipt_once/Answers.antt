use Rattle.program_laws.proofs.ReceiptLemmas.{json_names, receipt_names}
use Rattle.program_laws.proofs.laws.receipt_once.Goals as goal

pub returns : goal.returns
returns c =
    let plain = c.export_fields_law.ensures.plain in
    record {
      receipt = λ o s t is here there. receipt_names plain o s t is here there;
      json = λ o s t is here there. json_names plain o s t is here there;
    }
