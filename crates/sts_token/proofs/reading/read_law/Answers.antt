use Rattle.sts_token.proofs.NumberLemmas.{AmountLaw}
use Rattle.sts_token.proofs.ReadingLemmas.{one_reading, one_text, reads_reading_of, token_reads}
use Rattle.sts_token.proofs.reading.read_law.Goals as goal

amounts : goal.After-amount_law → AmountLaw
amounts c =
    let law = c.amount_law.ensures in
    record { each_amount = law.each_amount; each_code = law.each_code; one_code = law.one_code }

pub returns-clause-computed : goal.returns-clause-computed
returns-clause-computed c = reads_reading_of (amounts c)

pub returns-clause-one_reading : goal.returns-clause-one_reading
returns-clause-one_reading c = one_reading (amounts c)

pub returns-clause-written : goal.returns-clause-written
returns-clause-written c = λ forward inverse key f transform small fields.
    (fields, token_reads (amounts c) forward inverse key f transform small fields)

pub returns-clause-one_text : goal.returns-clause-one_text
returns-clause-one_text c = one_text (amounts c)
