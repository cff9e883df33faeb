use Rattle.desk_messages.proofs.PlainLemmas.{plain_digits}
use Rattle.desk_client.proofs.CellLemmas.{one_text}
use Rattle.desk_client.proofs.columns.TokenCellColumn.column_law.Goals as goal

pub returns : goal.returns
returns c = record {
  tellable = λ v is. plain_digits v.of is.digits;
  one = λ v w is are e.
      let same = one_text v.of w.of e in
      λ i. record { of = same i };
}
