use Rattle.desk_messages.proofs.PlainLemmas.{plain_letters}
use Rattle.desk_client.proofs.CellLemmas.{one_text}
use Rattle.desk_client.proofs.columns.OperatorCellColumn.column_law.Goals as goal

pub returns : goal.returns
returns c = record {
  tellable = λ v is. plain_letters v.of is.bytes;
  one = λ v w is are e.
      let same = one_text v.of w.of e in
      λ i. record { of = same i };
}
