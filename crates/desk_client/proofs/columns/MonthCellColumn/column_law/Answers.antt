use Rattle.std.proofs.Common.{arith}
use Rattle.desk_client.proofs.CellLemmas.{one_number}
use Rattle.desk_client.proofs.columns.MonthCellColumn.column_law.Goals as goal

pub returns : goal.returns
returns c = record {
  tellable = λ v is. omega (arith, is);
  one = λ v w is are e.
      let same = one_number v.of w.of e in
      λ i. record { of = same i };
}
