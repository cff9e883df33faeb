use Rattle.std.proofs.Common.{arith}
use Rattle.sts_fields.specs.Base.{year_of}
use Rattle.desk_client.proofs.CellLemmas.{one_number, same_year, year_small}
use Rattle.desk_client.proofs.columns.BaseCellColumn.column_law.Goals as goal

pub returns : goal.returns
returns c = record {
  tellable = λ v is. omega (arith, year_small v.of);
  one = λ v w is are e.
      let same = same_year v.of w.of (one_number (year_of v.of) (year_of w.of) e) in
      λ i. record { of = same i };
}
