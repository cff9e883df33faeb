use Rattle.sts_fields.specs.Base.{year_of}
use Rattle.records.specs.Cell.{held}
use Rattle.desk_client.proofs.CellLemmas.{IsYear, made, not_made, year_known, year_small}
use Rattle.desk_client.proofs.columns.BaseCellColumn.of_cell.Goals as goal

pub returns-in_default : goal.returns-in_default
returns-in_default c = λ v h. c.in_default.ensures (year_of v.of) (year_small v.of, h.1)

pub returns-in-Some-of_year : goal.returns-in-Some-of_year
returns-in-Some-of_year c =
    (tt, made year_of (held c.args.told.now) c.in-Some.year c.of_year.result c.in-Some-of_year.of c.in-Some-of_year.is c.of_year.ensures.value c.in-Some.ensures.1)

pub returns-in-None : goal.returns-in-None
returns-in-None c = λ v h.
    not_made IsYear (held c.args.told.now) c.in-Some.year (year_of v.of) c.of_year.result c.in-None.is c.of_year.ensures.known c.in-Some.ensures.1
    (year_known v.of) h.1
