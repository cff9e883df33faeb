use Rattle.std.proofs.Common.{refl}
use Rattle.book_tables.specs.reading.Reading.{told}
use Rattle.one_table.proofs.ReadsOnlyLemmas.{fail_as, read_on}
use Rattle.book_tables.proofs.row.record.first_record.Goals as goal

pub returns-in_err-found-clause-reads : goal.returns-in_err-found-clause-reads
returns-in_err-found-clause-reads g c =
    fail_as (told c.in_err-found.field-0.0) c.from_residual.result c.from_residual.ensures.1 c.in_err-found.ensures.reads
    (λ fails. (c.in_err-found.field-0.0, refl, fails))

pub returns-in-Some-clause-reads : goal.returns-in-Some-clause-reads
returns-in-Some-clause-reads g c = read_on c.in_ok-found.ensures.reads
