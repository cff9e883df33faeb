use Rattle.book_tables.specs.row.Rows.{shown_meter}
use Rattle.book_tables.specs.row.Values.{AreMeterValues}
use Rattle.book_tables.proofs.HoldsLemmas.{held_as, one_format, stands_once, stands_present, untaken_stands}
use Rattle.book_tables.proofs.RowLemmas.RecordLemmas.{one_shown_meter, reads_itself}
use Rattle.book_tables.proofs.FormatLemmas.TextLemmas.{all_defined}
use Rattle.book_tables.proofs.RowLemmas.ValueLemmas.{meters_keep, sales_keep, shifts_keep, steps_keep}
use Rattle.book_tables.proofs.laws.stands_law.Goals as goal

pub returns-clause-one_office : goal.returns-clause-one_office
returns-clause-one_office c = stands_once

pub returns-clause-untaken : goal.returns-clause-untaken
returns-clause-untaken c = untaken_stands

pub returns-clause-members : goal.returns-clause-members
returns-clause-members c = stands_present

pub returns-clause-held : goal.returns-clause-held
returns-clause-held c = held_as

pub returns-clause-one_format : goal.returns-clause-one_format
returns-clause-one_format c = one_format

pub returns-clause-steps : goal.returns-clause-steps
returns-clause-steps c = λ o name steps office e. steps_keep o office name steps e

pub returns-clause-meters : goal.returns-clause-meters
returns-clause-meters c = λ o number m office e. meters_keep o office number m e

pub returns-clause-shifts : goal.returns-clause-shifts
returns-clause-shifts c = shifts_keep

pub returns-clause-sales : goal.returns-clause-sales
returns-clause-sales c = sales_keep

pub returns-clause-meter_back : goal.returns-clause-meter_back
returns-clause-meter_back c = λ m read ok. reads_itself shown_meter AreMeterValues m read (λ n n_ok. one_shown_meter n m n_ok.key ok.key) ok

pub returns-clause-defined : goal.returns-clause-defined
returns-clause-defined c = all_defined
