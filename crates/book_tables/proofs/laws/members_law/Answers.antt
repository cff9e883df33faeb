use Rattle.book_tables.proofs.WritingLemmas.EditLemmas.{edited_members, no_members}
use Rattle.book_tables.proofs.ReadingLemmas.FoundLemmas.{found_numbered, found_open, found_ref, found_tariff, meter_found}
use Rattle.book_tables.proofs.laws.members_law.Goals as goal

pub returns-clause-empty : goal.returns-clause-empty
returns-clause-empty c = no_members

pub returns-clause-edited : goal.returns-clause-edited
returns-clause-edited c = edited_members

pub returns-clause-tariff : goal.returns-clause-tariff
returns-clause-tariff c = λ rows o name are. found_tariff rows o are name

pub returns-clause-meter : goal.returns-clause-meter
returns-clause-meter c = meter_found

pub returns-clause-shift_numbered : goal.returns-clause-shift_numbered
returns-clause-shift_numbered c = λ o number office. found_numbered (λ s. s.number) o.shifts number office.shift_numbers

pub returns-clause-open_shift : goal.returns-clause-open_shift
returns-clause-open_shift c = found_open

pub returns-clause-sale_numbered : goal.returns-clause-sale_numbered
returns-clause-sale_numbered c = λ o number office. found_numbered (λ s. s.number) o.sales number office.sale_numbers

pub returns-clause-sale_of_ref : goal.returns-clause-sale_of_ref
returns-clause-sale_of_ref c = found_ref
