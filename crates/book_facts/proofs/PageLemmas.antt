-- The sales of a page are those of the office.
use Rattle.std.proofs.Common.{◌≡◌, ℕ, List, nat_lt, take, IsTrue, ap, ◌∙◌}
use Rattle.std.specs.List.{filter}
use Rattle.sqlite.specs.State.{State}
use Rattle.office_rules.specs.Office.{Office}
use Rattle.office_rules.specs.Law.Store.{sales_above}
use Rattle.office_rules.specs.declared.office.sale.Sale.{Sale}
use Rattle.book_tables.specs.reading.Reading.{AreOfOffice, HasTableRows}
use Rattle.book_tables.specs.Kept.{sales_kept}
use Rattle.book_tables.proofs.OfficeTableLemmas.{has_table_rows, sales_in}
use Rattle.book_tables.specs.row.Rows.{Rows}
use Rattle.book_states.specs.Stores.{Stores}

-- the rows of the sales are the office's sales
pub page_of : (o : Office) (s : State) (number limit : ℕ) (found : List Sale) → Stores s o → IsTrue s.is_open
    → ((rows : Rows) → HasTableRows sales_kept s rows → AreOfOffice rows → found
    ≡ take limit (filter (λ sale. nat_lt number sale.number) rows.sales)) → found ≡ sales_above o number limit
page_of o s number limit found at is_open given =
    let held = at.members is_open in
    given held.0 (has_table_rows sales_in s held.0 (λ _. held.1)) (o, at.office, held.2)
    ∙ ap (λ sales. take limit (filter (λ sale. nat_lt number sale.number) sales)) held.2.sales
