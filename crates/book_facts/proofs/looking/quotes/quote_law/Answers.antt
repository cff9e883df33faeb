use Rattle.std.proofs.Common.{length}
use Rattle.office_rules.specs.Decision.{account_of}
use Rattle.office_rules.specs.Office.Lookup.{open_shift}
use Rattle.book_facts.proofs.LookupLemmas.{sale_quoted}
use Rattle.book_facts.proofs.looking.quotes.quote_law.Goals as goal

pub returns : goal.returns
returns g forward o moment nibble order some none =
    rw none (sale_quoted forward moment nibble order (open_shift o order.operator) (account_of o order.meter moment) (length o.sales) some)
