use Rattle.std.proofs.Common.{List, sym, subst}
use Rattle.office_rules.specs.declared.office.sale.Sale.{Sale}
use Rattle.book_tables.specs.Stands.{AreTotalsOf}
use Rattle.audit_rows.specs.Entries.{rows_of}
use Rattle.audit_lists.specs.Told.{rules_of}
use Rattle.audit_lists.proofs.KeptLemmas.{kept}
use Rattle.audit_lists.proofs.TieLemmas.{finds_broken}
use Rattle.audit_lists.proofs.ToldLemmas.{all_kept, shows_kept}
use Rattle.audit_lists.proofs.TotalLemmas.{totals_keep}
use Rattle.audit_lists.proofs.laws.office_law.Goals as goal

pub returns-clause-none : goal.returns-clause-none
returns-clause-none c n db rows f o some known has read broken stands =
    let only = c.stored_law.ensures.only n db (rows_of rows) o some known has read.has read.keep stands in
    finds_broken (rules_of n rows) f broken (all_kept n rows (kept rows only.0.0 o only.0.1 stands.office) (λ two.
    let members = only.1 two in
    totals_keep rows (subst (λ (sales : List Sale). AreTotalsOf sales (rows_of rows)) (sym members.sales) members.totals)))

pub returns-clause-shows : goal.returns-clause-shows
returns-clause-shows c n db rows read = shows_kept n db rows read
