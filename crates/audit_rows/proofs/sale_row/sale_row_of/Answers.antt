use Rattle.std.proofs.Common.{sym, ◌∙◌}
use Rattle.audit_rows.proofs.PartLemmas.{shows_month, shows_row, shows_sale}
use Rattle.audit_rows.proofs.sale_row.sale_row_of.Goals as goal

pub returns-in_default : goal.returns-in_default
returns-in_default c = λ s rule shown. c.in_default.ensures s.sale rule.sale (shows_sale c.args.row.now s shown)

pub returns-in_default-word_at : goal.returns-in_default-word_at
returns-in_default-word_at c = λ s rule shown. c.in_default-word_at.ensures s.month rule.month (shows_month c.args.row.now s shown)

pub returns : goal.returns
returns c =
    let sale = c.in-Some.ensures in
    let month = c.in-Some-word_at.ensures in (
      shows_row c.args.row.now c.in-Some.sale c.in-Some-word_at.month (sym c.column_count.ensures ∙ c.if-column_count-ne14.false) sale.0 month.0,
      record { sale = sale.1; month = month.1 },
    )
