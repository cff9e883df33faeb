use Rattle.std.proofs.Common.{◌≡◌, ℕ, ◌+◌, subst, arith}
use Rattle.sqlite.specs.Order.{column}
use Rattle.book_tables.proofs.RowLemmas.PartLemmas.{entry_in, order_in, token_in, shows_entry, shows_order, shows_sale, shows_token}
use Rattle.book_tables.specs.row.Parts.{month_columns_in}
use Rattle.book_tables.specs.row.Rows.{number}
use Rattle.book_tables.proofs.row.office_records.sale_of.Goals as goal

pub returns-in_default : goal.returns-in_default
returns-in_default c = λ s rule shown.
    c.in_default.ensures (entry_in s)
    (record { number = rule.number; moment = rule.moment; shift = rule.shift })
    (shows_entry (month_columns_in c.args.has_month) c.args.row.now s shown)

pub returns-in_default-order_of : goal.returns-in_default-order_of
returns-in_default-order_of c = λ s rule shown.
    c.in_default-order_of.ensures (order_in s)
    (record { operator = rule.operator; order_ref = rule.order_ref; meter = rule.meter; tender = rule.tender })
    (shows_order (month_columns_in c.args.has_month) c.args.row.now s shown)

pub returns-in_default-token_of : goal.returns-in_default-token_of
returns-in_default-token_of c = λ s rule shown.
    c.in_default-token_of.ensures (token_in s)
    (record { tid = rule.tid; rnd = rule.rnd; tenths = rule.tenths; digits = rule.digits })
    (shows_token (month_columns_in c.args.has_month) c.args.row.now s shown)

pub returns : goal.returns
returns c =
    let entry = c.in-Some.ensures in
    let order = c.in-Some-order_of.ensures in
    let token = c.in-Some-token_of.ensures in
    let price = c.in-Some-between_at.ensures in
    let stands : number c.in-Some-between_at.price ≡ column c.args.row.now (10 + month_columns_in c.args.has_month) =
    subst (λ (on : ℕ). number c.in-Some-between_at.price ≡ column c.args.row.now (10 + on)) c.month_columns-at.ensures.is price.0 in (
      shows_sale (month_columns_in c.args.has_month) c.args.row.now c.in-Some.entry c.in-Some-order_of.order c.in-Some-token_of.token c.in-Some-between_at.price entry.0 order.0 token.0 stands,
      record {
        number = entry.1.number;
        moment = entry.1.moment;
        shift = entry.1.shift;
        operator = order.1.operator;
        order_ref = order.1.order_ref;
        meter = order.1.meter;
        tid = token.1.tid;
        rnd = token.1.rnd;
        tenths = token.1.tenths;
        price = omega (arith, price.1.1, c.cents.ensures.value);
        tender = order.1.tender;
        digits = token.1.digits;
      },
    )
