use Rattle.std.proofs.Common.{◌≡◌, ◌∙◌, ℕ, Ok, Err, ap, sym}
use Rattle.sqlite.proofs.Callers.{memory_is_clean}
use Rattle.asks.specs.declared.lookup.Lookup.TheVariants.{Quote, SaleOfRef}
use Rattle.vend_core.specs.Law.Life.{present}
use Rattle.law_witnesses.specs.Offices.{life_of}
use Rattle.law_witnesses.proofs.OfficeLemmas.{finds_by_rules}
use Rattle.law_witnesses.proofs.QuoteLemmas.{no_sale_by_rules, sold_as_quoted}
use Rattle.law_witnesses.proofs.offices.quoted_and_sold.Goals.{After-drop-books-in-Some-sold_by}
use Rattle.law_witnesses.proofs.offices.quoted_and_sold.Goals as goal

both : (c : After-drop-books-in-Some-sold_by) → (c.in-Some-sold_by.sale.tenths ≡ c.in-Some-quote_of.quote.tenths) × (c.in-Some-sold_by.sale.price ≡ c.in-Some-quote_of.quote.price)
both c =
    let it = c.in-Some.ensures {u = tt} in
    let life = life_of it.forward c.args.ats.now c.in-Some._replies.items in
    let o = present life in
    let order = c.args.order.now in
    let first = c.look_up.ensures.says in
    let second = c.look_up-2.ensures.says in
    let unused = no_sale_by_rules o c.args.moment (SaleOfRef order.operator order.order_ref) c.look_up.result (cc)
    (first.of_life (memory_is_clean c.look_up.new.self.conn) life it.keeps.kept) in
    let kept = first.reads.keeps life it.keeps.kept in
    let quoted = finds_by_rules o c.args.moment (Quote order.meter order.tender) c.look_up-2.result c.in-Ok.found c.in-Ok.is
    (second.of_life (memory_is_clean c.look_up-2.new.self.conn) life kept) in
    let asked = c.ask.ensures.says in
    let after = asked.2.keeps life (second.reads.keeps life kept) (memory_is_clean c.ask.new.self.conn) in
    sold_as_quoted c.quote_law.ensures life asked.0 order c.args.moment c.in-Some-quote_of.quote c.in-Some-sold_by.sale c.ask.result
    (c.in-Some-sold_by.ensures {u = tt}) after.is_life asked.1.at_moment asked.1.for_request unused
    (ap Ok (sym (c.in-Some-quote_of.ensures {u = tt})) ∙ quoted)

pub returns-in-Some-sold_by-clause-tenths : goal.returns-in-Some-sold_by-clause-tenths
returns-in-Some-sold_by-clause-tenths c = (both c).0

pub returns-in-Some-sold_by-clause-price : goal.returns-in-Some-sold_by-clause-price
returns-in-Some-sold_by-clause-price c = (both c).1
