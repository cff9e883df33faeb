use Rattle.std.proofs.Common.{◌≡◌, ◌∙◌, [], ◌∷◌, Ok, ap, refl, sym}
use Rattle.sqlite.proofs.Callers.{memory_is_clean}
use Rattle.book_facts.specs.Lookups.{last_sale}
use Rattle.asks.specs.declared.lookup.Lookup.TheVariants.{LastSale}
use Rattle.vend_core.specs.Law.Life.{present}
use Rattle.law_witnesses.specs.Offices.{life_of}
use Rattle.law_witnesses.proofs.OfficeLemmas.{finds_by_rules, found_last, leads}
use Rattle.law_witnesses.proofs.offices.last_sale_to.Goals as goal

pub returns-in-Some-sale_of : goal.returns-in-Some-sale_of
returns-in-Some-sale_of c =
    let it = c.in-Some.ensures {u = tt} in
    let life = life_of it.forward c.args.ats.now c.in-Some._replies.items in
    let o = present life in
    let number = c.args.meter.now in
    let sale = c.in-Some-sale_of.sale in
    let finds = finds_by_rules o c.args.moment (LastSale number) c.look_up.result c.in-Ok.found c.in-Ok.is
    (c.look_up.ensures.says.of_life (memory_is_clean c.look_up.new.self.conn) life it.keeps.kept) in
    let last = found_last (o.meters number) (last_sale o number) sale (ap Ok (sym (c.in-Some-sale_of.ensures {u = tt})) ∙ finds) in
    (c.last_sale_law.ensures.last (life ∷ []) o number sale (leads life (it.keeps.kept it.keeps.clean).is_life refl) last).meter
