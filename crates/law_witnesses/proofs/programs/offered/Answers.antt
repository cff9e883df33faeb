use Rattle.std.proofs.Common.{◌≡◌, ◌∙◌, Ok, ap, sym}
use Rattle.sqlite.proofs.Callers.{memory_is_clean}
use Rattle.asks.specs.declared.lookup.Lookup.TheVariants.{Quote}
use Rattle.vend_core.specs.Law.Life.{present}
use Rattle.law_witnesses.specs.Offices.{life_of}
use Rattle.law_witnesses.proofs.OfficeLemmas.{finds_by_rules}
use Rattle.law_witnesses.proofs.programs.offered.Goals as goal

pub returns-in-Some-quote_of : goal.returns-in-Some-quote_of
returns-in-Some-quote_of c =
    let it = c.in-Some.ensures {u = tt} in
    let life = life_of it.forward c.args.ats.now c.in-Some._replies.items in
    let o = present life in
    let number = c.args.meter.now in
    let finds = finds_by_rules o c.args.moment (Quote number c.args.tender) c.look_up.result c.in-Ok.found c.in-Ok.is
    (c.look_up.ensures.says.of_life (memory_is_clean c.look_up.new.self.conn) life it.keeps.kept) in
    let offer = c.offer_law.ensures o c.args.moment number c.args.tender c.in-Some-quote_of.quote
    (sym (ap Ok (sym (c.in-Some-quote_of.ensures {u = tt})) ∙ finds)) in
    (offer.account, offer.bought)
