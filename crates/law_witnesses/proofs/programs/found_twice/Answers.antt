use Rattle.std.proofs.Common.{◌≡◌, ◌∙◌, Ok, Result, ap, inl, sym}
use Rattle.sqlite.proofs.Callers.{memory_is_clean}
use Rattle.asks.specs.declared.lookup.Lookup.TheVariants.{LastSale}
use Rattle.book_states.specs.declared.lookup.Found.{Found}
use Rattle.book_states.specs.declared.lookup.Found.TheVariants as found
use Rattle.office_rules.specs.declared.decision.refusal.Refusal.{Refusal}
use Rattle.vend_core.specs.Law.Life.{present}
use Rattle.law_witnesses.specs.Offices.{life_of}
use Rattle.law_witnesses.proofs.OfficeLemmas.{finds_by_rules}
use Rattle.law_witnesses.proofs.programs.found_twice.Goals as goal

pub returns-in-Some-sale_of-2 : goal.returns-in-Some-sale_of-2
returns-in-Some-sale_of-2 c =
    let it = c.in-Some.ensures {u = tt} in
    let life = life_of it.forward c.args.ats.now c.in-Some._replies.items in
    let o = present life in
    let number = c.args.meter.now in
    let first = c.look_up.ensures.says in
    let second = c.look_up-2.ensures.says in
    let at_desk = finds_by_rules o c.args.moment (LastSale number) c.look_up.result c.in-Ok.found c.in-Ok.is
    (first.of_life (memory_is_clean c.look_up.new.self.conn) life it.keeps.kept) in
    let on_file = finds_by_rules o c.args.moment (LastSale number) c.look_up-2.result c.in-Ok-look_up.again c.in-Ok-look_up.is
    (second.of_life (memory_is_clean c.look_up-2.new.self.conn) life (first.reads.keeps life it.keeps.kept)) in
    let desk : Result Found Refusal = Ok c.in-Ok.found in
    let file : Result Found Refusal = Ok c.in-Ok-look_up.again in
    let same : desk ≡ file = c.at_desk_law.ensures.same.look_up life c.args.moment (LastSale number) desk file tt (inl at_desk) (inl on_file) tt tt in
    let one : c.in-Ok.found ≡ found.Sale c.in-Some-sale_of.first = c.in-Some-sale_of.ensures {u = tt} in
    let other : c.in-Ok-look_up.again ≡ found.Sale c.in-Some-sale_of-2.second = c.in-Some-sale_of-2.ensures {u = tt} in
    cc
