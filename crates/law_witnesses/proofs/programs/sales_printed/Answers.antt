use Rattle.std.proofs.Common.{◌≡◌, ◌∙◌, [], ◌∷◌, inl, refl, sym}
use Rattle.sqlite.proofs.Callers.{memory_is_clean}
use Rattle.asks.specs.declared.lookup.Lookup.TheVariants.{Sales}
use Rattle.vend_core.specs.Law.Life.{present}
use Rattle.law_witnesses.specs.Offices.{life_of}
use Rattle.law_witnesses.proofs.OfficeLemmas.{finds_by_rules}
use Rattle.law_witnesses.proofs.PrintLemmas.{one_page}
use Rattle.law_witnesses.proofs.programs.sales_printed.Goals as goal

pub returns-in-Some-last_page_printed : goal.returns-in-Some-last_page_printed
returns-in-Some-last_page_printed c =
    let it = c.in-Some.ensures {u = tt} in
    let life = life_of it.forward c.args.ats.now c.in-Some.replies.items in
    let o = present life in
    let page = c.in-Ok.page in
    let finds = finds_by_rules o c.args.moment (Sales c.args.after) c.look_up.result page c.in-Ok.is
    (c.look_up.ensures.says.of_life (memory_is_clean c.look_up.new.self.conn) life it.keeps.kept) in
    let printed = c.in-Some-last_page_printed.ensures {u = tt} in
    let kept = it.keeps.kept it.keeps.clean in
    let office = (c.life_law.ensures.left life o kept.is_life kept.opening (inl refl)).0 in
    let all = c.list_law.ensures.sales o c.args.moment c.args.after (page ∷ []) office (finds, sym printed.last) in
    (it.forward, printed.text ∙ sym (one_page page) ∙ all)
