use Rattle.std.proofs.Common.{◌≡◌, ◌∙◌, Some, ap, subst, sym, w64, to_z, of_z}
use Rattle.asks.specs.declared.endpoint.Grants.TheVariants as wanted
use Rattle.desk_client.specs.Reply.{IsReply}
use Rattle.desk_client.specs.declared.told.Granted.TheVariants as granted
use Rattle.desk_client.specs.declared.told.Told.{Told}
use Rattle.desk_client.specs.declared.told.Told.TheVariants as told
use Rattle.law_witnesses.specs.Sold.{told_sold}
use Rattle.law_witnesses.proofs.ToldLemmas.{told_as_it_is}
use Rattle.law_witnesses.proofs.questions.sale_again.Goals as goal

-- the sale that was read, and the one that is read of the reply which a desk writes of it
pub returns-in-Whole-Granted-Sale-reply_in : goal.returns-in-Whole-Granted-Sale-reply_in
returns-in-Whole-Granted-Sale-reply_in c =
    let first = c.in-Whole-Granted-Sale in
    let second = c.in-Whole-Granted-Sale-reply_in in
    let sale = first.sale in
    let Read : Told → Type 0 = λ it. IsReply wanted.Sale c.args.reply.now it in
    let reply : Read (told.Granted (granted.Sale sale)) =
    subst Read (first.field-0-is ∙ ap told.Granted first.field-0-0-is) (first.ensures {u = tt}) in
    let as_is = told_as_it_is c.args.reply.now sale reply in
    let written = c.told_law.ensures.text wanted.Sale (Some (to_z w64 (of_z w64 c.args.second))) (told_sold sale) (told.Granted (granted.Sale sale))
    (ap (λ s. told.Granted (granted.Sale s)) as_is) reply.tellable reply.short in
    let Wrote : Told → Type 0 = λ it. IsReply wanted.Sale c.deref.result.now it in
    let again : Wrote (told.Granted (granted.Sale second.again)) =
    subst Wrote (second.field-0-is ∙ ap told.Granted second.field-0-0-is) (second.ensures {u = tt}) in
    let same : Wrote (told.Granted (granted.Sale sale)) =
    subst (λ text. IsReply wanted.Sale text (told.Granted (granted.Sale sale))) (sym (c.deref.ensures.value ∙ c.in-Some.ensures {u = tt})) written in
    c.told_law.ensures.alike wanted.Sale c.deref.result.now (told.Granted (granted.Sale sale)) (told.Granted (granted.Sale second.again)) same again
