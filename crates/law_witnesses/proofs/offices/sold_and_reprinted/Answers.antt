use Rattle.std.proofs.Common.{◌≡◌, List, [], Ok, Result, subst}
use Rattle.std.specs.Prelude.{Contains}
use Rattle.books.specs.Keeps.{seen}
use Rattle.office_rules.specs.declared.decision.answer.Answer.{Answer}
use Rattle.office_rules.specs.declared.decision.answer.Answer.TheVariants.{Reprinted, Sold}
use Rattle.office_rules.specs.declared.decision.refusal.Refusal.{Refusal}
use Rattle.law_witnesses.specs.Offices.{life_of}
use Rattle.law_witnesses.proofs.OfficeLemmas.{answered}
use Rattle.law_witnesses.proofs.offices.sold_and_reprinted.Goals as goal

pub returns-then-again-first : goal.returns-then-again-first
returns-then-again-first c =
    let it = c.in-Some.ensures {u = tt} in
    let ats = c.args.ats.now in
    let replies = c.in-Some.replies.items in
    let first = c.in-Some-sold_in.first in
    let again = c.in-Some-reprinted_in.again in
    let Has : Answer → List (Result Answer Refusal) → Type 0 = λ answer l. Contains l (Ok answer) in
    let sold = answered it.forward ats replies (Sold first) it.each
    (subst (Has (Sold first)) c.deref.ensures.value (c.in-Some-sold_in.ensures {u = tt})) in
    let reprinted = answered it.forward ats replies (Reprinted again) it.each
    (subst (Has (Reprinted again)) c.deref-2.ensures.value (c.in-Some-reprinted_in.ensures {u = tt})) in
    c.headline_law.ensures.reprint [] (life_of it.forward ats replies) c.in-Some._books it.keeps first again sold reprinted
    c.if-again-first.true
