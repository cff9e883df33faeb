use Rattle.std.proofs.Common.{◌≡◌, ◌∙◌, ℕ, List, Option, subst, sym}
use Rattle.book_states.specs.declared.lookup.Found.{Found}
use Rattle.desk_client.specs.Page.{IsToldPage, page_as_read}
use Rattle.desk_client.specs.declared.page.PageKind.TheVariants.{Meters}
use Rattle.records.specs.Front.{IsFound}
use Rattle.law_witnesses.proofs.ToldLemmas.{same_meters}
use Rattle.law_witnesses.proofs.questions.page_again.Goals as goal

pub returns-in-Meters-Meters : goal.returns-in-Meters-Meters
returns-in-Meters-Meters c =
    let Read : List ℕ → Option Found → Type 0 =
    λ text there. IsFound (λ page. IsToldPage Meters page × (text ≡ page_as_read page)) there in
    let one = subst (Read c.args.page.now) c.in-Ok-Some.field-0-is (c.in-Ok-Some.ensures {u = tt}) in
    let other = subst (Read c.deref.result.now) c.in-Ok-Some-page_in.field-0-is (c.in-Ok-Some-page_in.ensures {u = tt}) in
    let text : page_as_read c.in-Ok-Some.first ≡ page_as_read c.in-Ok-Some-page_in.again =
    sym (c.in-Ok.ensures {u = tt}) ∙ sym c.deref.ensures.value ∙ other.1 in
    same_meters (c.page_law.ensures.one Meters) c.in-Ok-Some.first c.in-Ok-Some-page_in.again c.in-Meters-Meters.first
    c.in-Meters-Meters.again c.in-Meters-Meters.is-0 c.in-Meters-Meters.is-1 one.0 other.0 text
