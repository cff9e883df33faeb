-- What tariffs of one text have in common.
use Rattle.std.proofs.Common.{◌≡◌, ◌∙◌, ℕ, false, List, [], ◌++◌, codes, map, refl, ap, sym, subst}
use Rattle.std.proofs.lemmas.List.{append-nil, map-id}
use Rattle.std.proofs.lemmas.List.Elements.{recursion_from_All}
use Rattle.book_states.specs.declared.lookup.LaterSteps.{LaterSteps}
use Rattle.book_states.specs.declared.lookup.ListedTariff.{ListedTariff}
use Rattle.records.specs.List.{AreReadInOneWay, items_text}
use Rattle.desk_messages.specs.reply.Lists.{day_text, tariff_text}
use Rattle.sts_fields.specs.Day.{IsDay, IsDayText}
use Rattle.sts_fields.specs.Text.{Text}
use Rattle.tariff.specs.Steps.{IsSteps}
use Rattle.tariff.specs.StepsText.{IsStepsText, steps_text}
use Rattle.tariff.specs.declared.step.Step.{Step}
use Rattle.desk_client.specs.Page.{IsToldLater, IsToldTariff, tariff_view}
use Rattle.desk_client.specs.TariffItem.{later_text, with_steps}
use Rattle.desk_client.specs.Text.{LacksStop}
use Rattle.desk_client.proofs.PageLemmas.{alike}
use Rattle.desk_client.proofs.PlainLemmas.{plain_name}
use Rattle.desk_client.proofs.TariffItemLemmas.{behind_later, open_text, opened}
use Rattle.desk_client.proofs.TariffLemmas.{one_with_steps}

-- one text is of one day, and of one list of steps
abbrev pub IsOneDay : Type 0
IsOneDay = (day other : ℕ) → IsDay day → IsDay other → day_text day ≡ day_text other → day ≡ other

-- the text of some steps is that of no other steps
abbrev pub AreOneSteps : Type 0
AreOneSteps = (steps others : List Step) → IsSteps steps → IsSteps others → steps_text steps ≡ steps_text others → steps ≡ others

-- a day's text is of one day, where a text is read as one day and this reads as its own
pub one_day : ((day : ℕ) → IsDay day → IsDayText (day_text day) day)
    → ((day other : ℕ) (text : Text) → IsDayText text day → IsDayText text other → day ≡ other) → IsOneDay
one_day days one day other is also e =
    one day other (day_text other) (subst (λ text. IsDayText text day) e (days day is)) (days other also)

-- the same of steps, where a text is read as one list of steps
pub one_steps : ((steps : List Step) → IsSteps steps → IsStepsText (steps_text steps) steps)
    → ((text : Text) (steps others : List Step) → IsStepsText text steps → IsStepsText text others → steps ≡ others) → AreOneSteps
one_steps written one steps others are also e =
    one (steps_text others) steps others (subst (λ text. IsStepsText text steps) e (written steps are)) (written others also)

-- later steps of one text are the same
one_later : IsOneDay → AreOneSteps → ((day : ℕ) → IsDay day → LacksStop (day_text day)) → (l m : LaterSteps) → IsToldLater l → IsToldLater m
    → later_text l ≡ later_text m → l ≡ m
one_later days steps plain l m told also e =
    let same = one_with_steps (codes "{\"from\":\"") (day_text l.from) (day_text m.from) l.steps m.steps [] []
    (plain l.from told.from) (plain m.from also.from) told.steps also.steps (ap (λ (text : List ℕ). text ++ []) e) in
    let from = days l.from m.from told.from also.from same.0 in
    let are = steps l.steps m.steps told.steps also.steps same.1 in
    ap (λ (day : ℕ). record { from = day; steps = l.steps }) from ∙ ap (λ (s : List Step). record { from = m.from; steps = s }) are

-- tariffs of one text have the same name, the same steps and the same later steps
pub one_tariff : AreReadInOneWay IsToldLater later_text → IsOneDay → AreOneSteps → ((day : ℕ) → IsDay day → LacksStop (day_text day))
    → (t u : ListedTariff) → IsToldTariff t → IsToldTariff u → tariff_text t ≡ tariff_text u → tariff_view t ≡ tariff_view u
one_tariff way days steps plain t u told also e =
    let texts = behind_later way (open_text t)
    (items_text false (map later_text t.later.items) ++ with_steps (codes ",\"name\":\"") t.name t.steps)
    t.later.items (with_steps (codes ",\"name\":\"") t.name t.steps) refl told.later refl u [] also
    (sym (opened t) ∙ e ∙ sym (append-nil (tariff_text u))) in
    let same = one_with_steps (codes ",\"name\":\"") t.name u.name t.steps u.steps [] [] (plain_name t.name told.name.bytes) (plain_name u.name also.name.bytes)
    told.steps also.steps (append-nil (with_steps (codes ",\"name\":\"") t.name t.steps) ∙ texts.1) in
    let are = steps t.steps u.steps told.steps also.steps same.1 in
    let later = sym (map-id t.later.items)
    ∙ alike IsToldLater later_text (λ (l : LaterSteps). l) (one_later days steps plain) t.later.items u.later.items
    (recursion_from_All IsToldLater t.later.items told.later) (recursion_from_All IsToldLater u.later.items also.later) texts.0
    ∙ map-id u.later.items in
    let named = same.0 in cc
