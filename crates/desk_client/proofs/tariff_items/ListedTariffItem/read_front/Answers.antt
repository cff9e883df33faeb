use Rattle.std.proofs.Common.{◌∙◌, List, ℕ, ◌++◌, codes, Some, ap, sym}
use Rattle.std.proofs.lemmas.Bool.Decides.{Decides-eqb}
use Rattle.std.proofs.lemmas.Slice.Eq.{strip_prefix_is}
use Rattle.desk_client.specs.Page.{IsToldTariff}
use Rattle.book_states.specs.declared.lookup.ListedTariff.{ListedTariff}
use Rattle.desk_client.specs.TariffItem.{with_steps}
use Rattle.desk_client.proofs.PlainLemmas.{plain_name}
use Rattle.desk_client.proofs.TariffItemLemmas.{at_later, behind_later, lent, tariff_there}
use Rattle.desk_client.proofs.TariffLemmas.{one_with_steps}
use Rattle.desk_client.proofs.tariff_items.ListedTariffItem.read_front.Goals as goal

pub returns-in_default-2 : goal.returns-in_default-2
returns-in_default-2 c = λ item rest told is.
    let none = rw c.in_default-2.is at c.in_ok-later.ensures in
    let front = strip_prefix_is Decides-eqb c.args.text.now c.as_slice.result.now (Some c.in-Some.rest) c.in-Some.ensures.cases
    ∙ ap (λ (f : List ℕ). f ++ c.in-Some.rest.now) c.as_slice.ensures in
    none item.later (with_steps (codes ",\"name\":\"") item.name item.steps ++ rest) told.later (
    at_later c.args.text.now c.in-Some.rest.now front item rest told is)

pub returns-in_default-3 : goal.returns-in_default-3
returns-in_default-3 c = λ item rest told is.
    let none = rw c.in_default-3.is at c.in_ok-value.ensures in
    let front = strip_prefix_is Decides-eqb c.args.text.now c.as_slice.result.now (Some c.in-Some.rest) c.in-Some.ensures.cases
    ∙ ap (λ (f : List ℕ). f ++ c.in-Some.rest.now) c.as_slice.ensures in
    let read = rw c.in-Some-2.is at c.in_ok-later.ensures in
    let behind = behind_later c.item_law.ensures c.args.text.now c.in-Some.rest.now
    c.in-Some-2.later.items c.in-Some-2.rest.now front read.0 read.1 item rest told is in
    none (record { value = lent item.name; steps = item.steps; rest = lent rest })
    (plain_name item.name told.name.bytes, told.steps, behind.1)

pub returns : goal.returns
returns c =
    let front = strip_prefix_is Decides-eqb c.args.text.now c.as_slice.result.now (Some c.in-Some.rest) c.in-Some.ensures.cases
    ∙ ap (λ (f : List ℕ). f ++ c.in-Some.rest.now) c.as_slice.ensures in
    let read = rw c.in-Some-2.is at c.in_ok-later.ensures in
    let last = rw c.in-Some-3.is at c.in_ok-value.ensures in
    let found = c.in-Some-3.field-0 in
    let named = c.in-Some-tariff_of.ensures in
    let t : ListedTariff = record { name = c.in-Some-tariff_of.name; steps = found.steps; later = c.in-Some-2.later } in
    let told : IsToldTariff t = record { name = named.0; steps = last.1; later = read.0 } in (
      told,
      tariff_there c.args.text.now c.in-Some.rest.now c.in-Some-2.rest.now t found.rest.now
          told front read.1 (last.2 ∙ ap (λ (name : List ℕ). with_steps (codes ",\"name\":\"") name found.steps ++ found.rest.now) named.1),
    )

pub returns-in_default-tariff_of : goal.returns-in_default-tariff_of
returns-in_default-tariff_of c = λ item rest told is.
    let front = strip_prefix_is Decides-eqb c.args.text.now c.as_slice.result.now (Some c.in-Some.rest) c.in-Some.ensures.cases
    ∙ ap (λ (f : List ℕ). f ++ c.in-Some.rest.now) c.as_slice.ensures in
    let read = rw c.in-Some-2.is at c.in_ok-later.ensures in
    let behind = behind_later c.item_law.ensures c.args.text.now c.in-Some.rest.now
    c.in-Some-2.later.items c.in-Some-2.rest.now front read.0 read.1 item rest told is in
    let last = rw c.in-Some-3.is at c.in_ok-value.ensures in
    let found = c.in-Some-3.field-0 in
    let same = one_with_steps (codes ",\"name\":\"") found.value.now item.name found.steps item.steps found.rest.now rest
    last.0 (plain_name item.name told.name.bytes) last.1 told.steps (sym last.2 ∙ behind.1) in
    c.in_default-tariff_of.ensures item.name (told.name, same.0)
