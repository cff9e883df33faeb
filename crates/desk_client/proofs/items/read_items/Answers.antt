use Rattle.std.proofs.Common.{Some, None, map}
use Rattle.std.proofs.lemmas.Bool.Decides.{Decides-eqb}
use Rattle.std.proofs.lemmas.List.Elements.{recursion_from_All}
use Rattle.std.proofs.lemmas.Slice.Eq.{strip_prefix_is}
use Rattle.records.proofs.ItemLemmas.{begins_not, begins_with, behind_first, closed_by, front_found, led_by, neither, no_list, none_found, told_push}
use Rattle.desk_client.proofs.items.read_items.Goals as goal

pub returns-in_default-2 : goal.returns-in_default-2
returns-in_default-2 g c = λ us more told.
    let is_told = g.T.Item.is_told in
    let text_of = g.T.Item.text_of in
    let none = none_found is_told text_of c.items.rest.now c.in_ok-item.field-0 c.in_default-2.is c.in_ok-item.ensures in
    no_list is_told text_of c.item_law.ensures c.args.text.now c.items.items.items c.items.rest.now
    (recursion_from_All is_told c.items.items.items c.items.invariant.0) c.items.invariant.1
    (begins_not 93 c.args.text.now c.as_slice.result.now c.as_slice.ensures
    (strip_prefix_is Decides-eqb c.args.text.now c.as_slice.result.now None c.in_default.ensures.cases))
    (λ v vs after tv. none v (behind_first (map text_of vs) after) tv) us.items more (recursion_from_All is_told us.items told)

pub returns-in-Some-strip_prefix : goal.returns-in-Some-strip_prefix
returns-in-Some-strip_prefix g c =
    let is_told = g.T.Item.is_told in
    let text_of = g.T.Item.text_of in
    let item = c.in-Some-2.item in
    let found = front_found is_told text_of c.items.rest.now c.in_ok-item.field-0 item c.in-Some-2.behind c.in-Some-2.is c.in_ok-item.ensures in
    let pushed = c.in_ok-push.ensures.items in
    let behind = c.in-Some-2.behind.now in
    let after = c.in-Some-strip_prefix.after in
    let bracket = begins_with 93 behind c.as_slice-in-items.result.now after.now c.as_slice-in-items.ensures
    (strip_prefix_is Decides-eqb behind c.as_slice-in-items.result.now (Some after) c.in-Some-strip_prefix.ensures.cases) in (
      told_push is_told c.items.items.items item c.push.new.self.items pushed c.items.invariant.0 found.0,
      closed_by text_of c.args.text.now c.items.rest.now behind after.now c.items.items.items item c.push.new.self.items pushed
          c.items.invariant.1 found.1 bracket,
    )

pub returns-in_default-strip_prefix-2 : goal.returns-in_default-strip_prefix-2
returns-in_default-strip_prefix-2 g c = λ us more told.
    let is_told = g.T.Item.is_told in
    let text_of = g.T.Item.text_of in
    let item = c.in-Some-2.item in
    let behind = c.in-Some-2.behind.now in
    let found = front_found is_told text_of c.items.rest.now c.in_ok-item.field-0 item c.in-Some-2.behind c.in-Some-2.is c.in_ok-item.ensures in
    no_list is_told text_of c.item_law.ensures c.args.text.now c.items.items.items c.items.rest.now
    (recursion_from_All is_told c.items.items.items c.items.invariant.0) c.items.invariant.1
    (begins_not 93 c.args.text.now c.as_slice.result.now c.as_slice.ensures
    (strip_prefix_is Decides-eqb c.args.text.now c.as_slice.result.now None c.in_default.ensures.cases))
    (neither is_told text_of c.item_law.ensures item c.items.rest.now behind found.0 found.1
    (begins_not 44 behind c.as_slice-in-items-2.result.now c.as_slice-in-items-2.ensures
    (strip_prefix_is Decides-eqb behind c.as_slice-in-items-2.result.now None c.in_default-strip_prefix-2.ensures.cases))
    (begins_not 93 behind c.as_slice-in-items.result.now c.as_slice-in-items.ensures
    (strip_prefix_is Decides-eqb behind c.as_slice-in-items.result.now None c.in_default-strip_prefix.ensures.cases)))
    us.items more (recursion_from_All is_told us.items told)

pub items-preserved : goal.items-preserved
items-preserved g c =
    let is_told = g.T.Item.is_told in
    let text_of = g.T.Item.text_of in
    let item = c.in-Some-2.item in
    let found = front_found is_told text_of c.items.rest.now c.in_ok-item.field-0 item c.in-Some-2.behind c.in-Some-2.is c.in_ok-item.ensures in
    let pushed = c.in_ok-push.ensures.items in
    let behind = c.in-Some-2.behind.now in
    let next = c.in-Some-strip_prefix-2.next in
    let comma = begins_with 44 behind c.as_slice-in-items-2.result.now next.now c.as_slice-in-items-2.ensures
    (strip_prefix_is Decides-eqb behind c.as_slice-in-items-2.result.now (Some next) c.in-Some-strip_prefix-2.ensures.cases) in (
      told_push is_told c.items.items.items item c.push.new.self.items pushed c.items.invariant.0 found.0,
      led_by text_of c.args.text.now c.items.rest.now behind next.now c.items.items.items item c.push.new.self.items pushed c.items.invariant.1 found.1 comma,
    )
