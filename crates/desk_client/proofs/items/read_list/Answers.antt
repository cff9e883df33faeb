use Rattle.std.proofs.Common.{◌∙◌, ℕ, false, List, ◌++◌, Some, None, codes, length, map, ap, sym, arith}
use Rattle.std.specs.Prelude.{All}
use Rattle.std.proofs.lemmas.Bool.Decides.{Decides-eqb}
use Rattle.std.proofs.lemmas.List.{length-map}
use Rattle.std.proofs.lemmas.List.Elements.{recursion_from_All}
use Rattle.std.proofs.lemmas.Slice.Eq.{strip_prefix_is}
use Rattle.records.specs.List.{items_text}
use Rattle.records.proofs.ItemLemmas.{front_found}
use Rattle.desk_client.proofs.ListLemmas.{listed, listed_so}
use Rattle.desk_client.proofs.NumberLemmas.{not_unlike, unlike_not}
use Rattle.desk_client.proofs.items.read_list.Goals as goal

pub returns-in_default : goal.returns-in_default
returns-in_default g c = λ v h.
    let texts = map g.T.Item.text_of v.items in
    strip_prefix_is Decides-eqb c.args.text.now c.as_bytes.result.now None c.in_default.ensures.cases (items_text false texts ++ codes "}")
    (h.1 ∙ ap (λ (f : List ℕ). f ++ (items_text false texts ++ codes "}")) (sym c.as_bytes.ensures.value))

pub returns-then-ne : goal.returns-then-ne
returns-then-ne g c = λ v h.
    let is_told = g.T.Item.is_told in
    let text_of = g.T.Item.text_of in
    let front = c.as_bytes.result.now in
    let found = front_found (λ items. All is_told items.items) (λ items. items_text false (map text_of items.items)) c.in-Some.rest.now c.in_ok-items.field-0
    c.in-Some-2.items c.in-Some-2.behind c.in-Some-2.is c.in_ok-items.ensures in
    let whole = strip_prefix_is Decides-eqb c.args.text.now front (Some c.in-Some.rest) c.in-Some.ensures.cases in
    let same = listed is_told text_of c.item_law.ensures c.args.text.now front c.args.front.now c.in-Some.rest.now c.in-Some-2.behind.now
    c.in-Some-2.items.items v.items c.as_bytes.ensures.value whole found.1 (recursion_from_All is_told c.in-Some-2.items.items found.0)
    (recursion_from_All is_told v.items h.0.each) h.1 in
    unlike_not c.in-Some-2.behind.now c.as_slice.result.now c.if-ne.ensures (same.1 ∙ sym c.as_slice.ensures)

pub returns-then-len : goal.returns-then-len
returns-then-len g c = λ v h.
    let is_told = g.T.Item.is_told in
    let text_of = g.T.Item.text_of in
    let front = c.as_bytes.result.now in
    let found = front_found (λ items. All is_told items.items) (λ items. items_text false (map text_of items.items)) c.in-Some.rest.now c.in_ok-items.field-0
    c.in-Some-2.items c.in-Some-2.behind c.in-Some-2.is c.in_ok-items.ensures in
    let whole = strip_prefix_is Decides-eqb c.args.text.now front (Some c.in-Some.rest) c.in-Some.ensures.cases in
    let same = listed is_told text_of c.item_law.ensures c.args.text.now front c.args.front.now c.in-Some.rest.now c.in-Some-2.behind.now
    c.in-Some-2.items.items v.items c.as_bytes.ensures.value whole found.1 (recursion_from_All is_told c.in-Some-2.items.items found.0)
    (recursion_from_All is_told v.items h.0.each) h.1 in
    let lengths = length-map c.in-Some-2.items.items text_of in
    omega (arith, c.if-len.true, c.len.ensures, c.in-Some-2.items.ok.0, h.0.few, ap length same.0, lengths, length-map v.items text_of)

pub returns : goal.returns
returns g c =
    let is_told = g.T.Item.is_told in
    let text_of = g.T.Item.text_of in
    let found = front_found (λ items. All is_told items.items) (λ items. items_text false (map text_of items.items)) c.in-Some.rest.now c.in_ok-items.field-0
    c.in-Some-2.items c.in-Some-2.behind c.in-Some-2.is c.in_ok-items.ensures in
    let whole = strip_prefix_is Decides-eqb c.args.text.now c.as_bytes.result.now (Some c.in-Some.rest) c.in-Some.ensures.cases in
    let brace = not_unlike c.in-Some-2.behind.now c.as_slice.result.now c.if-ne.ensures in (
      record { each = found.0; few = omega (arith, c.if-len.false, c.len.ensures, c.in-Some-2.items.ok.0) },
      listed_so c.args.text.now c.as_bytes.result.now c.args.front.now c.in-Some.rest.now (items_text false (map text_of c.in-Some-2.items.items))
          c.in-Some-2.behind.now (codes "}") c.as_bytes.ensures.value whole found.1 (brace ∙ c.as_slice.ensures),
    )
