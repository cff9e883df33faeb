-- The texts of lists and of tariffs, as JSON.
use Rattle.std.proofs.Common.{◌≡◌, ◌∙◌, ℕ, Bool, true, false, List, [], ◌∷◌, ◌++◌, codes, map, refl, ap, sym}
use Rattle.std.specs.Prelude.{All}
use Rattle.std.specs.List.{AllByRecursion}
use Rattle.std.proofs.lemmas.List.Elements.{All-head, All-tail}
use Rattle.serde_json.specs.Data.{Data, member, no_members, object}
use Rattle.serde_json.specs.Written as written
use Rattle.records.specs.Cell.{Held, IsPlain, IsTellable, in_quotes}
use Rattle.records.specs.Cell as cell
use Rattle.records.specs.Json.{members_data, record_data}
use Rattle.records.specs.List.{items_text, list_text, page_text, records_text}
use Rattle.records.specs.Record.{comma_if, members_text, record_text}
use Rattle.records.proofs.JsonLemmas.{members_text-is, quoted-is}
use Rattle.sts_fields.specs.Calendar.{IsWithinRanges, civil_at}
use Rattle.sts_fields.specs.Day.{IsDay}
use Rattle.tariff.specs.StepsText.{steps_text}
use Rattle.book_states.specs.declared.lookup.LaterSteps.{LaterSteps}
use Rattle.book_states.specs.declared.lookup.ListedTariff.{ListedTariff}
use Rattle.desk_messages.specs.reply.Json.{IsTellableLater, IsTellableTariff, array_of, items_of, later_data, tariff_data}
use Rattle.desk_messages.specs.reply.Lists.{beginning, later_cells, later_names, tariff_text}
use Rattle.desk_messages.proofs.PlainLemmas.{day-plain, plain_name, steps-plain}

-- the text of a record is that of its object
pub record-json : (names : List (List ℕ)) (cells : List Held) → AllByRecursion IsPlain names → AllByRecursion IsTellable cells
    → record_text names cells ≡ written.compact_text (record_data names cells)
record-json names cells plain told = ap (λ (m : List ℕ). 123 ∷ m) (sym (members_text-is false names cells plain told))

items-json : (later : Bool) (ds : List Data) → items_text later (map written.compact_text ds) ≡ written.items_text later (items_of ds)
items-json later [] = refl
items-json later (d ∷ ds) = ap (λ (t : List ℕ). comma_if later ++ (written.compact_text d ++ t)) (items-json true ds)

-- that of a list is that of its array
pub list-json : (ds : List Data) → list_text (map written.compact_text ds) ≡ written.compact_text (array_of ds)
list-json ds = ap (λ (t : List ℕ). 91 ∷ t) (items-json false ds)

-- and that of a page is that of an object
pub page-json : (name : List ℕ) (list : Data) → IsPlain name
    → page_text name (written.compact_text list) ≡ written.compact_text (object (member name list no_members))
page-json name list plain = ap (λ (q : List ℕ). 123 ∷ (q ++ (58 ∷ (written.compact_text list ++ codes "}")))) (sym (quoted-is name plain))

module _ (shown : (day : ℕ) → IsDay day → IsWithinRanges (civil_at (beginning day))) where
  later-json : (l : LaterSteps) → IsTellableLater l → record_text later_names (later_cells l) ≡ written.compact_text (later_data l)
  later-json l is =
      record-json later_names (later_cells l)
      ((refl, (refl, (refl, (refl, tt)))), ((refl, (refl, (refl, (refl, (refl, tt))))), tt))
      (day-plain l.from (shown l.from is.from), (steps-plain l.steps is.steps, tt))

  each-later : (ls : List LaterSteps) → All IsTellableLater ls
      → map (λ l. record_text later_names (later_cells l)) ls ≡ map written.compact_text (map later_data ls)
  each-later [] are = refl
  each-later (l ∷ ls) are =
      ap (λ (t : List ℕ). t ∷ map (λ m. record_text later_names (later_cells m)) ls) (later-json l (All-head IsTellableLater l ls are))
      ∙ ap (λ (ts : List (List ℕ)). written.compact_text (later_data l) ∷ ts) (each-later ls (All-tail IsTellableLater l ls are))

  -- the text of a tariff is that of its object
  pub tariff-json : (t : ListedTariff) → IsTellableTariff t → tariff_text t ≡ written.compact_text (tariff_data t)
  tariff-json t is =
      let names : List (List ℕ) = codes "name" ∷ codes "steps" ∷ [] in
      let cells : List Held = cell.text t.name ∷ cell.text (steps_text t.steps) ∷ [] in
      let array : List ℕ = written.compact_text (array_of (map later_data t.later.items)) in
      let end = members_text-is true names cells
      ((refl, (refl, (refl, (refl, tt)))), ((refl, (refl, (refl, (refl, (refl, tt))))), tt))
      (plain_name t.name is.name.bytes, (steps-plain t.steps is.steps, tt)) in
      let later = ap list_text (each-later t.later.items is.later) ∙ list-json (map later_data t.later.items) in
      ap (λ (l : List ℕ). 123 ∷ (in_quotes (codes "later") ++ (58 ∷ (l ++ members_text true names cells)))) later
      ∙ ap (λ (e : List ℕ). 123 ∷ (in_quotes (codes "later") ++ (58 ∷ (array ++ e)))) (sym end)
      ∙ ap (λ (q : List ℕ). 123 ∷ (q ++ (58 ∷ (array ++ written.members_text true (members_data names cells)))))
      (sym (quoted-is (codes "later") (refl, (refl, (refl, (refl, (refl, tt)))))))
