-- Tariffs and later steps at the front of a text.
use Rattle.std.proofs.Common.{◌≡◌, ◌∙◌, ℕ, true, false, List, [], ◌∷◌, ◌++◌, codes, map, refl, ap, sym, append_assoc}
use Rattle.std.specs.Prelude.{All}
use Rattle.std.specs.Borrow.{Bor}
use Rattle.std.proofs.lemmas.List.{append_cancel_left}
use Rattle.std.proofs.lemmas.List.Elements.{recursion_from_All}
use Rattle.sts_fields.specs.Day.{IsDay}
use Rattle.tariff.specs.Steps.{IsSteps}
use Rattle.tariff.specs.StepsText.{steps_text}
use Rattle.tariff.specs.declared.step.Step.{Step}
use Rattle.book_states.specs.declared.lookup.LaterSteps.{LaterSteps}
use Rattle.book_states.specs.declared.lookup.ListedTariff.{ListedTariff}
use Rattle.records.specs.Cell as cell
use Rattle.records.specs.List.{AreReadInOneWay, items_text}
use Rattle.records.specs.Record.{members_text, record_text}
use Rattle.records.proofs.ItemLemmas.{one_list}
use Rattle.desk_messages.specs.reply.Lists.{day_text, later_cells, later_names, tariff_text}
use Rattle.desk_messages.proofs.PageLemmas.{later-text, tariff-end}
use Rattle.desk_client.specs.Page.{IsToldLater, IsToldTariff}
use Rattle.desk_client.specs.TariffItem.{later_text, with_steps}
use Rattle.desk_client.specs.Text.{LacksStop}
use Rattle.desk_client.proofs.PlainLemmas.{plain_name}
use Rattle.desk_client.proofs.TariffLemmas.{one_with_steps}

-- ---- later steps

same_with_steps : (front a b : List ℕ) (s t : List Step) → a ≡ b → steps_text s ≡ steps_text t → with_steps front a s ≡ with_steps front b t
same_with_steps front a b s t e f =
    ap (λ (value : List ℕ). front ++ (value ++ (codes "\",\"steps\":\"" ++ (steps_text s ++ codes "\"}")))) e
    ∙ ap (λ (text : List ℕ). front ++ (b ++ (codes "\",\"steps\":\"" ++ (text ++ codes "\"}")))) f

-- a text begins with later steps in one way
pub later_one_way : ((day : ℕ) → IsDay day → LacksStop (day_text day)) → AreReadInOneWay IsToldLater later_text
later_one_way plain = record {
  one = λ item other rest more told also e.
      let same = one_with_steps (codes "{\"from\":\"") (day_text item.from) (day_text other.from) item.steps other.steps rest more
      (plain item.from told.from) (plain other.from also.from) told.steps also.steps e in
      same_with_steps (codes "{\"from\":\"") (day_text item.from) (day_text other.from) item.steps other.steps same.0 same.1;
  braced = λ item told. refl;
}

-- ---- a tariff, written out

-- by the texts of its later steps
abbrev pub open_text : ListedTariff → List ℕ
open_text t = codes "{\"later\":[" ++ (items_text false (map later_text t.later.items) ++ with_steps (codes ",\"name\":\"") t.name t.steps)

each_later : (ls : List LaterSteps) → map (λ l. record_text later_names (later_cells l)) ls ≡ map later_text ls
each_later [] = refl
each_later (l ∷ ls) =
    ap (λ (text : List ℕ). text ∷ map (λ m. record_text later_names (later_cells m)) ls) (later-text (day_text l.from) (steps_text l.steps))
    ∙ ap (λ (texts : List (List ℕ)). later_text l ∷ texts) (each_later ls)

-- its text is made of the texts of its later steps
pub opened : (t : ListedTariff) → tariff_text t ≡ open_text t
opened t =
    ap (λ (texts : List (List ℕ)). codes "{\"later\":[" ++ (items_text false texts
    ++ members_text true (codes "name" ∷ codes "steps" ∷ []) (cell.text t.name ∷ cell.text (steps_text t.steps) ∷ []))) (each_later t.later.items)
    ∙ ap (λ (end : List ℕ). codes "{\"later\":[" ++ (items_text false (map later_text t.later.items) ++ end)) (tariff-end t.name (steps_text t.steps))

-- before what follows it
pub open_before : (later : List (List ℕ)) (name : List ℕ) (steps : List Step) (rest : List ℕ)
    → (codes "{\"later\":[" ++ (items_text false later ++ with_steps (codes ",\"name\":\"") name steps)) ++ rest
    ≡ codes "{\"later\":[" ++ (items_text false later ++ (with_steps (codes ",\"name\":\"") name steps ++ rest))
open_before later name steps rest =
    ap (λ (text : List ℕ). codes "{\"later\":[" ++ text) (append_assoc (items_text false later) (with_steps (codes ",\"name\":\"") name steps) rest)

-- what stands behind the front of a tariff
pub at_later : (text behind : List ℕ) → text ≡ codes "{\"later\":[" ++ behind
    → (t : ListedTariff) (more : List ℕ) → IsToldTariff t → text ≡ tariff_text t ++ more
    → behind ≡ items_text false (map later_text t.later.items) ++ (with_steps (codes ",\"name\":\"") t.name t.steps ++ more)
at_later text behind is t more told same =
    append_cancel_left (codes "{\"later\":[") behind _ (
    sym is ∙ same ∙ ap (λ (b : List ℕ). b ++ more) (opened t)
    ∙ open_before (map later_text t.later.items) t.name t.steps more)

-- what stands behind the list of later steps, as any reading of the text has it
pub behind_later : AreReadInOneWay IsToldLater later_text → (text behind : List ℕ) (later : List LaterSteps) (rest : List ℕ)
    → text ≡ codes "{\"later\":[" ++ behind → All IsToldLater later → behind ≡ items_text false (map later_text later) ++ rest
    → (t : ListedTariff) (more : List ℕ) → IsToldTariff t → text ≡ tariff_text t ++ more
    → (map later_text later ≡ map later_text t.later.items) × (rest ≡ with_steps (codes ",\"name\":\"") t.name t.steps ++ more)
behind_later way text behind later rest is are there t more told same =
    one_list IsToldLater later_text way later t.later.items rest (with_steps (codes ",\"name\":\"") t.name t.steps ++ more)
    (recursion_from_All IsToldLater later are) (recursion_from_All IsToldLater t.later.items told.later)
    (sym there ∙ at_later text behind is t more told same)

-- what was read of a text is a tariff
pub tariff_there : (text behind rest : List ℕ) (t : ListedTariff) (more : List ℕ) → IsToldTariff t
    → text ≡ codes "{\"later\":[" ++ behind → behind ≡ items_text false (map later_text t.later.items) ++ rest
    → rest ≡ with_steps (codes ",\"name\":\"") t.name t.steps ++ more → text ≡ tariff_text t ++ more
tariff_there text behind rest t more told is there left =
    is
    ∙ ap (λ (b : List ℕ). codes "{\"later\":[" ++ b) (there ∙ ap (λ (b : List ℕ). items_text false (map later_text t.later.items) ++ b) left)
    ∙ sym (open_before (map later_text t.later.items) t.name t.steps more)
    ∙ ap (λ (b : List ℕ). b ++ more) (sym (opened t))

-- a text begins with a tariff in one way
pub tariff_one_way : AreReadInOneWay IsToldLater later_text → AreReadInOneWay IsToldTariff tariff_text
tariff_one_way way = record {
  one = λ item other rest more told also e.
      let mine = opened item in
      let yours = opened other in
      let whole = sym (open_before (map later_text item.later.items) item.name item.steps rest)
      ∙ ap (λ (b : List ℕ). b ++ rest) (sym mine) ∙ e in
      let behind = behind_later way (tariff_text other ++ more) _ item.later.items (with_steps (codes ",\"name\":\"") item.name item.steps ++ rest)
      (sym whole) told.later refl other more also refl in
      let same = one_with_steps (codes ",\"name\":\"") item.name other.name item.steps other.steps rest more
      (plain_name item.name told.name.bytes) (plain_name other.name also.name.bytes) told.steps also.steps behind.1 in
      mine
      ∙ ap (λ (texts : List (List ℕ)). codes "{\"later\":[" ++ (items_text false texts ++ with_steps (codes ",\"name\":\"") item.name item.steps)) behind.0
      ∙ ap (λ (b : List ℕ). codes "{\"later\":[" ++ (items_text false (map later_text other.later.items) ++ b))
      (same_with_steps (codes ",\"name\":\"") item.name other.name item.steps other.steps same.0 same.1)
      ∙ sym yours;
  braced = λ item told. refl;
}

-- a text that is only lent
abbrev pub lent : List ℕ → Bor (List ℕ)
lent text = record { ref_ptr = (0, 0); now = text }
