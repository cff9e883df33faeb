-- The texts of tariffs, piece by piece.
use Rattle.std.proofs.Common.{◌≡◌, ◌∙◌, ℕ, true, List, [], ◌∷◌, ◌++◌, codes, refl, ap, sym}
use Rattle.records.specs.Cell as cell
use Rattle.records.specs.List.{records_text}
use Rattle.records.specs.Record.{members_text, record_text}
use Rattle.tariff.specs.StepsText.{steps_text}
use Rattle.book_states.specs.declared.lookup.LaterSteps.{LaterSteps}
use Rattle.book_states.specs.declared.lookup.ListedTariff.{ListedTariff}
use Rattle.desk_messages.specs.reply.Lists.{day_text, later_cells, later_names, tariff_text}
use Rattle.desk_messages.proofs.SaleTextLemmas.{closed, onto}

-- later steps are told by their day and steps, between fixed words
pub later-text : (from steps : List ℕ) → record_text later_names (cell.text from ∷ cell.text steps ∷ [])
    ≡ codes "{\"from\":\"" ++ (from ++ (codes "\",\"steps\":\"" ++ (steps ++ codes "\"}")))
later-text from steps = rw (closed from, closed steps) refl

-- the pieces of later steps, added one behind another, add their text
pub later-made : (l : LaterSteps) (t0 t1 t2 t3 t4 t5 : List ℕ)
    → t1 ≡ t0 ++ codes "{\"from\":\""
    → t2 ≡ t1 ++ day_text l.from
    → t3 ≡ t2 ++ codes "\",\"steps\":\""
    → t4 ≡ t3 ++ steps_text l.steps
    → t5 ≡ t4 ++ codes "\"}"
    → t5 ≡ t0 ++ record_text later_names (later_cells l)
later-made l t0 t1 t2 t3 t4 t5 e1 e2 e3 e4 e5 =
    onto t0 t1 (codes "{\"from\":\"") _ t5 e1 (
    onto t1 t2 (day_text l.from) _ t5 e2 (
    onto t2 t3 (codes "\",\"steps\":\"") _ t5 e3 (
    onto t3 t4 (steps_text l.steps) _ t5 e4 e5)))
    ∙ ap (λ text. t0 ++ text) (sym (later-text (day_text l.from) (steps_text l.steps)))

-- a tariff ends with its name and steps, between fixed words
pub tariff-end : (name steps : List ℕ) → members_text true (codes "name" ∷ codes "steps" ∷ []) (cell.text name ∷ cell.text steps ∷ [])
    ≡ codes ",\"name\":\"" ++ (name ++ (codes "\",\"steps\":\"" ++ (steps ++ codes "\"}")))
tariff-end name steps = rw (closed name, closed steps) refl

-- and those of a tariff add its text
pub tariff-made : (t : ListedTariff) (later : List LaterSteps) (name t0 t1 t2 t3 t4 t5 t6 t7 : List ℕ) → later ≡ t.later.items → name ≡ t.name
    → t1 ≡ t0 ++ codes "{\"later\":"
    → t2 ≡ t1 ++ records_text later_names later_cells later
    → t3 ≡ t2 ++ codes ",\"name\":\""
    → t4 ≡ t3 ++ name
    → t5 ≡ t4 ++ codes "\",\"steps\":\""
    → t6 ≡ t5 ++ steps_text t.steps
    → t7 ≡ t6 ++ codes "\"}"
    → t7 ≡ t0 ++ tariff_text t
tariff-made t later name t0 t1 t2 t3 t4 t5 t6 t7 l n e1 e2 e3 e4 e5 e6 e7 =
    onto t0 t1 (codes "{\"later\":") _ t7 e1 (
    onto t1 t2 (records_text later_names later_cells t.later.items) _ t7 (e2 ∙ ap (λ ls. t1 ++ records_text later_names later_cells ls) l) (
    onto t2 t3 (codes ",\"name\":\"") _ t7 e3 (
    onto t3 t4 t.name _ t7 (e4 ∙ ap (λ text. t3 ++ text) n) (
    onto t4 t5 (codes "\",\"steps\":\"") _ t7 e5 (
    onto t5 t6 (steps_text t.steps) _ t7 e6 e7)))))
    ∙ ap (λ text. t0 ++ (codes "{\"later\":" ++ (records_text later_names later_cells t.later.items ++ text))) (sym (tariff-end t.name (steps_text t.steps)))
