-- A request that was decided, and how its commit ends.
use Rattle.std.proofs.Common.{◌≡◌, ◌⊎◌, ℕ, ◌+◌, ◌-◌, ◌++◌, List, [], ◌∷◌, length, Option, Some, None, Result, Ok, Err, refl, sym, ap, subst, ◌∙◌, inl, inr, arith, length-append}
use Rattle.std.proofs.lemmas.List.{get_or_push}
use Rattle.std.proofs.lemmas.Option.{slice_get-get_or}
use Rattle.std.specs.Option.{option_map_or}
use Rattle.std.specs.Prelude.{IsErrAnd, option_map, slice_get}
use Rattle.sqlite.specs.State.{HasCleanDisk, State}
use Rattle.sts_token.specs.Token.{BlockFunction}
use Rattle.office_rules.specs.Decision.{decision}
use Rattle.office_rules.specs.Decision.Edits.{applied, office_after, with_row, with_rows}
use Rattle.office_rules.specs.Decision.Fold.{reply, reply_of, step}
use Rattle.office_rules.specs.Office.{IsOffice, Office}
use Rattle.office_rules.specs.Law.Store.{Meets}
use Rattle.office_rules.specs.declared.decision.change.Change.{Change}
use Rattle.office_rules.specs.declared.decision.change.Edit.{Edit}
use Rattle.office_rules.specs.declared.decision.change.Edit.TheVariants.{AddTariff, AddSteps, WithdrawSteps, AddMeter, AddRows, SetTariff, MoveBase, SetKey, OpenShift, CloseShift, AddSale}
use Rattle.office_rules.specs.declared.decision.refusal.Refusal.{Refusal}
use Rattle.office_rules.specs.declared.decision.request.Stamped.{Stamped}
use Rattle.office_rules.specs.declared.office.row.Row.{Row}
use Rattle.office_rules.specs.declared.office.row.Row.TheVariants as kinds
use Rattle.office_rules.specs.declared.office.sale.Sale.{Sale}
use Rattle.book_states.specs.Health.{last_moment}
use Rattle.book_states.specs.Stores.{Stores}
use Rattle.books.specs.Keeps.{KnowTheSame, Seen}
use Rattle.book_states.specs.Same.{ChangesNothing}
use Rattle.book_edits.specs.Transaction.{Commits, MayBeLeft}
use Rattle.books.specs.Serving.{HoldsOffice, ServingEnds, moment_after, sales_added}
use Rattle.book_facts.specs.Deciding.{IsDecided}
use Rattle.book_edits.proofs.CommitLemmas.{edit_doubted, edit_held}
use Rattle.book_states.proofs.StayLemmas.{still_held}

-- the error of a call, which is handed on
pub handed_on : {A E : Type 0} (r : Result A E) (e : E) → IsErrAnd r (λ x. x ≡ e) → r ≡ Err e
handed_on (Ok x) e failed = absurd failed
handed_on (Err x) e failed = ap (λ e. Err e) failed

-- the sales stand as they are after every edit but a new sale
rows_add_no_sale : (rows : List Row) (o : Office) → (with_rows rows o).sales ≡ o.sales
rows_add_no_sale [] o = refl
rows_add_no_sale (kinds.Tariff name steps ∷ rows) o = rows_add_no_sale rows (with_row (kinds.Tariff name steps) o)
rows_add_no_sale (kinds.Steps name day steps ∷ rows) o = rows_add_no_sale rows (with_row (kinds.Steps name day steps) o)
rows_add_no_sale (kinds.Meter number m ∷ rows) o = rows_add_no_sale rows (with_row (kinds.Meter number m) o)

-- an edit that adds no sale adds none to the count, and leaves the last moment
pub adds_none : (edit : Edit) → ((s : Sale) → edit ≡ AddSale s → ⊥) → sales_added (Some edit) ≡ 0
adds_none (AddTariff name steps) none = refl
adds_none (AddSteps name day steps) none = refl
adds_none (WithdrawSteps name day) none = refl
adds_none (AddMeter number m) none = refl
adds_none (AddRows rows) none = refl
adds_none (SetTariff number name) none = refl
adds_none (MoveBase number base) none = refl
adds_none (SetKey number key) none = refl
adds_none (OpenShift s) none = refl
adds_none (CloseShift number moment) none = refl
adds_none (AddSale s) none = absurd (none s refl)

-- an edit that adds no sale leaves the moment of the last one
pub moment_stays : (edit : Edit) (last : Option ℕ) → ((s : Sale) → edit ≡ AddSale s → ⊥) → moment_after (Some edit) last ≡ last
moment_stays (AddTariff name steps) last none = refl
moment_stays (AddSteps name day steps) last none = refl
moment_stays (WithdrawSteps name day) last none = refl
moment_stays (AddMeter number m) last none = refl
moment_stays (AddRows rows) last none = refl
moment_stays (SetTariff number name) last none = refl
moment_stays (MoveBase number base) last none = refl
moment_stays (SetKey number key) last none = refl
moment_stays (OpenShift s) last none = refl
moment_stays (CloseShift number moment) last none = refl
moment_stays (AddSale s) last none = absurd (none s refl)

-- the sales of the office grow by those that an edit adds
pub sales_grow : (edit : Edit) (o : Office) → length (applied edit o).sales ≡ length o.sales + sales_added (Some edit)
sales_grow (AddTariff name steps) o = omega arith
sales_grow (AddSteps name day steps) o = omega arith
sales_grow (WithdrawSteps name day) o = omega arith
sales_grow (AddMeter number m) o = omega arith
sales_grow (AddRows rows) o = omega (arith, ap length (rows_add_no_sale rows o))
sales_grow (SetTariff number name) o = omega arith
sales_grow (MoveBase number base) o = omega arith
sales_grow (SetKey number key) o = omega arith
sales_grow (OpenShift s) o = omega arith
sales_grow (CloseShift number moment) o = omega arith
sales_grow (AddSale s) o = length-append o.sales (s ∷ [])

-- the last of some sales, and one more, is that one
last_pushed : (sales : List Sale) (s : Sale) → slice_get (sales ++ s ∷ []) (length (sales ++ s ∷ []) - 1) ≡ Some s
last_pushed sales s =
    let long = length-append sales (s ∷ []) in
    slice_get-get_or (sales ++ s ∷ []) (length (sales ++ s ∷ []) - 1) s (omega (arith, long))
    ∙ ap (λ x. Some x) (get_or_push sales s s (length (sales ++ s ∷ []) - 1) (omega (arith, long)))

-- the last moment of the office is that of the sale that an edit adds, or as it was
pub moment_goes : (edit : Edit) (o : Office) → last_moment (applied edit o) ≡ moment_after (Some edit) (last_moment o)
moment_goes (AddTariff name steps) o = refl
moment_goes (AddSteps name day steps) o = refl
moment_goes (WithdrawSteps name day) o = refl
moment_goes (AddMeter number m) o = refl
moment_goes (AddRows rows) o =
    ap (λ (sales : List Sale). option_map (λ (s : Sale). s.moment) (slice_get sales (length sales - 1))) (rows_add_no_sale rows o)
moment_goes (SetTariff number name) o = refl
moment_goes (MoveBase number base) o = refl
moment_goes (SetKey number key) o = refl
moment_goes (OpenShift s) o = refl
moment_goes (CloseShift number moment) o = refl
moment_goes (AddSale s) o = ap (option_map (λ (s : Sale). s.moment)) (last_pushed o.sales s)

-- no edit adds more than one sale
sales_after : (edit : Edit) (o : Office) → (length (applied edit o).sales ≡ length o.sales) ⊎ (length (applied edit o).sales ≡ length o.sales + 1)
sales_after (AddTariff name steps) o = inl refl
sales_after (AddSteps name day steps) o = inl refl
sales_after (WithdrawSteps name day) o = inl refl
sales_after (AddMeter number m) o = inl refl
sales_after (AddRows rows) o = inl (ap length (rows_add_no_sale rows o))
sales_after (SetTariff number name) o = inl refl
sales_after (MoveBase number base) o = inl refl
sales_after (SetKey number key) o = inl refl
sales_after (OpenShift s) o = inl refl
sales_after (CloseShift number moment) o = inl refl
sales_after (AddSale s) o = inr (length-append o.sales (s ∷ []))

-- nor does a request
pub sales_step : (o : Office) (decided : Result Change Refusal) → (length (office_after o decided).sales ≡ length o.sales)
    ⊎ (length (office_after o decided).sales ≡ length o.sales + 1)
sales_step o (Err refusal) = inl refl
sales_step o (Ok change) = by_edit change.edit
  where
    by_edit : (e : Option Edit) → (length (option_map_or (λ edit. applied edit o) e o).sales ≡ length o.sales)
        ⊎ (length (option_map_or (λ edit. applied edit o) e o).sales ≡ length o.sales + 1)
    by_edit None = inl refl
    by_edit (Some edit) = sales_after edit o

-- a request that was refused before it changed anything
pub refused_ends : (forward : BlockFunction) (o : Office) (at : Stamped) (refusal : Refusal) (old new : Seen) → HoldsOffice o old
    → IsDecided forward o at (Err refusal) → HasCleanDisk new.state
    → ChangesNothing old.state new.state → KnowTheSame old new → ServingEnds forward o at (Err refusal) new
refused_ends forward o at refusal old new held decided clean nothing known =
    let here = still_held o old.state new.state clean held.at nothing in
    let holds : HoldsOffice o new = record { at = here; next = known.next ∙ held.next; last = known.last ∙ held.last } in
    elim decided [
      | inl is ↦ inl (ap reply_of is, subst (λ (p : Office). HoldsOffice p new) (ap (office_after o) is) holds)
      | inr (inl none) ↦ inr (inl (ap (λ (r : Result Change Refusal). reply_of r) none, holds))
      | inr (inr failed) ↦ inr (inr (ap (λ (r : Result Change Refusal). reply_of r) failed, λ trees may. inl (here.left trees may), holds.next))
    ]

module _ (forward : BlockFunction) (o : Office) (at : Stamped) (change : Change) (granted : IsDecided forward o at (Ok change)) where
  -- a change that was granted is the office's decision
  pub is_decision : decision forward o at ≡ Ok change
  is_decision = elim granted [ inl is ↦ sym is | inr (inl none) ↦ absurd cc | inr (inr failed) ↦ absurd cc ]

  -- its answer is what the office replies
  pub replies : Ok change.answer ≡ reply forward o at
  replies = sym (ap reply_of is_decision)

  module _ (new : Seen) where
    -- a request that changes nothing commits nothing
    pub unchanged_ends : change.edit ≡ None → HoldsOffice o new → ServingEnds forward o at (Ok change.answer) new
    unchanged_ends none held =
        let same : step forward o at ≡ o = ap (office_after o) is_decision ∙ ap (λ (e : Option Edit). option_map_or (λ edit. applied edit o) e o) none in
        inl (replies, subst (λ (p : Office). HoldsOffice p new) (sym same) held)

    module _ (edit : Edit) (some : change.edit ≡ Some edit) where
      -- the office after the request is the one after the change's edit
      pub is_applied : step forward o at ≡ applied edit o
      is_applied = ap (office_after o) is_decision ∙ ap (λ (e : Option Edit). option_map_or (λ edit. applied edit o) e o) some

      module _ (mid : State) (held : Stores mid o) (meets : Meets edit o) (office : IsOffice (applied edit o)) where
        -- where the edit was committed, the books hold the office after the request
        pub committed_ends : {Been : (State → Type 0) → Type 0} (prior : ℕ) → Commits Been edit prior (Ok tt) mid new.state
            → new.next_number ≡ length (applied edit o).sales + 1 → new.last_moment ≡ last_moment (applied edit o)
            → ServingEnds forward o at (Ok change.answer) new
        committed_ends prior commits next last =
            inl (
              replies,
              subst (λ (p : Office). HoldsOffice p new) (sym is_applied)
                  (record { at = edit_held edit o mid new.state held meets office commits.done; next = next; last = last }),
            )

        -- where it was not, they hold the office from before, or the store may leave either
        pub failed_ends : {Been : (State → Type 0) → Type 0} (prior : ℕ) (refusal : Refusal) → HasCleanDisk new.state
            → Commits Been edit prior (Err refusal) mid new.state → new.next_number ≡ length o.sales + 1 → new.last_moment ≡ last_moment o
            → ServingEnds forward o at (Err refusal) new
        failed_ends prior refusal clean commits next last = elim commits.failed [
          | inl unmade ↦
              (let here = still_held o mid new.state clean held unmade.nothing in
              elim unmade.either [
                | inl memory ↦ inr (inl (ap (λ r. Err r) memory, record { at = here; next = next; last = last }))
                | inr failed ↦ inr (inr (ap (λ r. Err r) failed, λ trees may. inl (here.left trees may), next))
              ])
          | inr (failed, doubted) ↦ inr (inr (
            ap (λ r. Err r) failed,
            subst (MayBeLeft new.state o) (sym is_applied) (edit_doubted edit o mid new.state held meets office prior clean doubted),
            next,
          ))
        ]
