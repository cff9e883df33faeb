-- What holds along steps and along whole folds: an office stays one, and its rows only grow.
use Rattle.std.proofs.Common.{◌≡◌, ℕ, Bool, true, false, List, [], ◌∷◌, ◌++◌, Option, Some, None, refl, sym, ◌∙◌, ap, arith}
use Rattle.std.specs.Prelude.{◌≤◌, ◌&&◌, ◌==◌, All, Contains, IsNone, bytes_eq, is_some, if◌then◌else◌, option_map, slice_get}
use Rattle.std.proofs.lemmas.Bool.{false≢true}
use Rattle.std.proofs.lemmas.Bool.Decides.{Decides-eqb}
use Rattle.std.proofs.lemmas.List.{append-nil, get_or_append_left, length-append}
use Rattle.std.proofs.lemmas.List.Elements.{All-head, All-tail}
use Rattle.std.proofs.lemmas.Slice.Eq.{bytes_eq-Decides}
use Rattle.std.proofs.lemmas.Option.{get_or_from_slice_get, same_Some, slice_get-get_or, slice_get-map, slice_get_within}
use Rattle.sts_fields.specs.Base.{base_eq, year_of}
use Rattle.sts_fields.specs.declared.base.Base.{Base}
use Rattle.sts_token.specs.Token.{KeepsRange}
use Rattle.office_rules.specs.Decision.Edits.{applied, closed_at, with_base, with_key, with_row, with_rows, with_tariff}
use Rattle.office_rules.specs.Decision.Fold.{after, step}
use Rattle.office_rules.specs.Decision.Requests.{IsStamped}
use Rattle.office_rules.specs.Law.Growth.{HasGrown, HaveStayed, IsSameShift}
use Rattle.office_rules.specs.Law.Store.{MeetRows, Meets, MeetsClosing, MeetsRow}
use Rattle.office_rules.specs.Office.{IsOffice, Office}
use Rattle.office_rules.specs.declared.decision.change.Edit.{Edit}
use Rattle.office_rules.specs.declared.decision.change.Edit.TheVariants as edits
use Rattle.office_rules.specs.declared.decision.request.Stamped.{Stamped}
use Rattle.office_rules.specs.declared.office.meter.Meter.{Meter}
use Rattle.office_rules.specs.declared.office.row.Row.{Row}
use Rattle.office_rules.specs.declared.office.row.Row.TheVariants as kinds
use Rattle.office_rules.specs.declared.office.sale.Sale.{Sale}
use Rattle.office_rules.specs.declared.office.shift.Shift.{Shift}
use Rattle.office_rules.proofs.DecisionLemmas.EditLemmas.{base_with_key, closing, more_kept, moved_base, set_kept}
use Rattle.office_rules.proofs.DecisionLemmas.NewSaleLemmas.{LowerLaws}
use Rattle.office_rules.proofs.DecisionLemmas.StayLemmas.{stayed_by_meter, stayed_by_tariff}
use Rattle.office_rules.proofs.OfficeLemmas.{step_keeps_office}
use Rattle.office_rules.proofs.OfficeLemmas.RowLemmas.{parts_true}
use Rattle.vend_core.proofs.LawLemmas.EffectLemmas.{beside, step_by_edit, steps_put}
use Rattle.vend_core.proofs.LawLemmas.GrowthLemmas.{NamesGrow, grown, grown_none, grown_twice, keys_stay, names_same, same_shift, sold_steps_stay}

-- the rows of a grown office, where only sales came, a shift came, or one was closed
pub grown_sale : (o : Office) (s : Sale) → HasGrown o (applied (edits.AddSale s) o)
grown_sale o s = grown o (applied (edits.AddSale s) o) (names_same o _ refl refl refl refl) (s ∷ []) refl (λ i t at. (t, at, same_shift t))

grown_shift : (o : Office) (s : Shift) → HasGrown o (applied (edits.OpenShift s) o)
grown_shift o s =
    grown o (applied (edits.OpenShift s) o) (names_same o _ refl refl refl refl) [] (sym (append-nil o.sales)) (λ i t at.
    let within = slice_get_within o.shifts i t at in (
      t,
      slice_get-get_or (o.shifts ++ s ∷ []) i t (omega (arith, within, length-append o.shifts (s ∷ [])))
          ∙ ap Some (get_or_append_left o.shifts (s ∷ []) t i within ∙ get_or_from_slice_get o.shifts i t t at),
      same_shift t,
    ))

closed_same : (number moment : ℕ) (s : Shift) (b : Bool) → (s.number == number) ≡ b → (b ≡ true → IsNone s.closed)
    → IsSameShift s (if b then closed_at moment s else s)
closed_same number moment s true is opened = record
    { number = refl; operator = refl; opened = refl; closed = λ some. absurd (false≢true (sym (opened refl) ∙ some)) }
closed_same number moment s false is opened = same_shift s

grown_close : (o : Office) (number moment : ℕ) → MeetsClosing o number moment → HasGrown o (applied (edits.CloseShift number moment) o)
grown_close o number moment meets =
    grown o (applied (edits.CloseShift number moment) o) (names_same o _ refl refl refl refl) [] (sym (append-nil o.sales)) (λ i t at.
    let within = slice_get_within o.shifts i t at in
    let there : Contains o.shifts t = (i, within, get_or_from_slice_get o.shifts i t t at) in (
      closing number moment t,
      slice_get-map (closing number moment) o.shifts i ∙ ap (option_map (closing number moment)) at,
      closed_same number moment t (t.number == number) refl (λ e.
          ap (λ (s : Shift). is_some s.closed) (meets.only t there ((Decides-eqb t.number number).0 e)) ∙ meets.still_open),
    ))

module _ (o : Office) where
  -- names alone have grown
  new_names : (p : Office) → NamesGrow o p → p.sales ≡ o.sales → p.shifts ≡ o.shifts → HasGrown o p
  new_names p names sales shifts =
      grown o p names [] (sales ∙ sym (append-nil o.sales)) (λ i s at. (s, ap (λ rows. slice_get rows i) shifts ∙ at, same_shift s))

  stayed_names : (p : Office) → HaveStayed o p → ((number : List ℕ) (base : Base) → o.bases number base ≡ true → p.bases number base ≡ true) → NamesGrow o p
  stayed_names p stayed bases = record {
    tariffs = sold_steps_stay o p stayed.tariffs;
    meters = λ number m at. (m, stayed.meters number m at, omega arith);
    keys = keys_stay o p stayed.meters;
    bases = bases;
  }

  -- a row that meets the office leaves all that stood
  grown_by_row : (row : Row) → MeetsRow row o → HasGrown o (with_row row o)
  grown_by_row (kinds.Tariff name steps) meets =
      new_names _ (stayed_names _ (stayed_by_tariff o name steps None meets.2) (λ q b had. had)) refl refl
  grown_by_row (kinds.Steps name day steps) meets =
      new_names _ (stayed_names _ (steps_put o name day steps meets.free) (λ q b had. had)) refl refl
  grown_by_row (kinds.Meter number m) meets =
      new_names _ (stayed_names _ (stayed_by_meter o number m None true meets.free)
      (λ q b had. more_kept (bytes_eq q number && base_eq b m.base) (o.bases q b) had)) refl refl

-- so do rows, one after another
grown_by_rows : (o : Office) (rows : List Row) → MeetRows rows o → HasGrown o (with_rows rows o)
grown_by_rows o [] meet = grown_none o
grown_by_rows o (row ∷ rest) meet =
    grown_twice o (with_row row o) (with_rows rest (with_row row o)) (grown_by_row o row meet.0) (grown_by_rows (with_row row o) rest meet.1)

-- a meter that is given a tariff has its base
same_base : (b : Bool) (name : List ℕ) (m : Meter) → year_of m.base ≤ year_of (if b then with_tariff name m else m).base
same_base true name m = omega arith
same_base false name m = omega arith

-- a meter that is given a tariff or a base has its key
key_of_set : (b : Bool) (f : Meter → Meter) (m n : Meter) (there : Option Meter) → ((k : Meter) → (f k).key ≡ k.key) → there ≡ Some m
    → (if b then option_map f there else there) ≡ Some n → n.key ≡ m.key
key_of_set true f m n there keeps at now = ap (λ (k : Meter). k.key) (same_Some n (f m) (sym now ∙ ap (option_map f) at)) ∙ keeps m
key_of_set false f m n there keeps at now = ap (λ (k : Meter). k.key) (same_Some n m (sym now ∙ at))

-- an edit that meets the office leaves what something was sold by
grown_by_edit : (o : Office) (e : Edit) → Meets e o → HasGrown o (applied e o)
grown_by_edit o (edits.AddTariff name steps) meets = grown_by_row o (kinds.Tariff name steps) meets
grown_by_edit o (edits.AddSteps name day steps) meets = grown_by_row o (kinds.Steps name day steps) meets
grown_by_edit o (edits.WithdrawSteps name day) meets = new_names o _ (record {
  tariffs = record {
    first = λ q steps at. at;
    dated = λ q d steps sold at. beside (bytes_eq q name && (d == day)) None (o.dated_steps q d) (λ both.
        let same : d ≡ day = (Decides-eqb d day).0 (parts_true (bytes_eq q name) (d == day) both).1 in
        let before = meets.sold_before sold.0 sold.1 in
        omega (arith, same, sold.2, before)) ∙ at;
  };
  meters = λ q m at. (m, at, omega arith);
  keys = keys_stay o (applied (edits.WithdrawSteps name day) o) (λ q m at. at);
  bases = λ q b had. had;
}) refl refl
grown_by_edit o (edits.AddMeter number m) meets = grown_by_row o (kinds.Meter number m) meets
grown_by_edit o (edits.AddRows rows) meets = grown_by_rows o rows meets.1
grown_by_edit o (edits.SetTariff number name) meets = new_names o _ (record {
  tariffs = record { first = λ q steps at. at; dated = λ q day steps sold at. at };
  meters = λ q m at. (
    (if bytes_eq q number then with_tariff name m else m),
    set_kept (bytes_eq q number) (with_tariff name) m (o.meters q) at,
    same_base (bytes_eq q number) name m,
  );
  keys = λ q m n sold at now. key_of_set (bytes_eq q number) (with_tariff name) m n (o.meters q) (λ k. refl) at now;
  bases = λ q b had. had;
}) refl refl
grown_by_edit o (edits.MoveBase number base) meets = new_names o _ (record {
  tariffs = record { first = λ q steps at. at; dated = λ q day steps sold at. at };
  meters = λ q k at. (
    (if bytes_eq q number then with_base base k else k),
    set_kept (bytes_eq q number) (with_base base) k (o.meters q) at,
    (let later = meets.later in
        moved_base (bytes_eq q number) q number base meets.meter k o.meters refl meets.meter_is (omega (arith, later)) at),
  );
  keys = λ q k n sold at now. key_of_set (bytes_eq q number) (with_base base) k n (o.meters q) (λ k. refl) at now;
  bases = λ q b had. more_kept (bytes_eq q number && base_eq b base) (o.bases q b) had;
}) refl refl
grown_by_edit o (edits.SetKey number key) meets = new_names o _ (record {
  tariffs = record { first = λ q steps at. at; dated = λ q day steps sold at. at };
  meters = λ q m at. (
    (if bytes_eq q number then with_key key m else m),
    set_kept (bytes_eq q number) (with_key key) m (o.meters q) at,
    omega (arith, ap year_of (base_with_key (bytes_eq q number) key m)),
  );
  keys = λ q m n sold at now.
      let stays = beside (bytes_eq q number) (option_map (with_key key) (o.meters q)) (o.meters q)
      (λ e. meets.no_sale sold.0 sold.1 (sold.2 ∙ (bytes_eq-Decides q number).0 e)) in
      ap (λ (k : Meter). k.key) (same_Some n m (sym now ∙ stays ∙ at));
  bases = λ q b had. had;
}) refl refl
grown_by_edit o (edits.OpenShift s) meets = grown_shift o s
grown_by_edit o (edits.CloseShift number moment) meets = grown_close o number moment meets
grown_by_edit o (edits.AddSale s) meets = grown_sale o s

-- a request makes an office grow: nothing that something was sold by is taken away
pub step_grows : LowerLaws → (forward : ℕ → ℕ → ℕ) (o : Office) (at : Stamped) → IsOffice o → IsStamped at → KeepsRange forward
    → HasGrown o (step forward o at)
step_grows laws forward o at office is range = step_by_edit laws (HasGrown o) forward o at office is range (grown_none o) (grown_by_edit o)

-- along a fold
pub after_keeps_office : LowerLaws → (forward : ℕ → ℕ → ℕ) (o : Office) (ats : List Stamped) → IsOffice o → All IsStamped ats
    → KeepsRange forward → IsOffice (after forward o ats)
unfolding after
after_keeps_office laws forward o [] office are range = office
after_keeps_office laws forward o (at ∷ ats) office are range =
    after_keeps_office laws forward (step forward o at) ats
    (step_keeps_office laws forward o at office (All-head IsStamped at ats are) range) (All-tail IsStamped at ats are) range

-- an office grows along any number of requests
pub after_grows : LowerLaws → (forward : ℕ → ℕ → ℕ) (o : Office) (ats : List Stamped) → IsOffice o → All IsStamped ats → KeepsRange forward
    → HasGrown o (after forward o ats)
unfolding after
after_grows laws forward o [] office are range = grown_none o
after_grows laws forward o (at ∷ ats) office are range =
    let next = step_keeps_office laws forward o at office (All-head IsStamped at ats are) range in
    grown_twice o (step forward o at) (after forward (step forward o at) ats)
    (step_grows laws forward o at office (All-head IsStamped at ats are) range)
    (after_grows laws forward (step forward o at) ats next (All-tail IsStamped at ats are) range)
