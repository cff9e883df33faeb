-- What a step leaves that fills the bases of the meters, and whose they are then.
use Rattle.std.proofs.Common.{◌≡◌, ◌≢◌, ◌↔◌, ◌∙◌, true, List, ℕ, [], ◌∷◌, ◌++◌, append-nil, append_assoc, ap, map, subst, sym}
use Rattle.std.specs.Prelude.{AllPairs, Contains}
use Rattle.std.proofs.lemmas.List.{map-append}
use Rattle.sqlite.specs.State.{State}
use Rattle.sts_fields.specs.declared.base.Base.{Base}
use Rattle.office_rules.specs.Office.{Office}
use Rattle.office_rules.specs.declared.office.meter.Meter.{Meter}
use Rattle.office_rules.specs.declared.office.sale.Sale.{Sale}
use Rattle.book_tables.specs.format.Filling.{AreHanded, FillsBases, IsReady, base_row_of}
use Rattle.book_tables.specs.Holds.{HoldsOf}
use Rattle.book_tables.specs.row.Rows.{Rows, present_format}
use Rattle.book_tables.specs.Stands.{AreMembersOf}
use Rattle.book_tables.specs.writing.Writing.{AddsBase}
use Rattle.book_tables.specs.declared.reading.pages.MeterRow.{MeterRow}
use Rattle.book_tables.proofs.FormatLemmas.FillingLemmas.{nothing_written}
use Rattle.book_tables.proofs.ListLemmas.{contains_map, map_source, no_pairs, pairs_cons, pairs_first, pairs_rest}
use Rattle.book_tables.proofs.WritingLemmas.OnlyLemmas.{only_both}

-- no base yet, and one more
pub bases_none : (old : State) → IsReady old → FillsBases [] old old
bases_none old ready = record {
  only = nothing_written _ old ready;
  rows = λ told rows held. subst (λ (bases : List (List ℕ × Base)). HoldsOf present_format told old.now (record rows { bases = bases }))
      (sym (append-nil rows.bases)) held;
}

-- the base of the next meter stands after those that were filled in before
pub bases_more : (found : List MeterRow) (m : MeterRow) (old mid new : State) → FillsBases found old mid
    → AddsBase m.number m.meter.base mid new → FillsBases (found ++ m ∷ []) old new
bases_more found m old mid new first second = record {
  only = only_both _ old mid new first.only second.only;
  rows = λ told rows held.
      let these = second.rows told (record rows { bases = rows.bases ++ map base_row_of found }) (first.rows told rows held) in
      let same = append_assoc rows.bases (map base_row_of found) (base_row_of m ∷ [])
      ∙ ap (λ (l : List (List ℕ × Base)). rows.bases ++ l) (sym (map-append base_row_of found (m ∷ []))) in
      subst (λ (bases : List (List ℕ × Base)). HoldsOf present_format told new.now (record rows { bases = bases })) same these;
}

pairs_into : {X Y : Type 0} (R : X → X → Type 0) (S : Y → Y → Type 0) (f : X → Y) (xs : List X) → ((a b : X) → R a b → S (f a) (f b))
    → AllPairs R xs → AllPairs S (map f xs)
pairs_into R S f [] keeps pairs = no_pairs S
pairs_into R S f (x ∷ xs) keeps pairs =
    pairs_cons S (f x) (map f xs) (pairs_into R S f xs keeps (pairs_rest R x xs pairs)) (λ y there.
    let from = map_source f xs y there in
    subst (S (f x)) from.2 (keeps x from.0 (pairs_first R x from.0 xs pairs from.1)))

-- where the office's meters have their present bases alone, these are those of the meters that are
-- given
module _ (o : Office) (rows : Rows) (meters : List MeterRow) (sales : List Sale) (handed : AreHanded o meters sales)
    (are : AreMembersOf rows o) (alone : rows.bases ≡ map (λ (r : List ℕ × Meter). (r.0, r.1.base)) rows.meters) where
  abbrev own_base : (List ℕ × Meter) → (List ℕ × Base)
  own_base r = (r.0, r.1.base)

  -- the office has a base of a meter exactly where a meter that is given has it
  pub bases_are : (number : List ℕ) (base : Base) → (o.bases number base ≡ true) ↔ Contains (map base_row_of meters) (number, base)
  bases_are number base = (
    λ has.
        let from = map_source own_base rows.meters (number, base)
        (subst (λ (l : List (List ℕ × Base)). Contains l (number, base)) alone ((are.bases number base).0 has)) in
        let there = (handed.meters from.0.0 from.0.1).0 ((are.meters from.0.0 from.0.1).1 from.1) in
        subst (Contains (map base_row_of meters)) from.2 (contains_map base_row_of meters _ there),
    λ listed.
        let from = map_source base_row_of meters (number, base) listed in
        let there = (are.meters from.0.number from.0.meter).0 ((handed.meters from.0.number from.0.meter).1 from.1) in
        let stands = subst (Contains (map own_base rows.meters)) from.2 (contains_map own_base rows.meters _ there) in
        (are.bases number base).1 (subst (λ (l : List (List ℕ × Base)). Contains l (number, base)) (sym alone) stands),
  )

  -- and each is listed once
  pub bases_once : AllPairs (λ a b. a ≢ b) (map base_row_of meters)
  bases_once = pairs_into (λ (a b : MeterRow). a.number ≢ b.number) (λ a b. a ≢ b) base_row_of meters
      (λ a b apart same. apart (ap (λ (x : List ℕ × Base). x.0) same)) handed.once
