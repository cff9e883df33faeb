use Rattle.std.proofs.Common.{◌≡◌, ◌∙◌, ◌+◌, rules, List, [], ◌∷◌, ◌++◌, ap, ap₂, codes, drop, map, subst, sym, take, Ok, Err}
use Rattle.std.proofs.lemmas.List.{map-append, take-append-drop, take_all, take_more}
use Rattle.sqlite.specs.Held.{state}
use Rattle.book_tables.specs.format.Filling.{Fills, FillsBases, base_write}
use Rattle.book_tables.specs.writing.Writes.{Write}
use Rattle.book_tables.specs.declared.reading.pages.MeterRow.{MeterRow}
use Rattle.book_tables.proofs.FormatLemmas.FillingLemmas.{fills_before, fills_none, fills_then, fills_write}
use Rattle.book_tables.proofs.FormatLemmas.FillingBasesLemmas.{bases_more, bases_none}
use Rattle.book_tables.proofs.format.fill.fill_bases.Goals as goal

pub bases-init : goal.bases-init
bases-init g c = let old = state g.S.Store c.args.tx.now.conn.now in record { same = search rules; fills = fills_none old (bases_none old) }

-- the writes of the meters before, and that of the next
written_more : (xs : List MeterRow) (m : MeterRow) (vs ws : List Write) → vs ≡ map base_write xs → ws ≡ base_write m ∷ []
    → vs ++ ws ≡ map base_write (xs ++ m ∷ [])
written_more xs m vs ws first second = ap₂ ◌++◌ first second ∙ sym (map-append base_write xs (m ∷ []))

pub bases-preserved : goal.bases-preserved
bases-preserved g c =
    let old = state g.S.Store c.args.tx.now.conn.now in
    let mid = state g.S.Store c.bases.tx.conn.now in
    let new = state g.S.Store c.add_base.new.tx.conn.now in
    let items = c.args.meters.now in
    let i = c.bases.present-index in
    let m = c.present-item.result in
    let next = take_more items i m c.bases-test.true ∙ ap (λ (x : MeterRow). take i items ++ x ∷ []) (sym c.present-item.is) in
    record {
      same = search rules;
      fills = subst (λ (l : List MeterRow). Fills (λ ws. ws ≡ map base_write l) (FillsBases l) old new (Ok tt)) (sym next)
          (fills_then old mid new (codes "meter_bases" ∷ []) (Ok tt) (λ first. first.only)
          (λ _ _ first second. bases_more (take i items) m old mid new first second) (written_more (take i items) m) c.bases.invariant.fills
          (fills_write (base_write m) mid new (Ok tt) c.in_ok-add_base.ensures.writes.transaction c.in_ok-add_base.ensures.writes.says));
    }

pub returns-in_err-add_base-clause-fills : goal.returns-in_err-add_base-clause-fills
returns-in_err-add_base-clause-fills g c =
    let old = state g.S.Store c.args.tx.now.conn.now in
    let mid = state g.S.Store c.bases.tx.conn.now in
    let new = state g.S.Store c.add_base.new.tx.conn.now in
    let e = c.in_err-add_base.field-0.0 in
    let items = c.args.meters.now in
    let i = c.bases.present-index in
    let m = c.present-item.result in
    let next = take_more items i m c.bases-test.true ∙ ap (λ (x : MeterRow). take i items ++ x ∷ []) (sym c.present-item.is) in
    let rest = drop (i + 1) items in
    let all : (take i items ++ m ∷ []) ++ rest ≡ items = ap (λ (l : List MeterRow). l ++ rest) (sym next) ∙ take-append-drop (i + 1) items in
    fills_before old new e c.from_residual.result c.from_residual.ensures.1
    (λ vs is. (
      map base_write rest,
      ap (λ (l : List Write). l ++ map base_write rest) is
          ∙ sym (map-append base_write (take i items ++ m ∷ []) rest) ∙ ap (map base_write) all,
    ))
    (fills_then {C = λ _ _. Unit {0}} old mid new (codes "meter_bases" ∷ []) (Err e) (λ first. first.only) (λ _ _ _ _. tt)
    (written_more (take i items) m) c.bases.invariant.fills
    (fills_write (base_write m) mid new (Err e) c.in_err-add_base.ensures.writes.transaction c.in_err-add_base.ensures.writes.says))

pub returns-clause-fills : goal.returns-clause-fills
returns-clause-fills g c =
    subst (λ (l : List MeterRow). Fills (λ ws. ws ≡ map base_write l) (FillsBases l) (state g.S.Store c.args.tx.now.conn.now)
    (state g.S.Store c.bases.tx.conn.now) (Ok tt)) (take_all c.bases.present-index c.args.meters.now c.bases-test.false) c.bases.invariant.fills
