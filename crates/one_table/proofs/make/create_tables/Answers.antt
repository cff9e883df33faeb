use Rattle.std.proofs.Common.{rules, arith, ◌≡◌, ℕ, ◌+◌, ◌<◌, zero, suc, List, [], ◌∷◌, ◌++◌, Bor, length, get_or, refl, sym, ap, subst, ◌∙◌, inr, map, take}
use Rattle.std.proofs.lemmas.List.{map-append, take_all, take_more}
use Rattle.sqlite.specs.Held.{state}
use Rattle.sqlite.specs.State.{HasCleanDisk}
use Rattle.one_table.specs.Making.{AreDefined, FailsToMake}
use Rattle.one_table.proofs.ChangeLemmas.{told_as}
use Rattle.one_table.proofs.TurnLemmas.{HasMade, all_made, made_before, made_some, makes_next, next_failed}
use Rattle.one_table.proofs.make.create_tables.Goals as goal

texts_more : (texts : List (Bor (List ℕ))) (i : ℕ) (d : Bor (List ℕ)) → i < length texts → map (λ t. t.now) (take (i + 1) texts)
    ≡ map (λ t. t.now) (take i texts) ++ (get_or texts i d).now ∷ []
texts_more texts i d low = ap (map (λ t. t.now)) (take_more texts i d low) ∙ map-append (λ t. t.now) (take i texts) (get_or texts i d ∷ [])

-- the texts before one, it and those after it
split_at : (texts : List (Bor (List ℕ))) (i : ℕ) (d : Bor (List ℕ)) → i < length texts → (after : List (List ℕ))
    × (map (λ t. t.now) (take i texts) ++ (get_or texts i d).now ∷ after ≡ map (λ t. t.now) texts)
split_at [] i d low = absurd (omega (arith, low))
split_at (t ∷ texts) zero d low = (map (λ t. t.now) texts, refl)
split_at (t ∷ texts) (suc i) d low = let rest = split_at texts i d (omega (arith, low)) in (rest.0, ap (λ l. t.now ∷ l) rest.1)

pub texts-preserved : goal.texts-preserved
texts-preserved g c = record {
  same = search rules;
  survives =
      let last = c.create_table.ensures.added.transaction.survives in
      search (rules, last);
  made = λ clean.
      let old = state g.S.Store c.args.tx.now.conn.now in
      let mid = state g.S.Store c.texts.tx.conn.now in
      let new = state g.S.Store c.create_table.new.tx.conn.now in
      let early : HasCleanDisk mid = omega (arith, c.create_table.ensures.added.transaction.survives.clean) in
      let here : Bor (List ℕ) = record { ref_ptr = (0, 0); now = [] } in
      let next = makes_next (map (λ t. t.now) (take c.texts.text-index c.args.texts.now)) (get_or c.args.texts.now c.texts.text-index here).now old mid new
      (c.texts.invariant.made early) (λ t defined. c.in_ok-create_table.ensures.added.says clean t defined) (c.in_ok-create_table.ensures.inside clean) in
      inr (subst (λ l. HasMade l old new) (sym (texts_more c.args.texts.now c.texts.text-index here c.texts-test.true)) next);
}

pub returns-in_err-create_table-clause-added : goal.returns-in_err-create_table-clause-added
returns-in_err-create_table-clause-added g c = record {
  same_reference = search rules;
  transaction = next_failed _ (state g.S.Store c.args.tx.now.conn.now) (state g.S.Store c.texts.tx.conn.now)
      (state g.S.Store c.create_table.new.tx.conn.now) _ c.from_residual.result c.from_residual.ensures.1 c.texts.invariant.made
      c.texts.invariant.survives c.in_err-create_table.ensures.added.transaction;
  says = search rules;
}

pub returns-clause-added : goal.returns-clause-added
returns-clause-added g c =
    let old = state g.S.Store c.args.tx.now.conn.now in
    let new = state g.S.Store c.texts.tx.conn.now in
    let texts = map (λ t. t.now) (take c.texts.text-index c.args.texts.now) in
    let some : ¬ (texts ≡ []) = search rules in
    let all = take_all c.texts.text-index c.args.texts.now c.texts-test.false in
    record {
      same_reference = search rules;
      transaction = all_made texts old new some c.texts.invariant.made c.texts.invariant.survives;
      says = λ clean sound ts defined. (made_some texts old new some (c.texts.invariant.made clean)).tables sound ts
          (subst (λ l. AreDefined (map (λ t. t.now) l) ts) (sym all) defined);
    }

pub returns-in_err-create_table-clause-refused : goal.returns-in_err-create_table-clause-refused
returns-in_err-create_table-clause-refused g c clean =
    let old = state g.S.Store c.args.tx.now.conn.now in
    let mid = state g.S.Store c.texts.tx.conn.now in
    let new = state g.S.Store c.create_table.new.tx.conn.now in
    let here : Bor (List ℕ) = record { ref_ptr = (0, 0); now = [] } in
    let i = c.texts.text-index in
    let texts = c.args.texts.now in
    let split = split_at texts i here c.texts-test.true in
    let early : HasCleanDisk mid = omega (arith, clean, c.create_table.ensures.added.transaction.survives.clean) in
    let before = made_before (map (λ t. t.now) (take i texts)) old mid (c.texts.invariant.made early) c.texts.invariant.survives in
    told_as (FailsToMake g.S.Store (map (λ t. t.now) texts) old new) c.from_residual.result c.in_err-create_table.field-0.0 c.from_residual.ensures.1
    (map (λ t. t.now) (take i texts), (get_or texts i here).now, split.0, split.1, (c.texts.tx.conn.now, (before, c.in_err-create_table.ensures.refused clean)))
