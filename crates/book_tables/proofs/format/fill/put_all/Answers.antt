use Rattle.std.proofs.Common.{◌≡◌, ◌∙◌, rules, arith, List, ◌++◌, ◌∷◌, [], append-nil, append_assoc, ap, subst, sym, Ok, Err}
use Rattle.std.proofs.lemmas.Grind.{common_steps}
use Rattle.sqlite.specs.Held.{state}
use Rattle.book_tables.specs.format.Filling.{ArePut, Fills, PutsFirst}
use Rattle.book_tables.specs.writing.Writes.{Write}
use Rattle.book_tables.specs.writing.Writing.{totals_names}
use Rattle.book_tables.proofs.FormatLemmas.FillingLemmas.{fills_before, fills_by, fills_none, fills_then, fills_write, may_be_put, put_then}
use Rattle.book_tables.proofs.FormatLemmas.GatheringLemmas.{puts_more, puts_none}
use Rattle.book_tables.proofs.format.fill.put_all.Goals as goal

pub rows-init : goal.rows-init
rows-init g c =
    let old = state g.S.Store c.args.tx.now.conn.now in
    record {
      same = search rules;
      before = [];
      split = search rules;
      puts = fills_by old old (Ok tt) (λ ws is. subst (ArePut g.T.TotalRow.puts []) (sym is) tt)
          (fills_none old (puts_none g.T.TotalRow.in_table g.T.TotalRow.are old));
    }

-- the writes of some rows, and one that puts in the next
put_more : {R : Type 0} (Puts : R → Write → Type 0) (before : List R) (r : R) (w : Write) → Puts r w → (vs ws : List Write)
    → ArePut Puts before vs → ws ≡ w ∷ [] → ArePut Puts (before ++ r ∷ []) (vs ++ ws)
put_more Puts before r w puts vs ws first is = put_then Puts before (r ∷ []) vs ws first (subst (ArePut Puts (r ∷ [])) (sym is) (puts, tt))

pub rows-preserved : goal.rows-preserved
rows-preserved g c =
    let old = state g.S.Store c.args.tx.now.conn.now in
    let mid = state g.S.Store c.rows.tx.conn.now in
    let new = state g.S.Store c.put.new.tx.conn.now in
    let r = c.in-Some.row.now in
    let before = c.rows.invariant.before in
    let wrote = c.in_ok-put.ensures.writes in
    let step : c.rows.row-iterator ≡ r ∷ c.next.new.self = grind (arith, common_steps) in
    record {
      same = search rules;
      before = before ++ r ∷ [];
      split = append_assoc before (r ∷ []) c.next.new.self ∙ ap (λ l. before ++ l) (sym step) ∙ c.rows.invariant.split;
      puts = fills_then old mid new totals_names (Ok tt) (λ first. first.only)
          (λ _ _ first second. puts_more g.T.TotalRow.in_table g.T.TotalRow.are before r old mid new first second)
          (put_more g.T.TotalRow.puts before r wrote.says.0 wrote.says.1) c.rows.invariant.puts
          (fills_write wrote.says.0 mid new (Ok tt) wrote.transaction wrote.says.2);
    }

pub returns-in_err-put-clause-fills : goal.returns-in_err-put-clause-fills
returns-in_err-put-clause-fills g c =
    let old = state g.S.Store c.args.tx.now.conn.now in
    let mid = state g.S.Store c.rows.tx.conn.now in
    let new = state g.S.Store c.put.new.tx.conn.now in
    let e = c.in_err-put.field-0.0 in
    let r = c.in-Some.row.now in
    let before = c.rows.invariant.before in
    let wrote = c.in_err-put.ensures.writes in
    let step : c.rows.row-iterator ≡ r ∷ c.next.new.self = grind (arith, common_steps) in
    let split = append_assoc before (r ∷ []) c.next.new.self ∙ ap (λ l. before ++ l) (sym step) ∙ c.rows.invariant.split in
    let rest = may_be_put g.T.TotalRow.puts g.met.T.TotalRow.has_write c.next.new.self in
    fills_before old new e c.from_residual.result c.from_residual.ensures.1
    (λ vs put. (
      rest.0,
      subst (λ l. ArePut g.T.TotalRow.puts l (vs ++ rest.0)) split
          (put_then g.T.TotalRow.puts (before ++ r ∷ []) c.next.new.self vs rest.0 put rest.1),
    ))
    (fills_then {C = λ _ _. Unit {0}} old mid new totals_names (Err e) (λ first. first.only) (λ _ _ _ _. tt)
    (put_more g.T.TotalRow.puts before r wrote.says.0 wrote.says.1) c.rows.invariant.puts
    (fills_write wrote.says.0 mid new (Err e) wrote.transaction wrote.says.2))

pub returns-clause-fills : goal.returns-clause-fills
returns-clause-fills g c =
    let old = state g.S.Store c.args.tx.now.conn.now in
    let new = state g.S.Store c.rows.tx.conn.now in
    let none : c.rows.row-iterator ≡ [] = grind (arith, common_steps) in
    let all = sym (append-nil c.rows.invariant.before) ∙ ap (λ l. c.rows.invariant.before ++ l) (sym none) ∙ c.rows.invariant.split in
    subst (λ l. Fills (ArePut g.T.TotalRow.puts l) (PutsFirst g.T.TotalRow.in_table g.T.TotalRow.are l) old new (Ok tt)) all c.rows.invariant.puts
