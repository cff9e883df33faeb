use Rattle.std.proofs.Common.{arith, ℕ, ◌≡◌, List, [], ◌++◌, ap, refl, sym, subst, Ok}
use Rattle.sqlite.specs.Held.{state}
use Rattle.book_tables.specs.format.Filling.{AreFilling, Fills, bases_from}
use Rattle.book_tables.specs.format.Making.{FillsMissing}
use Rattle.book_tables.specs.writing.Writes.{Write}
use Rattle.book_tables.specs.writing.Writing.{totals_names}
use Rattle.book_tables.proofs.FormatLemmas.BringingLemmas.{lacks_nothing, missing_first, missing_second, missing_third}
use Rattle.book_tables.proofs.FormatLemmas.FillingLemmas.{fills_as, fills_before, fills_by, fills_none, fills_then}
use Rattle.book_tables.proofs.format.fill.fill_missing.Goals as goal

pub returns-in_err-fill_totals-in-1-clause-fills : goal.returns-in_err-fill_totals-in-1-clause-fills
returns-in_err-fill_totals-in-1-clause-fills g c =
    let old = state g.S.Store c.args.tx.now.conn.now in
    let new = state g.S.Store c.fill_totals.new.tx.conn.now in
    let meters = c.args.meters.now in
    let sales = c.args.sales.now in
    let one : 1 ≡ c.args.from = omega (arith, c.in-1.is) in
    subst (λ (n : ℕ). Fills (AreFilling n meters sales) (FillsMissing n meters sales) old new c.from_residual.result) one
    (fills_before old new c.in_err-fill_totals-in-1.field-0.0 c.from_residual.result c.from_residual.ensures.1
    (λ vs totals. (bases_from 1 meters, (vs, totals, refl))) c.in_err-fill_totals-in-1.ensures.fills)

pub returns-in_ok-fill_totals-in-1-clause-fills : goal.returns-in_ok-fill_totals-in-1-clause-fills
returns-in_ok-fill_totals-in-1-clause-fills g c =
    let old = state g.S.Store c.args.tx.now.conn.now in
    let mid = state g.S.Store c.fill_totals.new.tx.conn.now in
    let new = state g.S.Store c.fill_bases.new.tx.conn.now in
    let meters = c.args.meters.now in
    let sales = c.args.sales.now in
    let one : 1 ≡ c.args.from = omega (arith, c.in-1.is) in
    subst (λ (n : ℕ). Fills (AreFilling n meters sales) (FillsMissing n meters sales) old new c.fill_bases.result) one
    (fills_then old mid new totals_names c.fill_bases.result (λ totals. totals.only) (missing_first meters sales old mid new)
    (λ vs ws totals is. (vs, totals, ap (λ (l : List Write). vs ++ l) is)) c.in_ok-fill_totals-in-1.ensures.fills c.fill_bases.ensures.fills)

pub returns-in-2-clause-fills : goal.returns-in-2-clause-fills
returns-in-2-clause-fills g c =
    let old = state g.S.Store c.args.tx.now.conn.now in
    let new = state g.S.Store c.fill_bases-in-2.new.tx.conn.now in
    let meters = c.args.meters.now in
    let sales = c.args.sales.now in
    let two : 2 ≡ c.args.from = omega (arith, c.in-2.is) in
    subst (λ (n : ℕ). Fills (AreFilling n meters sales) (FillsMissing n meters sales) old new c.fill_bases-in-2.result) two
    (fills_as old new c.fill_bases-in-2.result (missing_second meters sales old new)
    (fills_by old new c.fill_bases-in-2.result (λ ws is. ([], refl, is)) c.fill_bases-in-2.ensures.fills))

pub returns-in_default-clause-fills : goal.returns-in_default-clause-fills
returns-in_default-clause-fills g c =
    let old = state g.S.Store c.args.tx.now.conn.now in
    let meters = c.args.meters.now in
    let sales = c.args.sales.now in
    let nothing = lacks_nothing c.args.from meters sales (λ one. omega (arith, c.in_default, one)) (λ two. omega (arith, c.in_default, two)) in
    fills_by old old (Ok tt) (λ ws is. subst (AreFilling c.args.from meters sales) (sym is) nothing)
    (fills_none old (missing_third meters sales c.args.from c.requires (λ one. omega (arith, c.in_default, one))
    (λ two. omega (arith, c.in_default, two)) old))
