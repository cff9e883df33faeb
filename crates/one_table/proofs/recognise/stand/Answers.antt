use Rattle.std.proofs.Common.{rules, ◌≡◌, ℕ, List, [], Bor, Result, Ok, Err, IsErrAnd, IfErr, sym, subst, ◌∙◌}
use Rattle.one_table.proofs.RecogniseLemmas.{each_left, defined_at}
use Rattle.one_table.specs.Comparing.{StandsAs}
use Rattle.one_table.proofs.recognise.stand.Goals as goal

if_err : {A E : Type 0} (r : Result A E) (e : E) (P : E → Type 0) → IsErrAnd r (λ x. x ≡ e) → P e → IfErr r P
if_err (Ok a) e P h p = absurd h
if_err (Err x) e P h p = subst P (sym h) p

both : {A E : Type 0} (a : A) (e : E) → Ok a ≡ Err e → ⊥
both a e h = cc

pub returns-in_err-stands_as-clause-failed : goal.returns-in_err-stands_as-clause-failed
returns-in_err-stands_as-clause-failed c = if_err c.from_residual.result c.in_err-stands_as.field-0.0 _ c.from_residual.ensures.1 (λ ts defined other.
    let here : Bor (List ℕ) = record { ref_ptr = (0, 0); now = [] } in
    let is = defined_at c.args.texts.now ts c.loop-text.text-index here defined c.loop-text-test.true in
    let failed = c.in_err-stands_as.ensures.failed other in
    both is.0 c.in_err-stands_as.field-0.0 (sym is.1 ∙ failed))

pub loop-text-preserved : goal.loop-text-preserved
loop-text-preserved c =
    let here : Bor (List ℕ) = record { ref_ptr = (0, 0); now = [] } in
    each_left (λ text. StandsAs c.args.schema.now text.now) c.args.texts.now c.loop-text.text-index here _ c.loop-text-test.true
    (c.in_ok-stands_as.ensures.told.0 (let e = c.if-not-branch.false in search rules)) c.loop-text.invariant
