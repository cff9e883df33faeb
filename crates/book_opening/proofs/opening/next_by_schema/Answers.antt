use Rattle.std.proofs.Common.{◌≡◌, ◌≤◌, ℕ, arith, ap, sym, subst, ◌∙◌, Some}
use Rattle.sqlite.specs.Held.{state}
use Rattle.book_tables.specs.Holds.{HasOfficeOf}
use Rattle.book_tables.specs.row.Rows.{present_format}
use Rattle.book_states.proofs.StayLemmas.{nothing_same}
use Rattle.book_opening.specs.NoOffice.IsNoOffice.{by_tables}
use Rattle.book_opening.proofs.CauseLemmas.{fails_schema}
use Rattle.book_opening.proofs.EndingLemmas.{refuses_nothing}
use Rattle.book_opening.proofs.LookingLemmas.{has_found}
use Rattle.book_opening.proofs.opening.next_by_schema.Goals as goal

pub returns-in-Ok-Some-eq0-clause-ends : goal.returns-in-Ok-Some-eq0-clause-ends
returns-in-Ok-Some-eq0-clause-ends g c opens =
    let old = state g.S.Store c.args.conn.now in
    let it = c.in-Ok-Some-eq0 in
    let none = it.field-0-is ∙ ap Some it.field-0-0-test in
    c.next_of_none.ensures.ends opens (has_found 0 old (λ k. (c.schema.ensures.live k).0)
    (subst (HasOfficeOf 0) c.schema.ensures.value ((it.ensures.found 0 (omega arith)).0 none)))

pub returns-in-Ok-Some-eq0-clause-fails : goal.returns-in-Ok-Some-eq0-clause-fails
returns-in-Ok-Some-eq0-clause-fails g c opens =
    let old = state g.S.Store c.args.conn.now in
    let it = c.in-Ok-Some-eq0 in
    let none = it.field-0-is ∙ ap Some it.field-0-0-test in
    c.next_of_none.ensures.fails opens (has_found 0 old (λ k. (c.schema.ensures.live k).0)
    (subst (HasOfficeOf 0) c.schema.ensures.value ((it.ensures.found 0 (omega arith)).0 none)))

pub returns-in-Ok-Some-clause-ends : goal.returns-in-Ok-Some-clause-ends
returns-in-Ok-Some-clause-ends g c opens =
    let old = state g.S.Store c.args.conn.now in
    let it = c.in-Ok-Some in
    let found = it.ensures.found it.format (omega (arith, c.if-format-lt-PRESENT_FORMAT.true)) in
    c.next_of_older.ensures.ends (has_found it.format old (λ k. (c.schema.ensures.live k).0)
    (subst (HasOfficeOf it.format) c.schema.ensures.value (found.0 it.field-0-is)))

pub returns-in-Ok-Some-clause-fails : goal.returns-in-Ok-Some-clause-fails
returns-in-Ok-Some-clause-fails g c opens =
    let old = state g.S.Store c.args.conn.now in
    let it = c.in-Ok-Some in
    let found = it.ensures.found it.format (omega (arith, c.if-format-lt-PRESENT_FORMAT.true)) in
    c.next_of_older.ensures.fails opens (has_found it.format old (λ k. (c.schema.ensures.live k).0)
    (subst (HasOfficeOf it.format) c.schema.ensures.value (found.0 it.field-0-is)))

pub returns-in-Ok-Some-2-clause-ends : goal.returns-in-Ok-Some-2-clause-ends
returns-in-Ok-Some-2-clause-ends g c opens =
    let old = state g.S.Store c.args.conn.now in
    let it = c.in-Ok-Some in
    let known : it.format ≤ present_format = rw it.field-0-is at it.ensures.known in
    let present : it.format ≡ present_format = omega (arith, known, c.if-format-lt-PRESENT_FORMAT.false) in
    c.next_of_present.ensures.ends
    (has_found present_format old (λ k. (c.schema.ensures.live k).0)
    (subst (HasOfficeOf present_format) c.schema.ensures.value ((it.ensures.found present_format (omega arith)).0 (it.field-0-is ∙ ap Some present))))

pub returns-in-Ok-Some-2-clause-fails : goal.returns-in-Ok-Some-2-clause-fails
returns-in-Ok-Some-2-clause-fails g c opens =
    let old = state g.S.Store c.args.conn.now in
    let it = c.in-Ok-Some in
    let known : it.format ≤ present_format = rw it.field-0-is at it.ensures.known in
    let present : it.format ≡ present_format = omega (arith, known, c.if-format-lt-PRESENT_FORMAT.false) in
    c.next_of_present.ensures.fails opens
    (has_found present_format old (λ k. (c.schema.ensures.live k).0)
    (subst (HasOfficeOf present_format) c.schema.ensures.value ((it.ensures.found present_format (omega arith)).0 (it.field-0-is ∙ ap Some present))))

pub returns-in-Ok-None-clause-ends : goal.returns-in-Ok-None-clause-ends
returns-in-Ok-None-clause-ends g c opens =
    let old = state g.S.Store c.args.conn.now in
    let it = c.in-Ok-None in
    let none : (n : ℕ) → n ≤ present_format → ¬ HasOfficeOf n old.now.schema = λ n known has. absurd
    (let e = sym it.field-0-is ∙ (it.ensures.found n known).1 (subst (HasOfficeOf n) (sym c.schema.ensures.value) has) in cc) in
    refuses_nothing old old _ (λ _. (nothing_same old).same) (nothing_same old).survives (λ clean. record {
      is_open = opens clean;
      named = by_tables none;
      none = λ o at. let stands = at.now (opens clean) in none stands.format stands.known stands.held.1.has;
    })

pub returns-in-Err-clause-ends : goal.returns-in-Err-clause-ends
returns-in-Err-clause-ends g c opens =
    let old = state g.S.Store c.args.conn.now in
    refuses_nothing old old _ (λ _. (nothing_same old).same) (nothing_same old).survives (λ _. tt)

pub returns-in-Err-clause-fails : goal.returns-in-Err-clause-fails
returns-in-Err-clause-fails g c opens clean = fails_schema g.S.Store (state g.S.Store c.args.conn.now) (opens clean)
