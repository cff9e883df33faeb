use Rattle.std.proofs.Common.{◌∙◌, ℕ, List, ◌∷◌, ◌++◌, ap, sym, subst, arith}
use Rattle.desk_client.specs.Start.{IsHttpDate}
use Rattle.desk_client.proofs.DateLemmas.{cut_date, cut_whole, too_short}
use Rattle.desk_client.proofs.start.behind_value.Goals as goal

pub returns-then-text-lt-DATE_LEN : goal.returns-then-text-lt-DATE_LEN
returns-then-text-lt-DATE_LEN c = λ date rest is.
    too_short c.args.text.now date (13 ∷ 10 ∷ 13 ∷ 10 ∷ rest) (omega (arith, c.if-text-lt-DATE_LEN.true)) is

pub returns-then-not-is_date : goal.returns-then-not-is_date
returns-then-not-is_date c = λ date rest is same.
    let cut = cut_date c.args.text.now c.split_at.result.0.now c.split_at.result.1.now date (13 ∷ 10 ∷ 13 ∷ 10 ∷ rest)
    (omega (arith, c.if-text-lt-DATE_LEN.false)) c.split_at.ensures.front c.split_at.ensures.back is same in
    let tested = c.is_date.ensures.1 (subst IsHttpDate (sym cut.0) is) in
    let not = c.if-not-is_date.true in absurd (cc)

pub returns-in-Some : goal.returns-in-Some
returns-in-Some c = (
  c.split_at.result.0.now,
  c.is_date.ensures.0 c.if-not-is_date.false,
  sym (cut_whole c.args.text.now c.split_at.result.0.now c.split_at.result.1.now c.split_at.ensures.front c.split_at.ensures.back)
      ∙ ap (λ (x : List ℕ). c.split_at.result.0.now ++ x) (c.in-Some.ensures {u = tt}),
)

pub returns-in-None : goal.returns-in-None
returns-in-None c = λ date rest is same.
    let cut = cut_date c.args.text.now c.split_at.result.0.now c.split_at.result.1.now date (13 ∷ 10 ∷ 13 ∷ 10 ∷ rest)
    (omega (arith, c.if-text-lt-DATE_LEN.false)) c.split_at.ensures.front c.split_at.ensures.back is same in
    c.in-None.ensures {u = tt} rest cut.1
