use Rattle.std.proofs.Common.{◌≡◌, ℕ, ◌+◌, ◌-◌, ◌/◌, ◌%◌, sym, ◌∙◌, ap, length, replicate, set, arith}
use Rattle.std.specs.Char.{digit_char}
use Rattle.std.proofs.lemmas.List.{length-replicate, length-set}
use Rattle.sts_token.proofs.DigitsLemmas.{written_digits, written_none, written_turn, written_all}
use Rattle.sts_token.proofs.digits.digits.Goals as goal

pub loop-written-init : goal.loop-written-init
loop-written-init g c =
    let whole : g.row.N - 0 ≡ g.row.N = omega arith in
    let all : length (replicate g.row.N 48) ≡ g.row.N = length-replicate g.row.N 48 in (
      all,
      ap (written_digits c.args.base c.args.number _) whole
          ∙ written_none c.args.base c.args.number g.row.N _ all,
    )

pub loop-written-preserved : goal.loop-written-preserved
loop-written-preserved g c =
    let l = c.loop-written in
    let place = g.row.N - 1 - l.written in
    let digit = c.digit.ensures ∙ ap (λ (b : ℕ). digit_char (l.rest % b)) c.from.ensures in
    let turn = written_turn c.args.base l.rest l.written g.row.N l.text c.loop-written-test.true l.invariant.0 in (
      length-set l.text place c.digit.result ∙ l.invariant.0,
      ap (λ (b : ℕ). written_digits c.args.base (l.rest / b) (set l.text place c.digit.result)
          (g.row.N - (l.written + 1))) c.from-rest.ensures
          ∙ ap (λ (d : ℕ). written_digits c.args.base (l.rest / c.args.base) (set l.text place d)
          (g.row.N - (l.written + 1))) digit
          ∙ sym turn ∙ l.invariant.1,
    )

pub returns : goal.returns
returns g c =
    let l = c.loop-written in
    sym (written_all c.args.base l.rest l.text)
    ∙ ap (written_digits c.args.base l.rest l.text) (omega arith) ∙ l.invariant.1
