use Rattle.std.proofs.Common.{◌≡◌, false, true, ap, refl, rules}
use Rattle.std.proofs.KnownBytes.{Keeps-refl}
use Rattle.std.proofs.Math.Logic.{∥∥₁_map}
use Rattle.terminal_advice.proofs.DoubtLemmas.{doubts_said}
use Rattle.terminal_advice.proofs.RunLemmas.{advised_loud, advised_quiet}
use Rattle.terminal_advice.proofs.advised.run_advised.Goals as goal

pub returns-then-not-at_terminal-clause-run : goal.returns-then-not-at_terminal-clause-run
returns-then-not-at_terminal-clause-run g c =
    let ran = c.run-status.ensures.run in
    let first = ap g.E.Write.contents c.new-remembering.ensures in
    let last = ap g.E.Write.contents c.into_parts-err.ensures.inner in
    let quiet : c.args.at_terminal ≡ false = search rules in (
      g.E.Write.contents c.into_parts-err.result.0,
      g.E.Write.contents c.into_parts-err.result.0,
      ran.0,
      ran.1,
      ran.2,
      ran.3,
      ran.4,
      ran.5,
      rw (last, ← first) ran.6,
      ran.7,
      rw quiet (∥∥₁_map c.into_parts-err.ensures.last (advised_quiet _ _ _ _ _ c.requires refl)),
      rw quiet (Keeps-refl _),
    )

pub returns-clause-run : goal.returns-clause-run
returns-clause-run g c =
    let ran = c.run-status.ensures.run in
    let first = ap g.E.Write.contents c.new-remembering.ensures in
    let last = ap g.E.Write.contents c.into_parts-err.ensures.inner in
    let loud : c.args.at_terminal ≡ true = search rules in (
      g.E.Write.contents c.into_parts-err.result.0,
      g.E.Write.contents c.advise.new.err,
      ran.0,
      ran.1,
      ran.2,
      ran.3,
      ran.4,
      ran.5,
      rw (last, ← first) ran.6,
      ran.7,
      rw loud (∥∥₁_map c.into_parts-err.ensures.last (advised_loud _ _ _ _ _ _ c.requires refl c.advise.ensures)),
      rw loud (doubts_said _ _ _ _ c.doubt_at-doubt.ensures c.say_doubt.ensures),
    )
