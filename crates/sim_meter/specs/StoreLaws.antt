-- Sorted places answer a probe as it promises. The lemma stands here since the proof of a law of a
-- trait may name `specs/` alone.
use Rattle.std.proofs.Common.{◌≡◌, ℕ, Bool, false, ltb, List, map, get_or, inl, inr, sym, ◌∙◌}
use Rattle.std.proofs.Common.{arith}
use Rattle.std.proofs.lemmas.Bool.{cases_lt}
use Rattle.std.proofs.lemmas.Bool.Decides.{nat_tests}
use Rattle.std.proofs.lemmas.List.{get_or-map, get_or_past, length-map}
use Rattle.sim_meter.specs.Probe.{AreTrueFirst}
use Rattle.sim_meter.specs.Store.{AreSorted}

abbrev is_below : ℕ → ℕ → Bool
is_below t kept = ltb kept t

pub below_true_first : (t : ℕ) (places : List ℕ) → AreSorted places
    → AreTrueFirst (map (λ kept. ltb kept t) places)
below_true_first t places are =
    let fifty = are.fifty in
    let mapped = length-map places (is_below t) in
    record {
      fifty = mapped ∙ fifty;
      none_after = λ first later before none.
          elim (cases_lt later 50) [
            | inl within ↦
                let at_first = get_or-map (is_below t) places first 0 false (omega arith) in
                let at_later = get_or-map (is_below t) places later 0 false (omega arith) in
                let rises = are.upward first later 0 (omega arith) (omega arith) in
                let stays : ltb (get_or places first 0) t ≡ false → ltb (get_or places later 0) t
                ≡ false =
                λ less. grind (arith, nat_tests) in
                at_later ∙ stays (sym at_first ∙ none)
            | inr past ↦ get_or_past (map (is_below t) places) later false (omega arith)
          ];
    }
