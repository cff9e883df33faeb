use Rattle.std.proofs.Common.{◌≡◌, ◌≤◌, length, map, take}
use Rattle.std.specs.Prelude.{vec_capacity, vec_len}
use Rattle.command_line.specs.Values.{SayEach, SaysAmount}
use Rattle.command_line.proofs.values.all_tenths.Given as goal

-- the amounts of the words so far, and room for the others
abbrev pub invariant-loop-word : goal.invariant-loop-word
invariant-loop-word l = record {
  so_far : SayEach SaysAmount (map (λ w. w.now) (take l.word-index l.words)) l.amounts.items;
  count : vec_len l.amounts ≡ l.word-index;
  room : length l.words ≤ vec_capacity l.amounts;
}
