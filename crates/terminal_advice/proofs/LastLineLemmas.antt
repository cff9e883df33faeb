-- A line of which no more than the beginning is kept, and the last line of a text that goes on.
use Rattle.std.proofs.Common.{◌≡◌, ◌∙◌, ℕ, ◌<◌, ◌≤◌, List, [], ◌∷◌, ◌++◌, length, take, refl, sym, ap, arith}
use Rattle.std.proofs.lemmas.List.{length-append, length-take, take_all, take-append-le}
use Rattle.terminal_advice.specs.LastLine.{Line, line_after, line_along}

-- where there was room for a byte, it stands behind the whole line
pub push_kept : (n : ℕ) (kept line : List ℕ) (byte : ℕ) → kept ≡ take n line → length kept < n
    → kept ++ byte ∷ [] ≡ take n (line ++ byte ∷ [])
push_kept n kept line byte is room =
    let size = length-take n line in
    let more = length-append line (byte ∷ []) in
    let same : length kept ≡ length (take n line) = ap length is in
    let short : length line < n = grind (arith, size, same, room) in
    let whole : kept ≡ line = is ∙ take_all n line (omega (arith, short)) in
    rw whole (sym (take_all n (line ++ byte ∷ []) (omega (arith, short, more))))

-- where there was none, nothing more is kept
pub full_kept : (n : ℕ) (kept line : List ℕ) (byte : ℕ) → kept ≡ take n line → n ≤ length kept
    → kept ≡ take n (line ++ byte ∷ [])
full_kept n kept line byte is full =
    let size = length-take n line in
    let same : length kept ≡ length (take n line) = ap length is in
    let long : n ≤ length line = grind (arith, size, same, full) in
    is ∙ sym (take-append-le n line (byte ∷ []) long)

-- a text that is followed by another
pub along-append : (line : Line) (text more : List ℕ) → line_along line (text ++ more) ≡ line_along (line_along line text) more
along-append line [] more = refl
along-append line (byte ∷ text) more = along-append (line_after line byte) text more
