-- What is remembered of a text that goes on.
use Rattle.std.proofs.Common.{◌≡◌, List, [], ◌++◌, ℕ, false, Option, Result, Ok, Err, take, sym, subst}
use Rattle.std.proofs.KnownBytes.{Appends-kept, Appends-nil, Appends-trans}
use Rattle.std.specs.Io.KnownBytes.{Appends, Keeps, WriteAppends}
use Rattle.terminal_advice.specs.LastLine.{IsKept, Line, last_line, line_along}
use Rattle.terminal_advice.specs.Remembers.{Remembers}
use Rattle.terminal_advice.specs.declared.last_line.LastLine.{LastLine}
use Rattle.terminal_advice.proofs.LastLineLemmas.{along-append}

-- nothing was written
pub remembers_none : (begun now : Option (List ℕ)) (last : LastLine) → now ≡ begun → IsKept (last_line []) last → Remembers begun now last
remembers_none begun now last is kept =
    record { text = []; came = subst (λ held. Appends begun held []) (sym is) (Appends-nil begun); kept = kept }

-- a writer that kept what it held
pub remembers_kept : (begun now new : Option (List ℕ)) (last : LastLine) → Keeps now new → Remembers begun now last → Remembers begun new last
remembers_kept begun now new last keeps it =
    record { text = it.text; came = Appends-kept begun now new it.text it.came keeps; kept = it.kept }

-- a further text came
pub remembers_more : (begun now new : Option (List ℕ)) (more : List ℕ) (last next : LastLine) → Appends now new more
    → ((line : Line) → IsKept line last → IsKept (line_along line more) next) → Remembers begun now last → Remembers begun new next
remembers_more begun now new more last next came passed it = record {
  text = it.text ++ more;
  came = Appends-trans begun now new it.text more it.came came;
  kept = subst (λ line. IsKept line next) (sym (along-append (record { bytes = []; ended = false }) it.text more)) (passed (last_line it.text) it.kept);
}

-- what a write took came behind what was held
pub write_taken : {E : Type 0} (old new : Option (List ℕ)) (r : Result ℕ E) (count : ℕ) (buf : List ℕ) → r ≡ Ok count → WriteAppends old new r buf
    → Appends old new (take count buf)
write_taken old new r count buf is w = subst (λ r. WriteAppends old new r buf) is w

-- a write that failed left it as it was
pub write_failed : {E : Type 0} (old new : Option (List ℕ)) (r : Result ℕ E) (error : E) (buf : List ℕ) → r ≡ Err error → WriteAppends old new r buf
    → Keeps old new
write_failed old new r error buf is w = subst (λ r. WriteAppends old new r buf) is w
