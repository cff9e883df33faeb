-- The lines of a metering, one after another.
use Rattle.std.proofs.Common.{◌≡◌, ◌∙◌, Bool, true, false, if◌then◌else◌, bytes_eq, ℕ, ◌+◌, ◌<◌, ◌≤◌, List, [], ◌∷◌, ◌++◌, length, get_or, map, take, drop, drop-cons, add-one, refl, ap, sym, append_assoc}
use Rattle.std.proofs.Math.Seq.{take-suc}
use Rattle.std.proofs.lemmas.Slice.Eq.{bytes_eq-Decides}
use Rattle.std.proofs.lemmas.List.{drop_all, map-append, take_all}
use Rattle.std.specs.Bool.{Decides}
use Rattle.std.specs.Borrow.{Bor}
use Rattle.std.specs.List.{concat}
use Rattle.sts_fields.specs.Text.{Text}
use Rattle.sts_token.specs.Meter.{Entry, Reader, cleared, credit_of, entered}
use Rattle.vend_ports.specs.commands.Metered.{clear_word, entry_of, lines_after, metering, word_line}
use Rattle.vend_ports.specs.print.Printed.{credit_line}

-- what the first i words did
abbrev pub history : List (Bor Text) → ℕ → List Entry
history words i = map entry_of (map (λ w. w.now) (take i words))

-- the lines from word i on
abbrev pub lines_from : Reader → List (Bor Text) → ℕ → Text
lines_from read words i = concat (lines_after read (history words i) (map (λ w. w.now) (drop i words)))
    ++ credit_line (credit_of read (map entry_of (map (λ w. w.now) words)))

-- the history of one word more ends with what that word did
pub history-more : (words : List (Bor Text)) (i : ℕ) (d : Bor Text) → i < length words → history words (i + 1) ≡ history words i
    ++ entry_of (get_or words i d).now ∷ []
history-more words i d within =
    rw add-one (ap (λ ws. map entry_of (map (λ w. w.now) ws)) (take-suc words i d within)
    ∙ ap (map entry_of) (map-append (λ w. w.now) (take i words) (get_or words i d ∷ []))
    ∙ map-append entry_of (map (λ w. w.now) (take i words)) ((get_or words i d).now ∷ []))

-- the lines of a metering are those from the first word on
pub all_lines : (read : Reader) (words : List (Bor Text)) → metering read (map (λ w. w.now) words) ≡ lines_from read words 0
unfolding metering
all_lines read words = refl

-- the line of word i, and those behind it
pub next_line : (read : Reader) (words : List (Bor Text)) (i : ℕ) (d : Bor Text) (front whole : List ℕ) → i < length words → whole ≡ front
    ++ lines_from read words i
    → whole ≡ front ++ (word_line read (history words i) (get_or words i d).now ++ lines_from read words (i + 1))
next_line read words i d front whole within left =
    let word = (get_or words i d).now in
    let end = credit_line (credit_of read (map entry_of (map (λ w. w.now) words))) in
    let rest = concat (lines_after read (history words (i + 1)) (map (λ w. w.now) (drop (i + 1) words))) in
    let first = word_line read (history words i) word in
    let more : map (λ w. w.now) (drop i words) ≡ word ∷ map (λ w. w.now) (drop (i + 1) words) =
    rw add-one (ap (map (λ w. w.now)) (drop-cons words i d within)) in
    let behind : concat (lines_after read (history words i) (map (λ w. w.now) (drop i words))) ≡ first ++ rest =
    ap (λ ws. concat (lines_after read (history words i) ws)) more
    ∙ ap (λ h. first ++ concat (lines_after read h (map (λ w. w.now) (drop (i + 1) words)))) (sym (history-more words i d within)) in
    left ∙ ap (λ l. front ++ (l ++ end)) behind ∙ ap (λ l. front ++ l) (append_assoc first rest end)

-- behind the last word the credit is left
pub last_line : (read : Reader) (words : List (Bor Text)) (i : ℕ) (front whole : List ℕ) → length words ≤ i → whole ≡ front
    ++ lines_from read words i → whole ≡ front ++ credit_line (credit_of read (history words i))
last_line read words i front whole past left =
    left ∙ ap (λ ws. front ++ (concat (lines_after read (history words i) (map (λ w. w.now) ws))
    ++ credit_line (credit_of read (map entry_of (map (λ w. w.now) words))))) (drop_all i words past)
    ∙ ap (λ ws. front ++ credit_line (credit_of read (map entry_of (map (λ w. w.now) ws)))) (sym (take_all i words past))

-- any other word than the one that clears is entered
pub no_clearing : (word : Text) → ¬ (word ≡ clear_word) → entry_of word ≡ entered word
no_clearing word other = by (bytes_eq word clear_word) (bytes_eq-Decides word clear_word)
  where
    by : (b : Bool) → Decides b (word ≡ clear_word) → (if b then cleared else entered word) ≡ entered word
    by true is = absurd (other (is.0 refl))
    by false is = refl
