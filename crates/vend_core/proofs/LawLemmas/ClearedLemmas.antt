-- A meter that is cleared accepts from there on what a new one accepts, and keeps its credit.
use Rattle.std.proofs.Common.{◌≡◌, ℕ, ◌+◌, ◌-◌, ◌^◌, ◌↔◌, min, List, [], ◌∷◌, ◌++◌, Result, Ok, Err, refl, sym, ◌∙◌, ap, arith}
use Rattle.std.specs.Prelude.{sum}
use Rattle.std.specs.List.{fold}
use Rattle.std.proofs.lemmas.List.Sums.{fold-append, sum_by-append}
use Rattle.sts_token.specs.Fields.{TokenFields}
use Rattle.sts_token.specs.Meter.{Accepts, Entry, Reader, Taken, TidAnswer, accepted, after_entry, after_reading, answer_to, answered, cleared, credit_of, entered, old, taken_over, used}
use Rattle.sts_token.specs.declared.fault.TokenFault.{TokenFault}

-- a meter that took amounts before all these
abbrev with_before : List ℕ → Taken → Taken
with_before amounts taken = record { tids = taken.tids; amounts = taken.amounts ++ amounts }

module _ (read : Reader) (amounts : List ℕ) where
  answered_alike : (taken : Taken) (f : TokenFields) (answer : TidAnswer) → answered (with_before amounts taken) f answer
      ≡ with_before amounts (answered taken f answer)
  answered_alike taken f accepted = refl
  answered_alike taken f used = refl
  answered_alike taken f old = refl

  read_alike : (taken : Taken) (reading : Result TokenFields TokenFault) → after_reading (with_before amounts taken) reading
      ≡ with_before amounts (after_reading taken reading)
  read_alike taken (Ok f) = answered_alike taken f (answer_to taken.tids f.tid)
  read_alike taken (Err fault) = refl

  entered_alike : (taken : Taken) (e : Entry) → after_entry read (with_before amounts taken) e ≡ with_before amounts (after_entry read taken e)
  entered_alike taken (entered text) = read_alike taken (read text)
  entered_alike taken cleared = refl

  -- what it makes of entries does not rest on the amounts
  taken_alike : (taken : Taken) (history : List Entry) → fold (after_entry read) (with_before amounts taken) history
      ≡ with_before amounts (fold (after_entry read) taken history)
  taken_alike taken [] = refl
  taken_alike taken (e ∷ history) =
      ap (λ (t : Taken). fold (after_entry read) t history) (entered_alike taken e)
      ∙ taken_alike (after_entry read taken e) history

abbrev nothing_taken : Taken
nothing_taken = record { tids = []; amounts = [] }

module _ (read : Reader) (before history : List Entry) where
  taken_after_clearing : taken_over read (before ++ cleared ∷ history) ≡ with_before (taken_over read before).amounts (taken_over read history)
  taken_after_clearing =
      fold-append (after_entry read) nothing_taken before (cleared ∷ history)
      ∙ taken_alike read (taken_over read before).amounts nothing_taken history

  -- a cleared meter accepts what it would if nothing had been entered before
  pub accepts_after_clearing : (text : List ℕ) (f : TokenFields) → Accepts read (before ++ cleared ∷ history) text f ↔ Accepts read history text f
  accepts_after_clearing text f =
      let same = ap (λ (t : Taken). answer_to t.tids f.tid) taken_after_clearing in (
        λ is. record { reads = is.reads; answer = sym same ∙ is.answer },
        λ is. record { reads = is.reads; answer = same ∙ is.answer },
      )

  -- a cleared meter keeps its credit, and adds what comes after, up to the bound
  pub credit_after_clearing : credit_of read (before ++ cleared ∷ history) ≡ min (2 ^ 64 - 1) (credit_of read before + credit_of read history)
  credit_after_clearing =
      let older = (taken_over read before).amounts in
      let newer = (taken_over read history).amounts in
      let both : sum (newer ++ older) ≡ sum newer + sum older = sum_by-append (λ (n : ℕ). n) newer older in
      ap (λ (t : Taken). min (2 ^ 64 - 1) (sum t.amounts)) taken_after_clearing
      ∙ ap (λ (n : ℕ). min (2 ^ 64 - 1) n) both
      ∙ capped (sum newer) (sum older)
    where
      capped : (a b : ℕ) → min (2 ^ 64 - 1) (a + b) ≡ min (2 ^ 64 - 1) (min (2 ^ 64 - 1) b + min (2 ^ 64 - 1) a)
      capped a b = omega arith
