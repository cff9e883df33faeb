-- For how long a use of a connection may wait.
use Rattle.std.proofs.Common.{◌≡◌, ℕ, ◌+◌, ◌≤◌, inl, inr, Bool, List, ◌∷◌, Option, Some, None, arith, sum}
use Rattle.std.proofs.lemmas.List.Sums.{sum_by-cons}
use Rattle.std.specs.Duration.{as_nanos}
use Rattle.std.specs.declared.time.Duration.{Duration}
use Rattle.vend_ports.specs.port.Waits.{IsNextWait, longest_wait}

-- with what it waited in vain a use waits no longer than one may
pub next_within : (tells : Bool → Type 0) (most vain : ℕ) (passed : Option Duration) (wait : Duration) → IsNextWait tells most vain passed (Some wait)
    → vain + as_nanos wait ≤ longest_wait
next_within tells most vain None wait (some, all) = omega (arith, all)
next_within tells most vain (Some passed) wait (inl may) = may.within
next_within tells most vain (Some passed) wait (inr (over, alone, (some, all))) = omega (arith, all)

-- one time more behind others
pub sum_on : (wait : ℕ) (times : List ℕ) → sum (wait ∷ times) ≡ sum times + wait
sum_on wait times = omega (arith, sum_by-cons (λ x. x) wait times)
