-- For how long a use of a connection may wait, in nanoseconds.
use Rattle.std.specs.Prelude.{◌≡◌, ℕ, ◌+◌, ◌<◌, ◌≤◌, ◌⊎◌, Bool, true, false, Option, None, Some, min}
use Rattle.std.specs.Prelude.{List, [], ◌∷◌}
use Rattle.std.specs.List.{AllByRecursion, sum}
use Rattle.std.specs.Duration.{as_nanos}
use Rattle.std.specs.declared.time.Duration.{Duration}

-- the longest wait of one use, in all: 30 seconds
abbrev pub longest_wait : ℕ
longest_wait = 30000000000

-- of a time so much is left once so much of it has passed: some
abbrev pub IsLeft : (most passed left : ℕ) → Type 0
IsLeft most passed left = (0 < left) × (passed + left ≡ most)

-- A use of whose time so much has passed, and which has waited for so long in vain, may wait so
-- long: for some time, with what it waited no longer than one use may, and not beyond its time.
pub record MayWait (most passed vain wait : ℕ) : Type 0 where
  pub some : 0 < wait
  pub within : vain + wait ≤ longest_wait
  pub in_time : passed + wait ≤ most

-- For how long a use may wait next, of whose time so much has passed, and which has waited for so
-- long in vain: within its time; once that is over not at all if somebody else waits, and else for
-- what is left of the longest wait. So it may, too, where nothing tells how much has passed. It may
-- not once nothing is left of the longest wait.
abbrev pub IsNextWait : (tells : Bool → Type 0) → (most vain : ℕ) → Option Duration
    → Option Duration → Type 0
IsNextWait tells most vain None None = longest_wait ≤ vain
IsNextWait tells most vain None (Some wait) = IsLeft longest_wait vain (as_nanos wait)
IsNextWait tells most vain (Some passed) None =
    (longest_wait ≤ vain) ⊎ ((most ≤ as_nanos passed) × tells true)
IsNextWait tells most vain (Some passed) (Some wait) =
    MayWait most (as_nanos passed) vain (as_nanos wait)
    ⊎ ((most ≤ as_nanos passed) × tells false × IsLeft longest_wait vain (as_nanos wait))

-- the time that a connection has for what is read of it while others wait, from its beginning: 60
-- seconds
abbrev pub reading_time : ℕ
reading_time = 60000000000

-- and that which all its writes may wait: 30 seconds
abbrev pub writing_time : ℕ
writing_time = 30000000000

-- ---- of all uses

-- By its uses a connection became another, and each of them waited no longer than one of these
-- times, the last one first.
abbrev pub AreWaits : {S : Type 0} → (waits : S → ℕ → S → Type 0) → List ℕ → (first last : S)
    → Type 0
AreWaits waits [] first last = last ≡ first
AreWaits {S} waits (wait ∷ before) first last =
    (mid : S) × AreWaits waits before first mid × waits mid wait last

-- they waited no longer than that in all
abbrev pub WaitInAll : {S : Type 0} → (waits : S → ℕ → S → Type 0) → (most : ℕ) → (first last : S)
    → Type 0
WaitInAll waits most first last =
    (times : List ℕ) × (sum times ≤ most) × AreWaits waits times first last

-- each of them waited no longer than that
abbrev pub WaitEach : {S : Type 0} → (waits : S → ℕ → S → Type 0) → (most : ℕ) → (first last : S)
    → Type 0
WaitEach waits most first last =
    (times : List ℕ) × AllByRecursion (λ wait. wait ≤ most) times
    × AreWaits waits times first last

-- ---- at a desk

-- the time that a command has at a desk for all that it does there, from its call: 120 seconds
abbrev pub command_time : ℕ
command_time = 120000000000

-- For how long the command may still wait, of whose time so much has passed: for what is left of
-- it, if anything is; for the whole of it where nothing tells how much has passed.
abbrev pub IsWaitLeft : Option Duration → Option Duration → Type 0
IsWaitLeft None None = ⊥
IsWaitLeft None (Some wait) = as_nanos wait ≡ command_time
IsWaitLeft (Some passed) None = command_time ≤ as_nanos passed
IsWaitLeft (Some passed) (Some wait) = IsLeft command_time (as_nanos passed) (as_nanos wait)

-- so long the desk may let it wait for the connection: 10 seconds
abbrev pub connecting_time : ℕ
connecting_time = 10000000000

-- nothing is told of the first two seconds of a wait
abbrev pub quiet_time : ℕ
quiet_time = 2000000000

-- so much of a wait is waited at once: all, but where it is still to be told no more than that
abbrev pub IsSlice : (tells : Bool) → (left slice : ℕ) → Type 0
IsSlice true left slice = slice ≡ min left quiet_time
IsSlice false left slice = slice ≡ left
