-- The heads that an input may begin with: those of the grammar of `httparse`, within the limits.
use Rattle.std.specs.Prelude.{ℕ, ◌<◌, ◌≤◌, List, ◌++◌, length}
use Rattle.httparse.specs.Grammar.{RequestHead, ReadsRequest, MayBecomeRequest, print_request}

-- the most bytes of a head, with the empty lines before it and the one that ends it
abbrev pub longest_head : ℕ
longest_head = 8192

-- the most header fields of a head
abbrev pub most_fields : ℕ
most_fields = 32

-- the input begins with the head, and the rest follows it
pub record BeginsWithHead (input : List ℕ) (head : RequestHead) (rest : List ℕ) : Type 0 where
  pub reads : ReadsRequest input head rest
  pub fields : length head.fields ≤ most_fields
  pub bytes : length (print_request head) ≤ longest_head

-- no beginning of the input is a head
abbrev pub HasNoHead : List ℕ → Type 0
HasNoHead input = (head : RequestHead) (rest : List ℕ) → ¬ BeginsWithHead input head rest

-- nor will one be, whatever bytes follow
abbrev pub NeverHasHead : List ℕ → Type 0
NeverHasHead input = (more : List ℕ) → HasNoHead (input ++ more)

-- no beginning of the input is a head yet, and bytes may follow that make one: the input is
-- shorter than the longest head, and a beginning of one by the grammar
pub record AwaitsHead (input : List ℕ) : Type 0 where
  pub none : HasNoHead input
  pub short : length input < longest_head
  pub begun : MayBecomeRequest input
