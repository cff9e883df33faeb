-- Tokens that were sold to one meter, and how they come to it.
use Rattle.std.specs.Prelude.{ℕ, ◌<◌, ◌≤◌, ◌&&◌, List, All, AllPairs, map, filter, nat_lt, count_by}
use Rattle.sts_token.specs.Fields.{AreFields, TokenFields}
use Rattle.sts_token.specs.Meter.{Entry, Reader, entered, is_member, taken_over}
use Rattle.sts_token.specs.Token.{BlockFunction, token_of}

-- fields of tokens in the order of their sale: the identifiers rise from 1 on
pub record AreSold (sold : List TokenFields) : Type 0 where
  pub fields : All AreFields sold
  pub from_one : All (λ f. 1 ≤ f.tid) sold
  pub rising : AllPairs (λ f g. f.tid < g.tid) sold

abbrev pub tid_of : TokenFields → ℕ
tid_of f = f.tid

-- the tokens of these fields are entered, one after another
abbrev pub entries_of : BlockFunction → ℕ → List TokenFields → List Entry
entries_of forward key fields = map (λ f. entered (token_of forward key f)) fields

-- how many of the tokens sold later than f are among those that came
abbrev pub later_come : List TokenFields → List TokenFields → TokenFields → ℕ
later_come sold came f =
    count_by (λ g. nat_lt f.tid g.tid && is_member (map tid_of came) g.tid) sold

-- those of the tokens sold that the meter accepted over these entries
abbrev pub sold_accepted : Reader → List Entry → List TokenFields → List TokenFields
sold_accepted read history sold = filter (λ f. is_member (taken_over read history).tids f.tid) sold
