use Rattle.std.proofs.Common.{Ok, ◌<◌, ◌^◌, ℕ}
use Rattle.sts_token.specs.Reading.{reading_of}
use Rattle.sts_token.specs.Token.{token_of}
use Rattle.sts_token.specs.Transform.{IsTransform}
use Rattle.sts_token.proofs.MeterLawLemmas.{below_bound, credit_at_most_sold, credit_is_sum, first_entry, in_order}
use Rattle.sts_token.proofs.MeterLemmas.{identifier_once, taken_iff, token_once}
use Rattle.sts_token.proofs.SoldLemmas.{IsReadAs}
use Rattle.sts_token.proofs.meter.meter_law.Goals as goal

-- under a transform each token reads as its fields
read_back : (c : goal.After-read_law) (forward inverse : ℕ → ℕ → ℕ) (key : ℕ)
    → IsTransform forward inverse → key < 2 ^ 64
    → IsReadAs (reading_of inverse key) (token_of forward key)
read_back c forward inverse key transform small =
    let law = c.read_law.ensures in
    record {
      reads = λ f fields.
          let token = token_of forward key f in
          law.one_reading forward inverse key token (reading_of inverse key token)
          (Ok f) transform small
          (law.computed forward inverse key token transform small)
          (law.written forward inverse key f transform small fields);
    }

pub returns-clause-identifier_once : goal.returns-clause-identifier_once
returns-clause-identifier_once c = identifier_once

pub returns-clause-token_once : goal.returns-clause-token_once
returns-clause-token_once c = token_once

pub returns-clause-taken : goal.returns-clause-taken
returns-clause-taken c = taken_iff

pub returns-clause-first_entry : goal.returns-clause-first_entry
returns-clause-first_entry c =
    λ forward inverse key sold came f transform small are all there not_came.
    first_entry (reading_of inverse key) (token_of forward key) sold came f
    (read_back c forward inverse key transform small) are all there not_came

pub returns-clause-in_order : goal.returns-clause-in_order
returns-clause-in_order c = λ forward inverse key earlier later f transform small are.
    in_order (reading_of inverse key) (token_of forward key) earlier later f
    (read_back c forward inverse key transform small) are

pub returns-clause-credit : goal.returns-clause-credit
returns-clause-credit c = λ forward inverse key sold came transform small are all.
    credit_is_sum c.amount_law.ensures.greatest (reading_of inverse key)
    (token_of forward key) sold came (read_back c forward inverse key transform small) are all

pub returns-clause-at_most_sold : goal.returns-clause-at_most_sold
returns-clause-at_most_sold c = λ forward inverse key sold came transform small are all.
    credit_at_most_sold c.amount_law.ensures.greatest (reading_of inverse key)
    (token_of forward key) sold came (read_back c forward inverse key transform small) are all

pub returns-clause-below_bound : goal.returns-clause-below_bound
returns-clause-below_bound c = below_bound c.amount_law.ensures.greatest
