use Rattle.sts_fields.proofs.AmountLemmas.{amount_of_code-rises, representable_bound, same_parts, code_from_parts}
use Rattle.sts_fields.proofs.amount.amount_law.Goals as goal

pub returns-clause-one_pair : goal.returns-clause-one_pair
returns-clause-one_pair c = same_parts

pub returns-clause-each_amount : goal.returns-clause-each_amount
returns-clause-each_amount c =
    λ t carried. (carried.0, carried.1, carried.2, code_from_parts _ _ _ carried.2)

pub returns-clause-one_code : goal.returns-clause-one_code
returns-clause-one_code c = λ t a b p q. let same = same_parts t _ _ _ _ p.2 q.2 in cc (p.3, q.3)

pub returns-clause-greatest : goal.returns-clause-greatest
returns-clause-greatest c = λ t carried. representable_bound _ _ _ carried.2

pub returns-clause-rises : goal.returns-clause-rises
returns-clause-rises c = amount_of_code-rises
