use Rattle.books.proofs.LastSaleLemmas.{last_by_number, never_sold}
use Rattle.books.proofs.last_sales.last_sale_law.Goals as goal

pub returns-clause-last : goal.returns-clause-last
returns-clause-last c = λ lives o number s are is.
    let office = c.history_law.ensures.offices lives o are in
    last_by_number o (λ n base tid e. c.store_law.ensures.of_last_sale o n base tid office e) number office (c.reached_law.ensures.lives lives o are) s is

pub returns-clause-none : goal.returns-clause-none
returns-clause-none c = λ o number s office is there same.
    never_sold o (λ n base tid e. c.store_law.ensures.of_last_sale o n base tid office e) number is s there same
