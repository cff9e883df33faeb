use Rattle.std.proofs.Common.{◌≤◌, List, arith}
use Rattle.std.specs.Prelude.{All, Contains}
use Rattle.std.proofs.lemmas.List.Elements.{All-weaker, Contains-get_or}
use Rattle.vend_core.proofs.LawLemmas.ClearedLemmas.{accepts_after_clearing, credit_after_clearing}
use Rattle.vend_core.specs.Law.Life.{AreLives, IsHanded, Life, WasMadeSince}
use Rattle.vend_core.specs.Law.SoldTokens.{AreSalesTo, SimMeter, reads_by}
use Rattle.office_rules.proofs.OfficeLemmas.{empty_is_office}
use Rattle.office_rules.proofs.OfficeLemmas.MapLemmas.{all_from_contains}
use Rattle.office_rules.specs.Office.{Office, empty_office}
use Rattle.office_rules.specs.declared.office.sale.Sale.{Sale}
use Rattle.vend_core.proofs.law.history.history_law.Goals as goal

-- every sale was made since the empty office
all_made : (o : Office) (s : Sale) → Contains o.sales s → WasMadeSince empty_office o s
all_made o s there = record { stands = there; new = λ old. absurd (omega (arith, old.1)) }

handed_made : goal.After-lives_law → (lives : List Life) (o : Office) (s : Sale) → AreLives lives o → IsHanded lives s → WasMadeSince empty_office o s
handed_made c lives o s are handed = all_made o s (c.lives_law.ensures.stands empty_office lives o s empty_is_office are handed)

sales_made : goal.After-lives_law → (lives : List Life) (o : Office) (m : SimMeter) (sales : List Sale) → AreLives lives o → AreSalesTo lives m sales
    → All (WasMadeSince empty_office o) sales
sales_made c lives o m sales are to = All-weaker (IsHanded lives) (WasMadeSince empty_office o) (λ s handed. handed_made c lives o s are handed) sales to.handed

pub returns-clause-offices : goal.returns-clause-offices
returns-clause-offices c = λ lives o are. c.lives_law.ensures.offices empty_office lives o empty_is_office are

pub returns-clause-goes_on : goal.returns-clause-goes_on
returns-clause-goes_on c = c.lives_law.ensures.goes_on empty_office

pub returns-clause-stands : goal.returns-clause-stands
returns-clause-stands c = λ lives o s are. c.lives_law.ensures.stands empty_office lives o s empty_is_office are

pub returns-clause-one_identifier : goal.returns-clause-one_identifier
returns-clause-one_identifier c = λ lives o a b are. c.lives_law.ensures.one_identifier empty_office lives o a b empty_is_office are

pub returns-clause-one_number : goal.returns-clause-one_number
returns-clause-one_number c = λ lives o a b are. c.lives_law.ensures.one_number empty_office lives o a b empty_is_office are

pub returns-clause-one_ref : goal.returns-clause-one_ref
returns-clause-one_ref c = λ lives o a b are. c.lives_law.ensures.one_ref empty_office lives o a b empty_is_office are

pub returns-clause-rising : goal.returns-clause-rising
returns-clause-rising c = λ lives o are i j d before within.
    let office = c.lives_law.ensures.offices empty_office lives o empty_is_office are in
    c.lives_law.ensures.rising empty_office lives o _ _ empty_is_office are (Contains-get_or o.sales i d (omega (arith, before, within)))
    (all_made o _ (Contains-get_or o.sales j d within)) (office.before i j d before within).number

pub returns-clause-some_tenths : goal.returns-clause-some_tenths
returns-clause-some_tenths c = λ lives o are. all_from_contains (λ (s : Sale). 1 ≤ s.tenths) o.sales
    (λ s there. c.lives_law.ensures.some_tenths empty_office lives o s empty_is_office are (all_made o s there))

pub returns-clause-reprint : goal.returns-clause-reprint
returns-clause-reprint c = λ lives o first again are. c.lives_law.ensures.reprint empty_office lives o first again empty_is_office are

pub returns-clause-cash : goal.returns-clause-cash
returns-clause-cash c = λ lives forward o ats are. c.lives_law.ensures.cash empty_office lives forward o ats empty_is_office are

pub returns-clause-identifiers : goal.returns-clause-identifiers
returns-clause-identifiers c = λ lives o s are handed. c.lives_law.ensures.identifiers empty_office lives o s empty_is_office are (handed_made c lives o s are handed)

pub returns-clause-written : goal.returns-clause-written
returns-clause-written c = λ lives o s are handed. c.lives_law.ensures.written empty_office lives o s empty_is_office are (handed_made c lives o s are handed)

pub returns-clause-first_entry : goal.returns-clause-first_entry
returns-clause-first_entry c = λ lives o m sales came s are to. c.lives_law.ensures.first_entry empty_office lives o m sales came s empty_is_office are to (sales_made c lives o m sales are to)

pub returns-clause-in_order : goal.returns-clause-in_order
returns-clause-in_order c = λ lives o m earlier later s are to. c.lives_law.ensures.in_order empty_office lives o m earlier later s empty_is_office are to (sales_made c lives o m _ are to)

pub returns-clause-credit : goal.returns-clause-credit
returns-clause-credit c = λ lives o m sales came are to. c.lives_law.ensures.credit empty_office lives o m sales came empty_is_office are to (sales_made c lives o m sales are to)

pub returns-clause-accepted : goal.returns-clause-accepted
returns-clause-accepted c = λ lives o m sales came s are to. c.lives_law.ensures.accepted empty_office lives o m sales came s empty_is_office are to (sales_made c lives o m sales are to)

pub returns-clause-at_most_sold : goal.returns-clause-at_most_sold
returns-clause-at_most_sold c = λ lives o m sales came are to. c.lives_law.ensures.at_most_sold empty_office lives o m sales came empty_is_office are to (sales_made c lives o m sales are to)

pub returns-clause-below_bound : goal.returns-clause-below_bound
returns-clause-below_bound c = λ lives o m sales are to. c.lives_law.ensures.below_bound empty_office lives o m sales empty_is_office are to (sales_made c lives o m sales are to)

pub returns-clause-imported_again : goal.returns-clause-imported_again
returns-clause-imported_again c = c.lives_law.ensures.imported_again empty_office

pub returns-clause-cleared : goal.returns-clause-cleared
returns-clause-cleared c = λ m before history text fields. accepts_after_clearing (reads_by m) before history text fields

pub returns-clause-credit_goes_on : goal.returns-clause-credit_goes_on
returns-clause-credit_goes_on c = λ m. credit_after_clearing (reads_by m)
