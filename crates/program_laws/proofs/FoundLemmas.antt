-- A sale that was looked up and found, or read in a list, stands in the office.
use Rattle.std.proofs.Common.{ℕ, List, [], ◌∷◌, length, Option, Some, None, Result, Ok, inl, inr, refl, sym, subst, arith}
use Rattle.std.specs.Prelude.{Contains}
use Rattle.std.specs.List.{flat_map}
use Rattle.std.proofs.lemmas.List.{take_all}
use Rattle.std.proofs.lemmas.List.Elements.{Contains-append_cases, Contains-append_right}
use Rattle.office_rules.specs.Decision.Fold.{after}
use Rattle.vend_core.specs.Law.Life.{HandsOut, Life, acknowledged, present}
use Rattle.office_rules.specs.Office.{Office}
use Rattle.office_rules.specs.declared.decision.refusal.Refusal.{Refusal}
use Rattle.office_rules.specs.declared.office.sale.Sale.{Sale}
use Rattle.asks.specs.declared.lookup.Lookup.{Lookup}
use Rattle.book_states.specs.declared.lookup.Found.{Found}
use Rattle.books.specs.Looking.{IsFoundAt}
use Rattle.desk_commands.specs.print.Pages.{ArePages, list_behind}
use Rattle.program_laws.specs.runs.Readings.{IsReadIn, IsSaleRead, Reading, exported, one_found, pages_found}
use Rattle.program_laws.specs.SalesTold.{sales_found}
use Rattle.program_laws.proofs.LookupLemmas.{finds_met, look_stands, none_there}

-- the sales of pages of a list stand in the office
pages_stand : (o : Office) (s : Sale) (moment : ℕ) (list : Option Lookup) (pages : List Found) (left : Option Lookup)
    → ArePages o moment list pages left → Contains (flat_map (λ page. sales_found (Ok page)) pages) s → Contains o.sales s
pages_stand o s moment list [] left are told = absurd (none_there s told)
pages_stand o s moment None (page ∷ pages) left are told = absurd are
pages_stand o s moment (Some list) (page ∷ pages) left (finds, later) told =
    elim (Contains-append_cases (sales_found (Ok page)) (flat_map (λ page. sales_found (Ok page)) pages) s told) [
      | inl first ↦ (finds_met o moment list (Ok page) finds).stands s first
      | inr others ↦ pages_stand o s moment (list_behind page) pages left later others
    ]

-- so does what was read in it
read_in : (life : Life) (moment : ℕ) (reading : Reading) (s : Sale) → IsReadIn life moment reading → IsSaleRead life reading s → Contains (present life).sales s
read_in life moment (one_found lookup found) s is told = look_stands life moment lookup found is s told
read_in life moment (pages_found list pages left) s are told = pages_stand (present life) s moment (Some list) pages left are told
read_in life moment (exported text) s begins (front, back, rest, are, has) =
    subst (λ l. Contains l s) (sym are) (Contains-append_right front (s ∷ back) s (0, omega arith, refl))

-- a life hands out the sales of its present office
present_hands : (life : Life) (s : Sale) → Contains (present life).sales s → HandsOut life s
present_hands life s there =
    let all = take_all (length (acknowledged life)) (acknowledged life) (omega arith) in
    inr (length (acknowledged life), subst (λ ats. Contains (after life.forward life.opening ats).sales s) (sym all) there)

-- so it hands out what is found in it, and what was read
pub found_hands : (life : Life) (moment : ℕ) (lookup : Lookup) (result : Result Found Refusal) (s : Sale)
    → IsFoundAt life moment lookup result → Contains (sales_found result) s → HandsOut life s
found_hands life moment lookup result s found told = present_hands life s (look_stands life moment lookup result found s told)

-- a life hands out a sale that was read in a list of its office
pub read_hands : (life : Life) (moment : ℕ) (reading : Reading) (s : Sale) → IsReadIn life moment reading → IsSaleRead life reading s → HandsOut life s
read_hands life moment reading s is told = present_hands life s (read_in life moment reading s is told)
