-- What tells the same answers the same asks.
use Rattle.std.proofs.Common.{◌≡◌, ℕ, List, subst}
use Rattle.std.specs.Borrow.{Bor}
use Rattle.desk_client.specs.Alike.{GrantAlike, TellAlike}
use Rattle.desk_client.specs.Answers.{Answers, GrantsWhat, MayRefuse}
use Rattle.desk_client.specs.Receipt.{IsReceiptNumbered, IsReceiptOf}
use Rattle.desk_client.specs.Report.{IsReportOf}
use Rattle.asks.specs.declared.ask.Ask.{Ask}
use Rattle.asks.specs.declared.ask.Ask.TheVariants.{Do, Look, Receipt}
use Rattle.asks.specs.declared.lookup.Lookup.TheVariants as lookups
use Rattle.desk_client.specs.declared.told.Granted.{Granted}
use Rattle.desk_client.specs.declared.told.Granted.TheVariants as granted
use Rattle.desk_client.specs.declared.told.Told.{Told}
use Rattle.desk_client.specs.declared.told.Told.TheVariants as told
use Rattle.office_rules.specs.declared.decision.refusal.Refusal.{Refusal}
use Rattle.office_rules.specs.declared.decision.request.Request.TheVariants as requests

-- of a paper nothing is looked at but its text
alike_papers : (q : Ask) (text other : Bor (List ℕ)) → text.now ≡ other.now → GrantsWhat (granted.Paper text) q → GrantsWhat (granted.Paper other) q
alike_papers (Do (requests.ShiftReport number)) text other same is = subst (IsReportOf number) same is
alike_papers (Receipt number) text other same is = subst (IsReceiptNumbered number) same is
alike_papers (Look (lookups.LastSale meter)) text other same is = subst (IsReceiptOf meter) same is
alike_papers q text other same is = tt

alike_grants : (q : Ask) (g h : Granted) → GrantAlike g h → GrantsWhat g q → GrantsWhat h q
alike_grants q granted.Done granted.Done alike is = tt
alike_grants q (granted.Imported m) (granted.Imported n) alike is = tt
alike_grants q (granted.Withdrawn m) (granted.Withdrawn n) alike is = tt
alike_grants q (granted.Shift m) (granted.Shift n) alike is = tt
alike_grants q (granted.Sale s) (granted.Sale t) alike is = subst (λ s. GrantsWhat (granted.Sale s) q) alike is
alike_grants q (granted.Meter m) (granted.Meter n) alike is = subst (λ m. GrantsWhat (granted.Meter m) q) alike is
alike_grants q (granted.Quote p) (granted.Quote r) alike is = subst (λ p. GrantsWhat (granted.Quote p) q) alike is
alike_grants q (granted.Totals m t) (granted.Totals n u) alike is =
    subst (λ t. GrantsWhat (granted.Totals n t) q) alike.1 (subst (λ m. GrantsWhat (granted.Totals m t) q) alike.0 is)
alike_grants q (granted.Paper text) (granted.Paper other) alike is = alike_papers q text other alike is
alike_grants q (granted.Page text) (granted.Page other) alike is = tt
alike_grants q g h alike is = absurd alike

-- two things that are told alike answer the same asks
pub alike_answers : (q : Ask) (t u : Told) → TellAlike t u → Answers q t → Answers q u
alike_answers q (told.Granted g) (told.Granted h) alike is = alike_grants q g h alike is
alike_answers q (told.Refused r) (told.Refused s) alike is = subst (λ (r : Refusal). MayRefuse r q) alike is
alike_answers q told.NoMoment told.NoMoment alike is = tt
alike_answers q t u alike is = absurd alike
