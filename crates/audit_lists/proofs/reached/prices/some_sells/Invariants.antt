use Rattle.std.proofs.Common.{take}
use Rattle.std.specs.Prelude.{All}
use Rattle.audit_lists.specs.reached.Prices.{Sells}
use Rattle.audit_lists.proofs.reached.prices.some_sells.Given as goal

abbrev pub invariant-listed : goal.invariant-listed
invariant-listed l = All (λ a. ¬ Sells l.day l.prior l.sale a) (take l.list-index l.listed)
