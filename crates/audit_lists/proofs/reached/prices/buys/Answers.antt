use Rattle.std.proofs.Common.{sym, ◌∙◌}
use Rattle.std.proofs.lemmas.Bool.{false≢true}
use Rattle.std.proofs.lemmas.Option.{none-some}
use Rattle.audit_lists.specs.reached.Prices.{bought_in}
use Rattle.audit_lists.proofs.reached.prices.buys.Goals as goal

pub returns-in-None : goal.returns-in-None
returns-in-None c =
    let law = c.purchase_law.ensures.computed c.args.steps.now c.args.prior c.args.sale.now.tender (bought_in c.args.sale.now) in
    (λ e. absurd (false≢true e), λ b. absurd (none-some (bought_in c.args.sale.now) (sym c.in-None.is ∙ c.buy.ensures.value ∙ law.1 b)))
