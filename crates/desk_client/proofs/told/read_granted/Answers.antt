use Rattle.std.proofs.Common.{◌≡◌, ℕ, List, subst}
use Rattle.book_tables.specs.declared.row.totals.Totals.{Totals}
use Rattle.desk_client.specs.Told.{IsAnswer, IsGrantOf, granted_text}
use Rattle.desk_messages.specs.reply.Records.{totals_text}
use Rattle.desk_client.specs.Totals.{IsToldTotals}
use Rattle.desk_client.specs.declared.told.Granted.{Granted}
use Rattle.desk_client.specs.declared.told.Granted.TheVariants as granted
use Rattle.asks.specs.declared.endpoint.Grants.{Grants}
use Rattle.asks.specs.declared.endpoint.Grants.TheVariants as wanted
use Rattle.desk_client.proofs.told.read_granted.Goals as goal

no_totals : (text : List ℕ) → ((found : ℕ × Totals) → ¬ (IsToldTotals found.0 found.1 × (text ≡ totals_text found.0 found.1)))
    → (g : Granted) → IsGrantOf wanted.Totals g → ¬ (IsAnswer g × (text ≡ granted_text g))
no_totals text none (granted.Totals n t) is h = none (n, t) h
no_totals text none g is h = absurd is

pub returns-in-None-read_totals : goal.returns-in-None-read_totals
returns-in-None-read_totals c = λ g h. no_totals c.args.text.now c.in-None-read_totals.ensures g (subst (λ (w : Grants). IsGrantOf w g) c.in-Totals.is h.1) (h.0, h.2)
