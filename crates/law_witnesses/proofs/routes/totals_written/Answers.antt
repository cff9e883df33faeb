use Rattle.std.proofs.Common.{◌∙◌, ◌∷◌, [], ℕ, ap, arith, refl}
use Rattle.desk_messages.specs.reply.Records.{totals_names}
use Rattle.records.specs.Cell.{number}
use Rattle.records.specs.Record.{record_text}
use Rattle.law_witnesses.proofs.routes.totals_written.Goals as goal

pub returns-in-Ok : goal.returns-in-Ok
returns-in-Ok c =
    let sold = c.from-sold in
    let energy = c.from-energy in
    let paid = c.from-paid in
    c.in-Ok.ensures {u = tt}
    ∙ ap (λ (n : ℕ). record_text totals_names (number paid.result ∷ number n ∷ number c.args.number ∷ number energy.result ∷ [])) sold.ensures
    ∙ ap (λ (n : ℕ). record_text totals_names (number paid.result ∷ number c.args.sales ∷ number c.args.number ∷ number n ∷ [])) energy.ensures
    ∙ ap (λ (n : ℕ). record_text totals_names (number n ∷ number c.args.sales ∷ number c.args.number ∷ number c.args.tenths ∷ [])) paid.ensures
    ∙ c.json_law.ensures.record totals_names (number c.args.cash ∷ number c.args.sales ∷ number c.args.number ∷ number c.args.tenths ∷ []) (
      (refl, (refl, (refl, (refl, tt)))),
      ((refl, (refl, (refl, (refl, (refl, tt))))), ((refl, (refl, (refl, (refl, (refl, tt))))), ((refl, (refl, (refl, (refl, (refl, (refl, tt)))))), tt))),
    )
    (omega arith, (omega arith, (omega arith, (omega arith, tt))))
