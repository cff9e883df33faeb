use Rattle.std.proofs.Common.{◌≡◌, ◌∙◌, ◌%◌, ◌/◌, List, ◌++◌, ◌∷◌, ◌+◌, [], length, decimal, ap, sym, subst, ℕ, ◌*◌, arith}
use Rattle.sts_fields.specs.Amount.{IsRepresentable}
use Rattle.records.specs.Front.{IsFound}
use Rattle.std.proofs.lemmas.List.{length-append}
use Rattle.desk_client.proofs.ReceiptLemmas.{kwh-digit, kwh_found, kwh_parts}
use Rattle.desk_client.proofs.TimeLemmas.{two_parts}
use Rattle.desk_client.proofs.receipt.energy_of.Goals as goal

pub returns-then-value-lt2 : goal.returns-then-value-lt2
returns-then-value-lt2 c = λ t found.
    absurd (omega (arith, c.if-value-lt2.true, ap length (found.1 ∙ kwh-digit t), length-append (decimal (t / 10)) (46 ∷ (48 + t % 10) ∷ [])))

pub returns-in_default : goal.returns-in_default
returns-in_default c = λ t found.
    let parts = two_parts _ c.args.value.now c.split_at.result.0.now c.split_at.result.1.now c.split_at.ensures.front c.split_at.ensures.back in
    let read = kwh_parts c.args.value.now c.split_at.result.0.now c.split_at.result.1.now t parts (omega (arith, c.split_at.ensures.back_len, c.if-value-lt2.false)) found.1 in
    c.in_default.ensures (t / 10) (omega (arith, c.amount_law.ensures.greatest t found.0), read.0)

pub returns-in_default-tenth_of : goal.returns-in_default-tenth_of
returns-in_default-tenth_of c = λ t found.
    let parts = two_parts _ c.args.value.now c.split_at.result.0.now c.split_at.result.1.now c.split_at.ensures.front c.split_at.ensures.back in
    let read = kwh_parts c.args.value.now c.split_at.result.0.now c.split_at.result.1.now t parts (omega (arith, c.split_at.ensures.back_len, c.if-value-lt2.false)) found.1 in
    c.in_default-tenth_of.ensures (t % 10) (omega arith, read.1)

pub returns : goal.returns
returns c =
    let parts = two_parts _ c.args.value.now c.split_at.result.0.now c.split_at.result.1.now c.split_at.ensures.front c.split_at.ensures.back in
    kwh_found c.amount_law.ensures.greatest c.args.value.now c.split_at.result.0.now c.split_at.result.1.now c.in-Some.whole c.in-Some-tenth_of.tenth
    c.amount_from.result parts (omega (arith, c.split_at.ensures.back_len, c.if-value-lt2.false)) c.in-Some.ensures.0 c.in-Some.ensures.1
    c.in-Some-tenth_of.ensures.0 c.in-Some-tenth_of.ensures.1
    (subst (λ (n : ℕ). IsFound (λ t. IsRepresentable t × (t ≡ n)) c.amount_from.result) (omega (arith, c.from.ensures, c.from-2.ensures)) c.amount_from.ensures)
