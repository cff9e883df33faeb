-- What a meter answers to a text that it accepts, and to one that it does not accept.
use Rattle.std.proofs.Common.{◌≡◌, false, List, Ok, refl, ◌∙◌, ap}
use Rattle.sts_fields.specs.Text.{Text}
use Rattle.sts_token.specs.Fields.{TokenFields}
use Rattle.sts_token.specs.Meter.{Accepts, Entry, Reader, TidAnswer, accepted, answer_to, old, taken_over, used}
use Rattle.sim_meter.specs.Meter.{answer_after, answer_for, answer_with, is_accepted}
use Rattle.sim_meter.specs.declared.answer.Answer.TheVariants.{Accepted}

module _ (read : Reader) (history : List Entry) (text : Text) (f : TokenFields) where
  -- a text that it accepts is answered with its amount
  pub answers_amount : Accepts read history text f → answer_after read history text ≡ Accepted f.tenths
  answers_amount accepts =
      let tids = (taken_over read history).tids in
      ap (answer_with tids) accepts.reads ∙ ap (answer_for f) accepts.answer

  told_other : (answer : TidAnswer) → (answer ≡ accepted → ⊥) → is_accepted (answer_for f answer) ≡ false
  told_other accepted other = absurd (other refl)
  told_other used other = refl
  told_other old other = refl

  -- one that it reads and does not accept is not answered so
  pub answers_other : read text ≡ Ok f → ¬ Accepts read history text f → is_accepted (answer_after read history text) ≡ false
  answers_other reads not =
      let tids = (taken_over read history).tids in
      ap (λ r. is_accepted (answer_with tids r)) reads
      ∙ told_other (answer_to tids f.tid) (λ same. not (record { reads = reads; answer = same }))
