use Rattle.std.proofs.Common.{◌∙◌, ℕ, List, [], ◌∷◌, ◌++◌, Some, None, refl, ap, sym}
use Rattle.std.specs.Prelude.{decimal}
use Rattle.std.proofs.lemmas.Bool.Decides.{Decides-eqb}
use Rattle.std.proofs.lemmas.List.{append_cancel_left}
use Rattle.std.proofs.lemmas.Slice.Eq.{strip_prefix_is}
use Rattle.desk_client.specs.Start.{date_end, head_end, start_text}
use Rattle.desk_client.proofs.PlainLemmas.{plain_number}
use Rattle.desk_client.proofs.WovenLemmas.{cut}
use Rattle.desk_client.proofs.start.head_at.Goals as goal

pub returns-in_default : goal.returns-in_default
returns-in_default c = λ len dated rest small is same.
    let whole = decimal len ++ (head_end dated ++ rest) in
    strip_prefix_is Decides-eqb c.args.input.now c.as_bytes.result.now None c.in_default.ensures.cases whole
    (same ∙ ap (λ (front : List ℕ). front ++ whole) (sym (c.as_bytes.ensures.value ∙ c.text.ensures)))

pub returns-in_default-value_at : goal.returns-in_default-value_at
returns-in_default-value_at c = λ len dated rest small is same.
    let begins = strip_prefix_is Decides-eqb c.args.input.now c.as_bytes.result.now (Some c.in-Some.rest) c.in-Some.ensures.cases
    ∙ ap (λ (front : List ℕ). front ++ c.in-Some.rest.now) (c.as_bytes.ensures.value ∙ c.text.ensures) in
    c.in_default-value_at.ensures (decimal len) (date_end dated ++ rest) (plain_number len small)
    (append_cancel_left (start_text c.args.start) c.in-Some.rest.now (decimal len ++ (head_end dated ++ rest)) (sym begins ∙ same))

pub returns-in_default-behind_date : goal.returns-in_default-behind_date
returns-in_default-behind_date c = λ len dated rest small is same.
    let begins = strip_prefix_is Decides-eqb c.args.input.now c.as_bytes.result.now (Some c.in-Some.rest) c.in-Some.ensures.cases
    ∙ ap (λ (front : List ℕ). front ++ c.in-Some.rest.now) (c.as_bytes.ensures.value ∙ c.text.ensures) in
    let behind = append_cancel_left (start_text c.args.start) c.in-Some.rest.now (decimal len ++ (head_end dated ++ rest)) (sym begins ∙ same) in
    let found = c.in-Some-value_at.ensures in
    let line = 13 ∷ 10 ∷ c.in-Some-value_at.rest.now in
    let cuts = cut c.in-Some-value_at.digits.now (decimal len) line (head_end dated ++ rest) found.0 (plain_number len small) refl refl (sym found.1 ∙ behind) in
    c.in_default-behind_date.ensures dated rest is (append_cancel_left (13 ∷ 10 ∷ []) c.in-Some-value_at.rest.now (date_end dated ++ rest) cuts.1)

pub returns-in-None : goal.returns-in-None
returns-in-None c = λ len dated rest small is same.
    let begins = strip_prefix_is Decides-eqb c.args.input.now c.as_bytes.result.now (Some c.in-Some.rest) c.in-Some.ensures.cases
    ∙ ap (λ (front : List ℕ). front ++ c.in-Some.rest.now) (c.as_bytes.ensures.value ∙ c.text.ensures) in
    let behind = append_cancel_left (start_text c.args.start) c.in-Some.rest.now (decimal len ++ (head_end dated ++ rest)) (sym begins ∙ same) in
    let found = c.in-Some-value_at.ensures in
    c.in-None.ensures len (
      small,
      (cut c.in-Some-value_at.digits.now (decimal len) (13 ∷ 10 ∷ c.in-Some-value_at.rest.now) (head_end dated ++ rest)
          found.0 (plain_number len small) refl refl (sym found.1 ∙ behind)).0,
    )

pub returns-in-Some-number : goal.returns-in-Some-number
returns-in-Some-number c =
    let is = strip_prefix_is Decides-eqb c.args.input.now c.as_bytes.result.now (Some c.in-Some.rest) c.in-Some.ensures.cases in
    let begins = is ∙ ap (λ (front : List ℕ). front ++ c.in-Some.rest.now) (c.as_bytes.ensures.value ∙ c.text.ensures) in
    let found = c.in-Some-value_at.ensures in
    let date = c.in-Some-behind_date.ensures in
    let written = found.1 ∙ ap (λ (digits : List ℕ). digits ++ (13 ∷ 10 ∷ c.in-Some-value_at.rest.now)) c.in-Some-number.ensures.1
    ∙ ap (λ (behind : List ℕ). decimal c.in-Some-number.len ++ (13 ∷ 10 ∷ behind)) date.2 in (
      c.in-Some-number.ensures.0,
      date.0,
      date.1,
      begins ∙ ap (λ (behind : List ℕ). start_text c.args.start ++ behind) written,
    )
