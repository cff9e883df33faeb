-- Refusals by their numbers.
use Rattle.std.proofs.Common.{◌≡◌, ◌∙◌, List, [], ◌∷◌, get_or, refl, ap, sym}
use Rattle.office_rules.specs.Decision.Refusals.{IsOfNoRow, refusal_number}
use Rattle.office_rules.specs.declared.decision.refusal.Refusal.{Refusal}
use Rattle.office_rules.specs.declared.decision.refusal.Refusal.TheVariants.{RefReused, NoShift, ShiftOpen, NoMeter, NoTariff, Differs, BeforeBase, IdentifiersSpent, IdentifierAhead, TooLittle, OfficeFull, NoSale, NoSuchShift, ImportRow, Memory, Store, Stopped, NotLater, DayPast, HasSales}

-- the refusals by number; none is told by 0, nor by that of a row
by_number : List Refusal
by_number =
    RefReused ∷ RefReused ∷ NoShift ∷ ShiftOpen ∷ NoMeter ∷ NoTariff ∷ Differs ∷ BeforeBase ∷ IdentifiersSpent ∷ IdentifierAhead
    ∷ TooLittle ∷ OfficeFull ∷ NoSale ∷ NoSuchShift ∷ RefReused ∷ Memory ∷ Store ∷ Stopped ∷ NotLater ∷ DayPast ∷ HasSales ∷ []

numbered_so : (refusal : Refusal) → IsOfNoRow refusal → get_or by_number (refusal_number refusal) RefReused ≡ refusal
unfolding by_number
numbered_so (ImportRow row cause) plain = absurd (plain row cause refl)
numbered_so refusal plain = refl

-- two of one number are one
pub same_refusal : (a b : Refusal) → IsOfNoRow a → IsOfNoRow b → refusal_number a ≡ refusal_number b → a ≡ b
same_refusal a b plain other same =
    sym (numbered_so a plain) ∙ ap (λ n. get_or by_number n RefReused) same ∙ numbered_so b other
