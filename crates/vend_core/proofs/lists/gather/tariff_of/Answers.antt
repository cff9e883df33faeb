use Rattle.std.proofs.Common.{◌≡◌, sym, ◌∙◌, ap, Option, Some, None, refl, is_some}
use Rattle.std.specs.Option.{option_copied}
use Rattle.vend_core.specs.Lists.PlainRows.{row_of}
use denote.Ref.{Bor}
use Rattle.vend_core.proofs.lists.gather.tariff_of.Goals as goal

-- a reference is there where a value is
is_some-option_copied : {T : Type 0} (r : Option (Bor T)) → is_some (option_copied r) ≡ is_some r
is_some-option_copied None = refl
is_some-option_copied (Some x) = refl

-- what is unwrapped is what is there
unwrapped : {T : Type 0} (r : Option (Bor T)) (x : Bor T) → r ≡ Some x → Some x.now ≡ option_copied r
unwrapped r x is = sym (ap option_copied is)

pub unwrap-requires : goal.unwrap-requires
unwrap-requires c =
    sym (is_some-option_copied c.steps_under.result)
    ∙ ap is_some (c.steps_under.ensures ∙ ap (λ l. row_of l c.args.meter.now.tariff) c.deref.ensures.value)
    ∙ c.args.records.now.have_tariffs c.args.number.now c.args.meter.now c.requires

pub returns : goal.returns
returns c =
    unwrapped c.steps_under.result c.unwrap.result c.unwrap.ensures
    ∙ c.steps_under.ensures ∙ ap (λ l. row_of l c.args.meter.now.tariff) c.deref.ensures.value
