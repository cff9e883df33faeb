use Rattle.std.proofs.Common.{◌≡◌, true, Some, sym, ap, ◌∙◌}
use Rattle.one_table.specs.Standing.{Key, key_of}
use Rattle.one_table.proofs.KeyLemmas.{own_key_at, no_own_key}
use Rattle.one_table.proofs.inspect.is_own_key.Goals as goal

same_key : (k l : Key) → Some k ≡ Some l → k ≡ l
same_key k l h = cc

pub returns-in-Some : goal.returns-in-Some
returns-in-Some c =
    let made = own_key_at c.args.table.now c.args.number c.in-Some.columns.now c.in-Some.ensures.value in
    let key = c.is_key.ensures in
    let order = ap (λ o. (true, c.in-Some.columns.now, o)) c.order_of_key.ensures in
    (λ h. made ∙ ap Some (sym (key.0 h ∙ order)), λ h. key.1 (same_key (key_of c.args.index.now) _ (sym h ∙ made) ∙ sym order))

pub returns-in-None : goal.returns-in-None
returns-in-None c = let none = no_own_key c.args.table.now c.args.number c.in-None.ensures.value in (λ h. absurd (cc), λ h. absurd (cc))
