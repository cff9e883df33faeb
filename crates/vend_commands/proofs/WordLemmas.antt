-- Words as they are meant.
use Rattle.std.proofs.Common.{◌≡◌, List, map, subst, sym}
use Rattle.std.specs.Borrow.{Bor}
use Rattle.sts_fields.specs.Text.{Text}
use Rattle.command_line.specs.Line.{meant_by}

-- what is handed on of them is meant alike
pub meant_so : (words : List Text) (line given : List (Bor Text)) → given ≡ line → map (λ w. w.now) line ≡ meant_by words
    → map (λ w. w.now) given ≡ meant_by words
meant_so words line given is meant = subst (λ ws. map (λ w. w.now) ws ≡ meant_by words) (sym is) meant
