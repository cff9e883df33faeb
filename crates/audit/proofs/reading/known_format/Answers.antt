use Rattle.std.proofs.Common.{◌≡◌, ◌≤◌, ℕ, Option, Some, subst}
use Rattle.std.specs.Prelude.{IfSome}
use Rattle.book_tables.specs.row.Rows.{present_format}
use Rattle.audit.proofs.reading.known_format.Goals as goal

known_so : (found : Option ℕ) (n : ℕ) → IfSome found (λ m. m ≤ present_format) → found ≡ Some n → n ≤ present_format
known_so found n known so = subst (λ (o : Option ℕ). IfSome o (λ m. m ≤ present_format)) so known

pub returns-in-Ok-Some-clause-has : goal.returns-in-Ok-Some-clause-has
returns-in-Ok-Some-clause-has c =
    let found = c.in-Ok-Some in
    (found.ensures.found found.format (known_so found.field-0 found.format found.ensures.known found.field-0-is)).0 found.field-0-is
