-- The text of steps: each as its end, a colon and its price, with semicolons between them.
use Rattle.std.specs.Prelude.{◌≡◌, ℕ, ◌^◌, ◌<◌, ◌≤◌, List, [], ◌∷◌, ◌++◌, map, length, Option, Some}
use Rattle.std.specs.Prelude.{None, All, decimal}
use Rattle.std.specs.List.{join_with_byte}
use Rattle.sts_fields.specs.Text.{Text, colon}
use Rattle.tariff.specs.declared.step.Step.{Step}
use Rattle.tariff.specs.Steps.{EndFits}

-- ';', between two steps
abbrev pub semicolon : ℕ
semicolon = 59

-- an upper end in decimal digits, or nothing where there is none
abbrev pub end_text : Option ℕ → Text
end_text None = []
end_text (Some e) = decimal e

abbrev pub step_text : Step → Text
step_text s = end_text s.ends ++ colon ∷ decimal s.price

abbrev pub steps_text : List Step → Text
steps_text steps = join_with_byte semicolon (map step_text steps)

-- the numbers of a step have 32 bits
abbrev pub IsWritable : Step → Type 0
IsWritable s = EndFits s × (s.price < 2 ^ 32)

-- text is what these steps, one or more, are written as
pub record IsStepsText (text : Text) (steps : List Step) : Type 0 where
  pub some : 1 ≤ length steps
  pub writable : All IsWritable steps
  pub written : text ≡ steps_text steps
