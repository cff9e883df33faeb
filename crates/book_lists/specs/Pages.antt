-- The pages of a list by texts.
use Rattle.std.specs.Prelude.{◌≡◌, ◌⊎◌, ◌≤◌, ℕ, List, All, AllPairs, Contains, length}
use Rattle.std.specs.Cmp.Lexicographic.{slice_cmp}
use Rattle.std.specs.Ordering.{nat_cmp}
use Rattle.std.specs.declared.cmp.Ordering.TheVariants.{Less}

-- how many members a page has at the most
abbrev pub page_size : ℕ
page_size = 100

-- the one text comes before the other in the order of their bytes
abbrev pub ComesBefore : List ℕ → List ℕ → Type 0
ComesBefore a b = slice_cmp nat_cmp a b ≡ Less

-- A page: the first keys after a text, in the order of their bytes, each once. Where a key after
-- that text is left out, the page is full and the key comes after all of it. The empty text comes
-- before all others.
pub record AreFirstAfter (Has : List ℕ → Type 0) (after : List ℕ) (page : List (List ℕ))
    : Type 0 where
  pub there : All (λ key. Has key × ComesBefore after key) page
  pub in_order : AllPairs ComesBefore page
  pub few : length page ≤ page_size
  pub whole : (key : List ℕ) → Has key → ComesBefore after key
      → Contains page key ⊎ ((length page ≡ page_size) × All (λ other. ComesBefore other key) page)
