-- Where one row of a table is read, its columns are the same wherever the table stands.
use Rattle.std.proofs.Common.{◌≡◌, ℕ, zero, suc, Bool, true, false, ◌&&◌, ◌==◌, if◌then◌else◌, unwrap_or, option_map, Option, Some, None, List, [], is_some, slice_get, Ok, refl, sym, ap, true≢false}
use Rattle.sqlite_schema.specs.Names.{column_named}
use Rattle.sqlite_schema.specs.declared.schema.Schema.{Schema}
use Rattle.sqlite_schema.specs.declared.schema.Table.{Table}
use Rattle.sqlite_resolve.specs.declared.compare.Affinity.{Affinity}
use Rattle.sqlite_resolve.specs.declared.compare.Affinity.TheVariants.{None as None'}
use Rattle.sqlite_resolve.specs.declared.scope.Bound.{Bound}
use Rattle.sqlite_resolve.specs.declared.scope.Found.TheVariants.{Column}
use Rattle.sqlite_resolve.specs.declared.scope.Output.{Output}
use Rattle.sqlite_resolve.specs.Compare.{at_place, or_else, of_column}
use Rattle.sqlite_resolve.specs.Scope.{Context, Name, find, in_level, only, hit, is_among, column_in}
use Rattle.one_table.specs.Simple.{one, bare, reading}
use Rattle.one_table.proofs.ExprLemmas.{AreAlike, Finds}

-- the affinity of a column is that of its table, wherever this stands
pub at_place_same : (s u : Schema) (at place p : ℕ) → slice_get s.tables at ≡ slice_get u.tables place → at_place s at p ≡ at_place u place p
at_place_same s u at place zero tables = refl
at_place_same s u at place (suc p) tables = rw tables

module _ (s : Schema) (at : ℕ) (t : Table) (listed : slice_get s.tables at ≡ Some t) (name : Name) (shown : List Output) (may : Bool) where
  abbrev here : Context
  here = reading s at name shown may

  abbrev there : Context
  there = reading (one t) 0 name shown may

  -- the affinity of a column, by whether its slot is the table's
  affinity_in : Context → ℕ → ℕ → ℕ → Bool → Affinity
  affinity_in cx place slot p is_here = if slot == 0 && p == 0 then None' else unwrap_or (option_map (λ table. at_place cx.schema table p)
      (or_else (option_map (λ (b : Bound). b.table) (if is_here then
      Some (record { name = name; table = place; slot = 1; shared = [] }) else None)) None)) None'

  of_column_same : (slot p : ℕ) → of_column here slot p ≡ of_column there slot p
  unfolding of_column affinity_in
  of_column_same slot p = elim (1 == slot) as (λ b. affinity_in here at slot p b ≡ affinity_in there 0 slot p b)
      [ true ↦ ap (λ a. if slot == 0 && p == 0 then None' else a) (at_place_same s (one t) at 0 p listed) | false ↦ refl ]

  found_here : (c : Name) (k : ℕ) → column_named t c ≡ Some k → find here None c ≡ Ok (Column 1 at k)
  unfolding find in_level only hit is_among column_in
  found_here c k h = rw (listed, h)

  found_there : (c : Name) (k : ℕ) → column_named t c ≡ Some k → find there None c ≡ Ok (Column 1 0 k)
  unfolding find in_level only hit is_among column_in
  found_there c k h = rw h

  finds_bare : (table : Option Name) (c : Name) → bare t table c ≡ true → Finds here there table c
  finds_bare (Some x) c h = absurd (true≢false (sym h))
  finds_bare None c h = by_place (column_named t c) refl h
    where
      by_place : (o : Option ℕ) → column_named t c ≡ o → is_some o ≡ true → Finds here there None c
      by_place None h some = absurd (true≢false (sym some))
      by_place (Some k) h some = record { slot = 1; at = k; place = at; other = 0; found = found_here c k h; found_there = found_there c k h; tables = listed }

  -- the bare columns of a table are the same here and where the table stands alone
  pub alike : AreAlike (bare t) here there
  alike = record { finds = finds_bare; affine = of_column_same; aggregates = refl }
