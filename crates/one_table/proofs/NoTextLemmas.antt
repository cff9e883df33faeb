-- The text of no statement: any schema takes it.
use Rattle.std.proofs.Common.{◌≡◌, [], Ok, length, inl, inr, refl, sym, ap, ◌∙◌, arith}
use Rattle.sqlite_value.specs.Order.{Row}
use Rattle.sqlite_schema.specs.declared.schema.Schema.{Schema}
use Rattle.sqlite_resolve.specs.declared.compiled.Compiled.{Compiled}
use Rattle.sqlite_tied.specs.Compute.{everything}
use Rattle.sqlite.specs.declared.error.Error.{Error}
use Rattle.sqlite.specs.Listing.{understood}
use Rattle.sqlite.specs.State.{Fails, IsNoStatement, IsNotRun, State}

record IsNothing (s : Schema) : Type 0 where
  is : Compiled
  taken : understood s [] ≡ Ok is
  unnamed : is.names ≡ []
  timeless : is.formats ≡ []

nothing : (s : Schema) → IsNothing s
unfolding everything understood
nothing s = record { is = _; taken = refl; unnamed = refl; timeless = refl }

-- it is a statement that asks for no values and no time
no_other : (s : State) (e : Error) → IsNoStatement s [] [] e → ⊥
no_other s e (inl (fault, refused, told)) = let taken = (nothing s.now.schema).taken in let both = sym taken ∙ refused in cc
no_other s e (inr (c, is, why)) =
    let it = nothing s.now.schema in
    let same : Ok it.is ≡ Ok c = sym it.taken ∙ is in
    elim why [
      | inl more ↦ more.0 (omega arith)
      | inr (inl counts) ↦ counts.0 (let one : it.is ≡ c = cc in sym (ap length (sym (ap (λ (k : Compiled). k.names) one) ∙ it.unnamed)))
      | inr (inr times) ↦ times.0 (let one : it.is ≡ c = cc in sym (ap (λ (k : Compiled). k.formats) one) ∙ it.timeless)
    ]

only_failed : (old new : State) (e : Error) → IsNotRun old new [] [] e → Fails old new ⊥ e
unfolding IsNotRun
only_failed old new e (inl none) = absurd (no_other old e none.0)
only_failed old new e (inr fails) = fails

-- so it is only not run where the connection fails
pub fails_alone : (old new : State) (e : Error) → ((params : Row) → IsNotRun old new [] params e) → Fails old new ⊥ e
fails_alone old new e stops = only_failed old new e (stops [])
