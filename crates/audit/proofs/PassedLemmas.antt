-- What a follower was told of an audit, part after part.
use Rattle.std.proofs.Common.{◌≡◌, ◌⊎◌, ℕ, List, [], ◌∷◌, ◌++◌, Result, Ok, Err, refl, sym, subst, inl, inr}
use Rattle.std.specs.Prelude.{IfOk}
use Rattle.sqlite.specs.Effect.{Database}
use Rattle.audit_rows.specs.declared.finding.AuditFault.{AuditFault}
use Rattle.audit_rows.specs.declared.office_rows.OfficeRows.{OfficeRows}
use Rattle.audit.specs.Passed.{AreTold, MayBeReached, TellsPassed, TellsReached, TellsRead}
use Rattle.audit.specs.Shown.{AreOfficeRows, IsToldAs}
use Rattle.audit.specs.declared.following.Part.{Part}
use Rattle.audit.specs.declared.following.Part.TheVariants as part

module _ {F : Type 0} (told : F → Part → F → Type 0) where
  -- a part more
  told_more : (before mid after : F) (parts : List Part) (last : Part) → AreTold told before parts mid → told mid last after
      → AreTold told before (parts ++ last ∷ []) after
  told_more before mid after [] last is then = (after, subst (λ (f : F). told f last after) is then, refl)
  told_more before mid after (first ∷ more) last (next, one, rest) then = (next, one, told_more next mid after more last rest then)

  -- nothing was told yet
  pub none_passed : (f : F) (db : Database) → TellsPassed told f f db
  none_passed f db = ([], refl, record { later = part.Rows ∷ part.Ties ∷ part.Requests ∷ []; first = refl; each = tt })

  -- the rows were read
  pub rows_passed : (before after : F) (db : Database) (n : ℕ) (rows : OfficeRows) → told before part.Rows after → IsToldAs n db rows
      → TellsPassed told before after db
  rows_passed before after db n rows tells is =
      (part.Rows ∷ [], (after, tells, refl), record { later = part.Ties ∷ part.Requests ∷ []; first = refl; each = ((n, rows, is), tt) })

  -- they are an office's, and then requests may have led to it
  pub ties_passed : (before after : F) (db : Database) (n : ℕ) (rows : OfficeRows) → AreTold told before (part.Rows ∷ part.Ties ∷ []) after
      → AreOfficeRows n db rows → TellsPassed told before after db
  ties_passed before after db n rows tells are = (
    part.Rows ∷ part.Ties ∷ [],
    tells,
    record { later = part.Requests ∷ []; first = refl; each = ((n, rows, are.told), ((n, rows, are), tt)) },
  )

  -- and so it did where the test of the requests was told of besides, or nothing more
  pub reached_passed : (before mid after : F) (db : Database) (n : ℕ) (rows : OfficeRows) → AreTold told before (part.Rows ∷ part.Ties ∷ []) mid
      → AreOfficeRows n db rows → TellsReached told mid after rows → TellsPassed told before after db
  reached_passed before mid after db n rows tells are (inl same) =
      subst (λ (f : F). TellsPassed told before f db) (sym same) (ties_passed before mid db n rows tells are)
  reached_passed before mid after db n rows tells are (inr (then, reached)) = (
    part.Rows ∷ part.Ties ∷ part.Requests ∷ [],
    told_more before mid after (part.Rows ∷ part.Ties ∷ []) part.Requests tells then,
    record { later = []; first = refl; each = ((n, rows, are.told), ((n, rows, are), ((n, rows, are, reached), tt))) },
  )
