-- Why an office is not opened again.
use Rattle.std.proofs.Common.{◌≡◌, Bool, IsTrue, refl}
use Rattle.std.proofs.Math.Logic.{∥∥₁_map}
use Rattle.book_opening.specs.NoOffice.{IsNoOffice}
use Rattle.book_opening.specs.Opening.{FaultFitsStore}
use Rattle.book_opening.specs.declared.fault.OpenFault.{OpenFault}
use Rattle.book_opening.specs.declared.fault.OpenFault.TheVariants.{Memory, NotAnOffice, Store}
use Rattle.book_states.specs.Stores.{StoreStandsFor}
use Rattle.books.specs.Keeps.{Represents, Seen}
use Rattle.sqlite.specs.State.{State}
use Rattle.sts_token.specs.Token.{BlockFunction}
use Rattle.vend_core.specs.Law.Life.{Life}
use Rattle.office_commands.specs.office.Reopened.{IsNextLife}
use Rattle.office_rules.specs.Office.{Office}

-- a fault that names the file is true of it
pub fits : (s : State) (fault : OpenFault) → (fault ≡ NotAnOffice → (o : Office) → ¬ StoreStandsFor s o)
    → (fault ≡ NotAnOffice → IsTrue s.is_open × IsNoOffice s.now) → FaultFitsStore s fault
fits s NotAnOffice none named = (let shows = named refl in record { is_open = shows.0; named = shows.1; none = none refl })
fits s Store none named = tt
fits s Memory none named = tt

-- a life that began is the next one also where something else is known of the last write
pub next_knowing : (forward : BlockFunction) (old new : Seen) (write_failed : Bool)
    → ((life : Life) → Represents life new → Represents life (record new { write_failed = write_failed }))
    → IsNextLife forward old new → IsNextLife forward old (record new { write_failed = write_failed })
next_knowing forward old new write_failed keeps next = record {
  clean = next.clean;
  left = ∥∥₁_map next.left (λ it. (it.0, it.1, λ o found. keeps _ (it.2 o found), it.3));
  unlimited = next.unlimited;
}
