use Rattle.std.proofs.Common.{◌≡◌, List}
use Rattle.book_states.specs.declared.lookup.Found.{Found}
use Rattle.books.specs.Keeps.{seen}
use Rattle.office_commands.proofs.ListingLemmas.{ListedSoFar}
use Rattle.office_commands.proofs.office.listing.list.Given as goal

-- the pages before this one were printed, and nothing on the error output
abbrev pub invariant-loop-page : goal.invariant-loop-page
invariant-loop-page g l =
    (pages : List Found) × ListedSoFar l.fn.moment l.fn.list l.fn.json (seen l.fn.books) (seen l.books) l.fn.out
    l.out l.next l.page pages
    × (l.err ≡ l.fn.err)
