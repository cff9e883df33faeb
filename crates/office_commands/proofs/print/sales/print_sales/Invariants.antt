use Rattle.std.proofs.Common.{◌≡◌, List}
use Rattle.books.specs.Keeps.{seen}
use Rattle.office_rules.specs.declared.office.sale.Sale.{Sale}
use Rattle.office_commands.proofs.ExportLemmas.{SoFar}
use Rattle.office_commands.proofs.print.sales.print_sales.Given as goal

-- the pages before this one were printed, and nothing on the error output
abbrev pub invariant-loop-page : goal.invariant-loop-page
invariant-loop-page g l =
    (pages : List (List Sale)) × SoFar (seen l.fn.books) (seen l.books) l.fn.out l.out l.after l.page pages
    × (l.err ≡ l.fn.err)
