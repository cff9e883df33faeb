-- What `sell` has done where it ends as done, by the rules of the office that the files stand for.
use Rattle.std.specs.Prelude.{◌≡◌, ℕ, ◌+◌, ◌%◌, [], length, Contains, Ok}
use Rattle.books.specs.Keeps.{RecoversTo, Seen}
use Rattle.books.specs.declared.books.Books.{Books}
use Rattle.papers.specs.Receipt.{receipt_of}
use Rattle.sqlite.specs.State.{HasCleanDisk}
use Rattle.sqlite_trees.specs.Tree.{Trees}
use Rattle.sqlite_trees.specs.declared.store.Store.{Ghosts}
use Rattle.sts_token.specs.Token.{BlockFunction}
use Rattle.office_rules.specs.Decision.Fold.{reply, step}
use Rattle.office_rules.specs.Office.{Office}
use Rattle.office_rules.specs.declared.decision.answer.Answer.TheVariants.{Sold}
use Rattle.office_rules.specs.declared.decision.request.Order.{Order}
use Rattle.office_rules.specs.declared.decision.request.Request.TheVariants.{Sell}
use Rattle.office_rules.specs.declared.decision.request.Stamped.{Stamped}
use Rattle.office_rules.specs.declared.office.sale.Sale.{Sale}
use Rattle.vend_ports.specs.print.Told.{IsTold, Outputs, Takes}
use Rattle.office_commands.specs.office.Visited.{seen_in}
use Rattle.command_line.specs.Transform.{forward_of, shipped}
use Rattle.command_line.specs.declared.transform.Shipped.{Shipped}
use Rattle.vend_ports.specs.declared.command_end.CommandEnd.{CommandEnd}
use Rattle.vend_ports.specs.declared.command_end.CommandEnd.TheVariants.{Done}

-- the order at this moment, with the nibble of the office's next sale
pub record IsOrdered (moment : ℕ) (order : Order) (office : Office) (at : Stamped) : Type 0 where
  pub at_moment : at.moment ≡ moment
  pub by_number : at.nibble ≡ (length office.sales + 1) % 16
  pub for_order : at.request ≡ Sell order

-- The output was given the receipt of the sale that the office's rules give for the order. The sale
-- stands in the office after it, and all that a crash may leave of the files stands for that
-- office.
pub record HasSold (forward : BlockFunction) (office : Office) (order : Order) (moment : ℕ)
    (o : Outputs)
    (books : Seen) : Type 0 where
  pub at : Stamped
  pub ordered : IsOrdered moment order office at
  pub sale : Sale
  pub by_rules : reply forward office at ≡ Ok (Sold sale)
  pub printed : Takes o.old o.new (receipt_of sale)
  pub stands : Contains (step forward office at).sales sale
  pub left : (trees : Trees) → books.state.may_leave trees
      → RecoversTo trees (step forward office at)

-- of a sale that books replied nothing is told but its receipt: so what is told else came before it
-- stood
abbrev pub PrintsSale : Sale → Outputs → CommandEnd → Type 0
PrintsSale sale o end = IsTold o (receipt_of sale) [] Done end

-- so with the books as the command left them and closed their file, as long as the disk returned
-- what was written
abbrev pub EndsSold : {S : Type 0} → Ghosts S → (Closes : Seen → Type 0) → Shipped → Order
    → (moment : ℕ)
    → Office → Outputs → Type 0
EndsSold {S} store Closes transform order moment office o =
    (books : Books S Shipped store shipped) × Closes (seen_in books)
    × (HasCleanDisk (seen_in books).state
    → HasSold (forward_of transform) office order moment o (seen_in books))
