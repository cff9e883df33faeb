use Rattle.std.proofs.Common.{◌≡◌}
use Rattle.desk_client.specs.Page.{page_as_read}
use Rattle.desk_client.proofs.PageLemmas.{by_sales}
use Rattle.desk_client.proofs.page.sales_in.Goals as goal

pub returns-in-Some : goal.returns-in-Some
returns-in-Some c = rw c.in-Some.is at c.in_ok-sales.ensures

pub returns-in-None : goal.returns-in-None
returns-in-None c = λ page is.
    let none = rw c.in-None.is at c.in_ok-sales.ensures in
    by_sales (λ there. c.args.body.now ≡ page_as_read there → ⊥) (λ items told same. none items (told, same)) page is.0 is.1
