use Rattle.std.proofs.Common.{◌≡◌}
use Rattle.desk_client.specs.Page.{page_as_read}
use Rattle.desk_client.proofs.PageLemmas.{by_shifts}
use Rattle.desk_client.proofs.page.shifts_in.Goals as goal

pub returns-in-Some : goal.returns-in-Some
returns-in-Some c = rw c.in-Some.is at c.in_ok-shifts.ensures

pub returns-in-None : goal.returns-in-None
returns-in-None c = λ page is.
    let none = rw c.in-None.is at c.in_ok-shifts.ensures in
    by_shifts (λ there. c.args.body.now ≡ page_as_read there → ⊥) (λ items told same. none items (told, same)) page is.0 is.1
