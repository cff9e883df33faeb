-- What desks write of what replies tell.
use Rattle.std.proofs.Common.{◌≡◌, List, ap, subst, Vec, Global}
use Rattle.asks.specs.declared.endpoint.Grants.TheVariants as wanted
use Rattle.book_states.specs.declared.lookup.Found.{Found}
use Rattle.book_states.specs.declared.lookup.Found.TheVariants as found
use Rattle.book_states.specs.declared.lookup.ListedMeter.{ListedMeter}
use Rattle.desk_client.specs.Page.{AreAlike, IsToldPage, page_as_read}
use Rattle.desk_client.specs.Reply.{IsReply}
use Rattle.desk_client.specs.Tells.{as_told}
use Rattle.desk_client.specs.declared.page.PageKind.TheVariants.{Meters}
use Rattle.desk_client.specs.declared.told.Granted.TheVariants as granted
use Rattle.desk_client.specs.declared.told.Told.TheVariants as told
use Rattle.office_rules.specs.declared.office.sale.Sale.{Sale}

-- ---- lists

-- two pages of one text have the same meters
pub same_meters : ((page other : Found) → IsToldPage Meters page → IsToldPage Meters other → page_as_read page ≡ page_as_read other → AreAlike page other)
    → (page other : Found) (meters others : Vec ListedMeter Global) → page ≡ found.Meters meters → other ≡ found.Meters others
    → IsToldPage Meters page → IsToldPage Meters other → page_as_read page ≡ page_as_read other → meters.items ≡ others.items
same_meters law page other meters others is too told told_too text =
    let Alike : Found → Found → Type 0 = λ a b. AreAlike a b in
    subst (λ a. Alike a (found.Meters others)) is (subst (λ b. Alike page b) too (law page other told told_too text))

-- ---- sales

-- a sale that a reply tells is told as it is
pub told_as_it_is : (text : List _) (sale : Sale) → IsReply wanted.Sale text (told.Granted (granted.Sale sale)) → sale ≡ as_told sale
told_as_it_is text sale reply =
    let nibble = reply.tellable.0.nibble in
    ap (λ n. record sale { rnd = n }) nibble
