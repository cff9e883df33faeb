use Rattle.std.proofs.Common.{◌≢◌, List, ℕ, Some, None, inr, refl}
use Rattle.std.specs.Borrow.{Bor}
use Rattle.asks.specs.declared.ask.Ask.TheVariants.{Look}
use Rattle.asks.specs.declared.lookup.Lookup.{Lookup}
use Rattle.asks.specs.declared.lookup.Lookup.TheVariants as lookups
use Rattle.desk_client.specs.Sent.{wanted_by}
use Rattle.desk_client.specs.Told.{IsGrantOf}
use Rattle.desk_client.specs.declared.told.Granted.{Granted}
use Rattle.desk_client.specs.declared.told.Granted.TheVariants as grants
use Rattle.desk_commands.specs.ListedAtDesk.{IsNoList}
use Rattle.desk_commands.proofs.list_at_desk.page_of.Goals as goal

-- nothing but a text for a page is granted where a list is asked for
no_list : (list : Lookup) (granted : Granted) → IsGrantOf (wanted_by (Look list)) granted → ((body : Bor (List ℕ)) → granted ≢ grants.Page body)
    → IsNoList list
no_list (lookups.Tariffs None) (grants.Page body) is other = other body refl
no_list (lookups.Tariffs None) granted is other = absurd is
no_list (lookups.Tariffs (Some after)) (grants.Page body) is other = other body refl
no_list (lookups.Tariffs (Some after)) granted is other = absurd is
no_list (lookups.Meters None) (grants.Page body) is other = other body refl
no_list (lookups.Meters None) granted is other = absurd is
no_list (lookups.Meters (Some after)) (grants.Page body) is other = other body refl
no_list (lookups.Meters (Some after)) granted is other = absurd is
no_list (lookups.Shifts after) (grants.Page body) is other = other body refl
no_list (lookups.Shifts after) granted is other = absurd is
no_list (lookups.Sales after) (grants.Page body) is other = other body refl
no_list (lookups.Sales after) granted is other = absurd is
no_list lookup granted is other = tt

pub returns-in_default : goal.returns-in_default
returns-in_default c =
    let reply = rw c.in-Some-Granted.field-0-is at c.in-Some-Granted.ensures in
    inr (inr (no_list c.args.list.now c.in-Some-Granted.granted reply.reply.tellable.1 c.in_default.not-Page))
