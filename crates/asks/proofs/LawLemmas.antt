-- What messages ask.
use Rattle.std.proofs.Common.{◌≡◌, ◌∙◌, true, List, refl, ap, sym, subst}
use Rattle.conversation.specs.message.Messages.{Message}
use Rattle.asks.specs.Ask.{Asks, HasParts, IsAskable, message_of, row_method}
use Rattle.asks.specs.Endpoint.{endpoint_of}
use Rattle.asks.specs.Parts.{Parts, parts, parts_of}
use Rattle.asks.specs.Value.{DaysAreRead}
use Rattle.asks.specs.declared.ask.Ask.{Ask}
use Rattle.asks.specs.declared.ask.Bulk.{Bulk}
use Rattle.asks.specs.declared.kind.AskKind.{AskKind}
use Rattle.asks.specs.declared.kind.AskKind.TheVariants as kinds
use Rattle.asks.specs.declared.value.Value.{Value}
use Rattle.asks.proofs.ApartLemmas.{one_kind}
use Rattle.asks.proofs.BodyLemmas.{StepsAreRead, one_body}
use Rattle.asks.proofs.OwnLemmas.{AsJson, body_says, well_named}
use Rattle.asks.proofs.PartLemmas.{one_ask}
use Rattle.asks.proofs.PlaceLemmas.{one_list}

-- the parts of a message are one, where their kind is
of_one_kind : DaysAreRead → StepsAreRead → (m : Message) (kind : AskKind) (t u b c : List Value) (x y : Bulk) → HasParts m (parts kind t b x)
    → HasParts m (parts kind u c y) → parts kind t b x ≡ parts kind u c y
of_one_kind days steps m kind t u b c x y has have =
    let row = endpoint_of kind in
    let targets = one_list days row.places row.end t u has.askable.target have.askable.target (sym has.target ∙ have.target) in
    let bodies = one_body days steps row.shape b c x y m.body has.askable.body have.askable.body has.body have.body in
    let values = bodies.0 in
    let bulks = bodies.1 in
    cc

-- so are those of any message
one_parts : DaysAreRead → StepsAreRead → (m : Message) (p q : Parts) → HasParts m p → HasParts m q → p ≡ q
one_parts days steps m p q has have =
    let kinds = one_kind days p.kind q.kind p.target q.target (has.method ∙ sym have.method) has.askable.target have.askable.target
    (sym has.target ∙ have.target) in
    let here : HasParts m (parts p.kind q.target q.body q.bulk) =
    subst (λ (k : AskKind). HasParts m (parts k q.target q.body q.bulk)) (sym kinds) have in
    of_one_kind days steps m p.kind p.target q.target p.body q.body p.bulk q.bulk has here
    ∙ ap (λ (k : AskKind). parts k q.target q.body q.bulk) kinds

-- a message asks one thing
pub asks_one : DaysAreRead → StepsAreRead → (m : Message) (a b : Ask) → Asks m a → Asks m b → a ≡ b
asks_one days steps m a b asks ask =
    one_ask a b asks.askable ask.askable (one_parts days steps m (parts_of a) (parts_of b) asks ask)

-- ---- an ask's own message

-- the names of each row's body are plain, and in order
named : (k : AskKind) → well_named (endpoint_of k).shape ≡ true
named kinds.ImportMeters = refl
named k = refl

-- no row is asked by HEAD
asked_so : (k : AskKind) → (endpoint_of k).method ≡ row_method (endpoint_of k).method
asked_so kinds.ImportMeters = refl
asked_so k = refl

-- the message of an ask asks it
pub asks_own : DaysAreRead → AsJson → (ask : Ask) → IsAskable ask → Asks (message_of ask) ask
asks_own days json ask is =
    let p = parts_of ask in record {
      askable = is;
      method = asked_so p.kind;
      target = refl;
      body = body_says days json (endpoint_of p.kind).shape p.body p.bulk (named p.kind) is.body;
    }
