-- Lives of an office: what was asked and answered from an opening to a stop, what a stop may leave,
-- and one life after another.
use Rattle.std.specs.Prelude.{◌≡◌, ℕ, ◌⊎◌, Bool, true, false, List, [], ◌∷◌, map, filter, take}
use Rattle.std.specs.Prelude.{Result, Ok, Err, All, Contains}
use Rattle.sts_token.specs.Token.{KeepsRange, BlockFunction}
use Rattle.office_rules.specs.Decision.Fold.{after, replies_to, reply, step}
use Rattle.office_rules.specs.Law.Handed.{sales_of}
use Rattle.office_rules.specs.Office.{Office, empty_office}
use Rattle.office_rules.specs.Decision.Requests.{IsStamped}
use Rattle.office_rules.specs.declared.decision.answer.Answer.{Answer}
use Rattle.office_rules.specs.declared.decision.refusal.Refusal.{Refusal}
use Rattle.office_rules.specs.declared.decision.refusal.Refusal.TheVariants.{Memory, Store, Stopped}
use Rattle.office_rules.specs.declared.decision.request.Order.{Order}
use Rattle.office_rules.specs.declared.decision.request.Request.TheVariants.{Sell}
use Rattle.office_rules.specs.declared.decision.request.Stamped.{Stamped}
use Rattle.office_rules.specs.declared.office.sale.Sale.{Sale}

-- a request and its reply
pub record Exchange : Type 0 where
  pub request : Stamped
  pub reply : Result Answer Refusal

-- a life: the office that it opens, the transform that it writes tokens with, and its exchanges in
-- order.
-- A stop inside a call counts as the reply of that call on a store that fails from there on
pub record Life : Type 0 where
  pub opening : Office
  pub forward : BlockFunction
  pub exchanges : List Exchange

-- a reply acknowledges its request where it grants it, or refuses it for a reason of the request's
-- own
abbrev pub acknowledges : Result Answer Refusal → Bool
acknowledges (Ok answer) = true
acknowledges (Err Memory) = false
acknowledges (Err Store) = false
acknowledges (Err Stopped) = false
acknowledges (Err refusal) = true

-- a reply leaves its request in doubt where the store failed
abbrev pub doubts : Result Answer Refusal → Bool
doubts (Err Store) = true
doubts (Err refusal) = false
doubts (Ok answer) = false

-- the requests acknowledged, their replies, and the requests in doubt
abbrev pub acknowledged : Life → List Stamped
acknowledged life = map (λ e. e.request) (filter (λ e. acknowledges e.reply) life.exchanges)

abbrev pub replies_acknowledged : Life → List (Result Answer Refusal)
replies_acknowledged life = map (λ e. e.reply) (filter (λ e. acknowledges e.reply) life.exchanges)

abbrev pub in_doubt : Life → List Stamped
in_doubt life = map (λ e. e.request) (filter (λ e. doubts e.reply) life.exchanges)

-- once the store failed, in one of these requests or in a call beside them, everything is answered
-- as stopped
abbrev pub StopsAtDoubt : List (Result Answer Refusal) → Type 0
StopsAtDoubt [] = Unit {0}
StopsAtDoubt (Err Store ∷ replies) = All (λ reply. reply ≡ Err Stopped) replies
StopsAtDoubt (Err Stopped ∷ replies) = All (λ reply. reply ≡ Err Stopped) replies
StopsAtDoubt (reply ∷ replies) = StopsAtDoubt replies

-- what a life keeps: the acknowledged requests were answered by the office, one after another
pub record IsLife (life : Life) : Type 0 where
  pub range : KeepsRange life.forward
  pub stamped : All (λ e. IsStamped e.request) life.exchanges
  pub replies : replies_acknowledged life ≡ replies_to life.forward life.opening (acknowledged life)
  pub stops : StopsAtDoubt (map (λ e. e.reply) life.exchanges)

-- a life sells under this transform: where an order is among its requests, it writes tokens with it
abbrev pub SellsUnder : BlockFunction → Life → Type 0
SellsUnder forward life =
    All (λ e. (order : Order) → e.request.request ≡ Sell order → life.forward ≡ forward)
    life.exchanges

-- the office after all acknowledged requests
abbrev pub present : Life → Office
present life = after life.forward life.opening (acknowledged life)

-- a life may leave its present office, or that with the request in doubt as one more step
abbrev pub MayLeave : Life → Office → Type 0
MayLeave life o = (o ≡ present life)
    ⊎ ((at : Stamped) × Contains (in_doubt life) at × (o ≡ step life.forward (present life) at))

-- the first life opens the office start, each other one an office that the one before may leave,
-- and the last may leave o
abbrev pub LeadTo : Office → List Life → Office → Type 0
LeadTo start [] o = o ≡ start
LeadTo start (life ∷ lives) o =
    IsLife life × (life.opening ≡ start)
    × ((left : Office) × MayLeave life left × LeadTo left lives o)

-- these are an office's lives from the empty office on, and the last may leave o
abbrev pub AreLives : List Life → Office → Type 0
AreLives lives o = LeadTo empty_office lives o

-- a life gave this answer
abbrev pub Answered : List Life → Answer → Type 0
Answered lives answer =
    (life : Life) × Contains lives life × Contains (map (λ e. e.reply) life.exchanges) (Ok answer)

-- a life handed out this sale: in a reply, or as one that stood after a beginning of its
-- acknowledged requests
abbrev pub HandsOut : Life → Sale → Type 0
HandsOut life s =
    ((reply : Result Answer Refusal) × Contains (map (λ e. e.reply) life.exchanges) reply
    × Contains (sales_of reply) s)
    ⊎ ((n : ℕ) × Contains (after life.forward life.opening (take n (acknowledged life))).sales s)

abbrev pub IsHanded : List Life → Sale → Type 0
IsHanded lives s = (life : Life) × Contains lives life × HandsOut life s

-- the sale stands in an office, and was made after those of the office that came to it
pub record WasMadeSince (start o : Office) (s : Sale) : Type 0 where
  pub stands : Contains o.sales s
  pub new : ¬ Contains start.sales s
