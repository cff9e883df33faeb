-- An input has one conversation.
use Rattle.std.proofs.Common.{◌≡◌, ◌≢◌, ◌∙◌, ℕ, ℤ, inl, inr, List, [], ◌∷◌, map, Option, refl, ap, sym, subst}
use Rattle.conversation.specs.Conversation.{messages_of}
use Rattle.conversation.specs.Exchanges.{MessageExchange}
use Rattle.conversation.specs.message.Messages.{AgreeBy, Ending, Message, Stop, ended, failed}
use Rattle.asks.specs.declared.ask.Ask.{Ask}
use Rattle.desk_messages.specs.declared.desk_fault.DeskFault.{DeskFault}
use Rattle.desk_messages.specs.declared.meaning.Meaning.{Meaning}
use Rattle.desk_messages.specs.declared.meaning.Meaning.TheVariants.{Asks, Told, Memory}
use Rattle.desk_messages.specs.declared.reply.outcome.Outcome.{Outcome}
use Rattle.desk_messages.specs.declared.reply.outcome.Outcome.TheVariants.{Faulty}
use Rattle.desk_messages.specs.Meaning.{IsMeaning, MessageAsks, MessageHasFault}
use Rattle.desk_messages.specs.reply.HttpDate.{moment_given}
use Rattle.desk_messages.specs.reply.Text.{reply_to}
use Rattle.desk.specs.Along.{AreAsked, AskedNothing, AskedOffice, Served, outcomes_of}
use Rattle.desk.specs.OneConversation.{IsOneConversation, conversation_text, moments_of}

-- a message has one meaning
abbrev pub MeansOne : Type 0
MeansOne = (m : Message) (now : Option ℤ) (a b : Meaning) → IsMeaning m now a → IsMeaning m now b → a ≢ Memory → b ≢ Memory → a ≡ b

told_some : (fault : DeskFault) → Told fault ≢ Memory
told_some fault e = absurd cc

asks_some : (moment : ℕ) (ask : Ask) → Asks moment ask ≢ Memory
asks_some moment ask e = absurd cc

module _ (one : MeansOne) (m : Message) (now : Option ℤ) where
  one_fault : (a b : DeskFault) → MessageHasFault m now a → MessageHasFault m now b → a ≡ b
  one_fault a b x y = let e = one m now (Told a) (Told b) x y (told_some a) (told_some b) in cc

  never_both : (moment : ℕ) (ask : Ask) (fault : DeskFault) → MessageAsks m now moment ask → ¬ MessageHasFault m now fault
  never_both moment ask fault x y = let e = one m now (Asks moment ask) (Told fault) x y (asks_some moment ask) (told_some fault) in absurd cc

  one_ask : (moment later : ℕ) (a b : Ask) → MessageAsks m now moment a → MessageAsks m now later b → (moment ≡ later) × (a ≡ b)
  one_ask moment later a b x y = let e = one m now (Asks moment a) (Asks later b) x y (asks_some moment a) (asks_some later b) in (cc, cc)

-- what is told of a message at what the clock gave
abbrev told_of : Message → Option ℤ → Outcome → List ℕ
told_of m now outcome = reply_to m.method (moment_given now) outcome m.closes

same_exchange : (x y : MessageExchange) → x.message ≡ y.message → x.now ≡ y.now → (o p : Outcome) → x.reply ≡ told_of x.message x.now o
    → y.reply ≡ told_of y.message y.now p → o ≡ p → x ≡ y
same_exchange x y m n o p one other same =
    let reply : x.reply ≡ y.reply =
    one ∙ ap (λ q. told_of x.message x.now q) same ∙ ap (λ k. told_of k x.now p) m ∙ ap (λ z. told_of y.message z p) n ∙ sym other in
    λ i. record { message = m i; now = n i; reply = reply i }

at_other : (P : Message → Option ℤ → Type 0) (x y : MessageExchange) → x.message ≡ y.message → x.now ≡ y.now → P y.message y.now → P x.message x.now
at_other P x y m n is = subst (λ k. P k x.now) (sym m) (subst (λ z. P y.message z) (sym n) is)

-- exchanges of the same messages at the same moments, of which the same came, are the same and asked the same
pub same_exchanges : MeansOne → (xs ys : List MessageExchange) (served others : List Served) → messages_of xs ≡ messages_of ys
    → moments_of xs ≡ moments_of ys → AreAsked xs served → AreAsked ys others → outcomes_of served ≡ outcomes_of others
    → (xs ≡ ys) × (served ≡ others)
same_exchanges one [] [] served others messages moments a b same = (refl, a ∙ sym b)
same_exchanges one [] (y ∷ ys) served others messages moments a b same = absurd cc
same_exchanges one (x ∷ xs) [] served others messages moments a b same = absurd cc
same_exchanges one (x ∷ xs) (y ∷ ys) served others messages moments (inl (none, a)) (inl (nor, b)) same =
    let m : x.message ≡ y.message = cc in
    let n : x.now ≡ y.now = cc in
    let fault = one_fault one x.message x.now none.fault nor.fault none.has (at_other (λ k z. MessageHasFault k z nor.fault) x y m n nor.has) in
    let first = same_exchange x y m n (Faulty none.fault) (Faulty nor.fault) none.told nor.told (ap Faulty fault) in
    let more = same_exchanges one xs ys served others (cc) (cc) a b same in
    (ap (λ z. z ∷ xs) first ∙ ap (λ zs. y ∷ zs) more.0, more.1)
same_exchanges one (x ∷ xs) (y ∷ ys) served others messages moments (inl (none, a)) (inr (t, rest, ask, were, b)) same =
    let m : x.message ≡ y.message = cc in
    let n : x.now ≡ y.now = cc in
    absurd (never_both one x.message x.now t.moment t.ask none.fault
    (at_other (λ k z. MessageAsks k z t.moment t.ask) x y m n ask.asks) none.has)
same_exchanges one (x ∷ xs) (y ∷ ys) served others messages moments (inr (s, later, asked, are, a)) (inl (nor, b)) same =
    let m : x.message ≡ y.message = cc in
    let n : x.now ≡ y.now = cc in
    absurd (never_both one x.message x.now s.moment s.ask nor.fault asked.asks
    (at_other (λ k z. MessageHasFault k z nor.fault) x y m n nor.has))
same_exchanges one (x ∷ xs) (y ∷ ys) served others messages moments (inr (s, later, asked, are, a)) (inr (t, rest, ask, were, b)) same =
    let m : x.message ≡ y.message = cc in
    let n : x.now ≡ y.now = cc in
    let both : s.outcome ∷ outcomes_of later ≡ t.outcome ∷ outcomes_of rest = sym (ap outcomes_of are) ∙ same ∙ ap outcomes_of were in
    let outcome : s.outcome ≡ t.outcome = cc in
    let left : outcomes_of later ≡ outcomes_of rest = cc in
    let asks = one_ask one x.message x.now s.moment t.moment s.ask t.ask asked.asks (at_other (λ k z. MessageAsks k z t.moment t.ask) x y m n ask.asks) in
    let moment = asks.0 in
    let what = asks.1 in
    let here : s ≡ t = λ i. record { moment = moment i; ask = what i; outcome = outcome i } in
    let first = same_exchange x y m n s.outcome t.outcome asked.told ask.told outcome in
    let more = same_exchanges one xs ys later rest (cc) (cc) a b left in (
      ap (λ z. z ∷ xs) first ∙ ap (λ zs. y ∷ zs) more.0,
      are ∙ ap (λ z. z ∷ later) here ∙ ap (λ zs. t ∷ zs) more.1 ∙ sym were,
    )

-- endings that are one are written alike
same_text : (stop : Stop) (xs ys : List MessageExchange) (e f : Ending) → xs ≡ ys → AgreeBy stop e f → stop ≡ ended
    → conversation_text xs e ≡ conversation_text ys f
same_text ended xs ys e f same ends over = ap (λ zs. conversation_text zs e) same ∙ ap (λ g. conversation_text ys g) ends
same_text failed xs ys e f same ends over = absurd (cc)

-- conversations with the same exchanges and agreeing ends are one, and written alike
pub one_conversation : (stop : Stop) (xs ys : List MessageExchange) (e f : Ending) (served others : List Served) → xs ≡ ys
    → served ≡ others → AgreeBy stop e f → IsOneConversation stop xs ys e f served others
one_conversation stop xs ys e f served others same asked ends =
    record { exchanges = same; asked = asked; ends = ends; written = same_text stop xs ys e f same ends }
