-- What a run told, in the lives that it adds to those before.
use Rattle.std.proofs.Common.{◌≡◌, ◌∙◌, List, [], ◌∷◌, ◌++◌, Result, Ok, inl, inr, refl, sym, ap, subst, arith}
use Rattle.std.specs.Prelude.{Contains}
use Rattle.std.proofs.lemmas.List.Elements.{Contains-append_cases, Contains-append_right}
use Rattle.sqlite_disk.specs.declared.Disk as disk
use Rattle.office_rules.specs.Law.Handed.{sales_of}
use Rattle.vend_core.specs.Law.Life.{Exchange, HandsOut, IsHanded, IsLife, LeadTo, Life}
use Rattle.office_rules.specs.Decision.Fold.{reply}
use Rattle.office_rules.specs.Office.{IsOffice, Office}
use Rattle.office_rules.specs.declared.decision.answer.Answer.{Answer}
use Rattle.office_rules.specs.declared.decision.answer.Answer.TheVariants.{Reprinted, Sold}
use Rattle.office_rules.specs.declared.decision.refusal.Refusal.{Refusal}
use Rattle.office_rules.specs.declared.decision.request.Order.{Order}
use Rattle.office_rules.specs.declared.decision.request.Request.TheVariants.{Reprint, Sell}
use Rattle.office_rules.specs.declared.decision.request.Stamped.{Stamped}
use Rattle.office_rules.specs.declared.office.sale.Sale.{Sale}
use Rattle.office_rules.proofs.OfficeLemmas.RowLemmas.{contains_cases}
use Rattle.command_line.specs.Transform.{forward_of}
use Rattle.program_laws.specs.runs.Steps.{AreSoldFor, AsksIn, IsUnlessFailed, LivesIn}
use Rattle.program_laws.specs.runs.Uses.{IsAskedLife, RunQuestion, RunUse, asking_life, connected, idle_life, many_lives, no_life, reading_life, unconnected, unseen}
use Rattle.program_laws.proofs.AgainLemmas.{life_opens, replied}
use Rattle.program_laws.proofs.LeadLemmas.{LeadingLaws}
use Rattle.program_laws.proofs.OrderLemmas.{SellingLaws, sold_handed, sold_in_lives}

-- what was asked in a use is its one life
pub asked_life : {M : Type 0} {g : disk.Ghosts M} (made : RunUse g) (q : RunQuestion) (before own : List Life) → AsksIn made q → LivesIn made before own
    → (life : Life) × IsAskedLife q life × (own ≡ life ∷ [])
asked_life unseen q before own asks lives = absurd asks
asked_life (unconnected found left) q before own asks lives = absurd asks
asked_life (connected image no_life last) q before own asks lives = absurd asks
asked_life (connected image (idle_life transform) last) q before own asks lives = absurd asks
asked_life (connected image (reading_life moment reading) last) q before own asks lives = absurd asks
asked_life (connected image (asking_life asked) last) q before own asks (life, is, one) =
    (life, subst (λ (p : RunQuestion). IsAskedLife p life) (sym asks) is, one)
asked_life (connected image (many_lives way forward count door answers last_door left) last) q before own asks lives = absurd asks

-- a life whose one reply gives a sale hands it out
hands : (q : RunQuestion) (life : Life) (s : Sale) → IsAskedLife q life → Contains (sales_of q.reply) s → HandsOut life s
hands q life s is gives =
    let P : Life → Type 0 = λ l. HandsOut l s in
    subst P (sym is.life_is) (inl (q.reply, (0, omega arith, refl), gives))

-- its one exchange
exchanged : (q : RunQuestion) (life : Life) (is : IsAskedLife q life) → Contains life.exchanges (record { request = is.at; reply = q.reply })
exchanged q life is = subst (λ (l : Life). Contains l.exchanges (record { request = is.at; reply = q.reply })) (sym is.life_is) (0, omega arith, refl)

-- and no other
only_reply : (q : RunQuestion) (life : Life) (r : Result Answer Refusal) (at : Stamped) → IsAskedLife q life
    → Contains life.exchanges (record { request = at; reply = r }) → q.reply ≡ r
only_reply q life r at is there =
    let only = subst (λ (l : Life). Contains l.exchanges (record { request = at; reply = r })) is.life_is there in
    elim (contains_cases _ _ [] only) [
      | inl same ↦ ap (λ (e : Exchange). e.reply) same
      | inr none ↦ absurd (omega (arith, none.1))
    ]

-- a life stands behind those before it
behind : (lives own : List Life) (life : Life) → own ≡ life ∷ [] → Contains (lives ++ own) life
behind lives own life one = Contains-append_right lives own life (subst (λ l. Contains l life) (sym one) (0, omega arith, refl))

module _ {M : Type 0} {g : disk.Ghosts M} (made : RunUse g) (q : RunQuestion) (lives own : List Life) (asks : AsksIn made q)
    (lived : LivesIn made lives own) where
  -- a sale in the reply that a run got is handed out in its lives
  pub got_handed : (s : Sale) → Contains (sales_of q.reply) s → IsHanded (lives ++ own) s
  got_handed s gives =
      let mine = asked_life made q lives own asks lived in
      (mine.0, behind lives own mine.0 mine.2, hands q mine.0 s mine.1 gives)

  -- what a run sold for an order its lives sold for it
  pub sold_for_it : (order : Order) (s : Sale) → q.request ≡ Sell order → q.reply ≡ Ok (Sold s) → AreSoldFor (lives ++ own) order s
  sold_for_it order s request sold =
      let mine = asked_life made q lives own asks lived in
      let is = mine.1 in (
        mine.0,
        behind lives own mine.0 mine.2,
        is.at,
        is.for_request ∙ request,
        subst (λ (r : Result Answer Refusal). Contains mine.0.exchanges (record { request = is.at; reply = r })) sold (exchanged q mine.0 is),
      )

  module _ (leading : LeadingLaws) (selling : SellingLaws) (start : Office) (begun : IsOffice start) (lead : (o : Office) × LeadTo start (lives ++ own) o) where
    -- the life of the run opened an office
    record IsAsking : Type 0 where
      life : Life
      asked : IsAskedLife q life
      is_life : IsLife life
      one : own ≡ life ∷ []
      led : LeadTo start lives life.opening
      office : IsOffice life.opening

    asking : IsAsking
    asking =
        let mine = asked_life made q lives own asks lived in
        let all : LeadTo start (lives ++ mine.0 ∷ []) lead.0 = subst (λ l. LeadTo start (lives ++ l) lead.0) mine.2 lead.1 in
        let opens = life_opens start lives mine.0 [] lead.0 all in
        record {
          life = mine.0;
          asked = mine.1;
          is_life = opens.1;
          one = mine.2;
          led = opens.0;
          office = leading.offices start lives mine.0.opening begun opens.0;
        }

    -- its reply is that of the rules, or it failed
    asked_reply : (it : IsAsking) (answer : Answer) → reply (forward_of q.transform) it.life.opening it.asked.at ≡ Ok answer → IsUnlessFailed q.reply answer
    asked_reply it answer rules =
        let is = subst IsLife it.asked.life_is it.is_life in
        elim (replied (forward_of q.transform) it.life.opening it.asked.at q.reply is) [
          | inl by_rules ↦ inl (by_rules ∙ rules)
          | inr (inl memory) ↦ inr (inl memory)
          | inr (inr (inl store)) ↦ inr (inr store)
          | inr (inr (inr stopped)) ↦ absurd (it.asked.running stopped)
        ]

    -- a reprint of a sale that was handed out before gives that sale, unless the run failed
    pub printed_again : (s : Sale) → q.request ≡ Reprint s.number → IsHanded lives s → IsUnlessFailed q.reply (Reprinted s)
    printed_again s request there =
        let it = asking in
        let stands = leading.stands start lives it.life.opening s begun it.led there in
        asked_reply it (Reprinted s) (selling.orders.reprinted (forward_of q.transform) it.life.opening it.asked.at s it.office stands
        (it.asked.for_request ∙ request))

    -- a sale that was sold for an order before a run, by a command or at a desk
    sold_before : (order : Order) (s : Sale) → q.request ≡ Sell order → AreSoldFor lives order s → IsUnlessFailed q.reply (Sold s)
    sold_before order s request there =
        let it = asking in
        let its = sold_in_lives selling order s start lives it.life.opening begun it.led there in
        let stands = leading.stands start lives it.life.opening s begun it.led (sold_handed order s lives there) in
        let same = selling.orders.again (forward_of q.transform) it.life.opening it.asked.at order s it.office
        (it.asked.for_request ∙ request) (record { stands = stands; operator = its.operator; order_ref = its.order_ref }) in
        asked_reply it (Sold s) (same.1 its.same)

    -- a run that sells an order for which a sale was made gets that sale, unless it failed
    pub order_again : (order : Order) (s : Sale) → q.request ≡ Sell order → AreSoldFor (lives ++ own) order s → IsUnlessFailed q.reply (Sold s)
    order_again order s request (life, there, at, asked, sold) =
        let it = asking in
        elim (Contains-append_cases lives own life there) [
          | inl before ↦ sold_before order s request (life, before, at, asked, sold)
          | inr here_sold ↦ elim (contains_cases it.life life [] (subst (λ l. Contains l life) it.one here_sold)) [
            | inl same ↦ inl (only_reply q it.life (Ok (Sold s)) at it.asked
                (subst (λ (l : Life). Contains l.exchanges (record { request = at; reply = Ok (Sold s) })) (sym same) sold))
            | inr none ↦ absurd (omega (arith, none.1))
          ]
        ]
