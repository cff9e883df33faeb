-- The life of an office along a conversation.
use Rattle.std.proofs.Common.{◌≡◌, ◌∙◌, inl, inr, List, [], ◌∷◌, refl, ap, subst}
use Rattle.vend_core.specs.Law.Life.{Life}
use Rattle.conversation.specs.Exchanges.{MessageExchange, Exchanged, Timed, timed}
use Rattle.desk.specs.Along.{AreAsked, GoesBy, Served}
use Rattle.desk.specs.Answering.{answers_by, life_serves}
use Rattle.desk_messages.specs.reply.HttpDate.{moment_given}
use Rattle.desk_messages.specs.reply.Text.{reply_to}

goes_on : (old mid new : Life) (served : List Served) → mid ≡ old → GoesBy mid served new → GoesBy old served new
goes_on old mid new served same goes = subst (λ life. GoesBy life served new) same goes

-- a life goes along with what the exchanges asked, and nothing else
pub goes_along : (old : Timed Life) (xs : List MessageExchange) (new : Timed Life) → Exchanged (timed (answers_by life_serves)) old xs new
    → (served : List Served) × AreAsked xs served × GoesBy old.0 served new.0
goes_along old [] new same = ([], refl, ap (λ (o : Timed Life). o.0) same)
goes_along old (x ∷ xs) new (mid, ((outcome, inl (fault, has, is, same), told), reads), later) =
    let more = goes_along mid xs new later in (
      more.0,
      inl (
        record { fault = fault; has = has; told = told ∙ ap (λ o. reply_to x.message.method (moment_given x.now) o x.message.closes) is },
        more.1,
      ),
      goes_on old.0 mid.0 new.0 more.0 same more.2,
    )
goes_along old (x ∷ xs) new (mid, ((outcome, inr (moment, ask, asks, serves), told), reads), later) =
    let more = goes_along mid xs new later in
    let s : Served = record { moment = moment; ask = ask; outcome = outcome } in (
      s ∷ more.0,
      inr (s, more.0, record { asks = asks; told = told }, refl, more.1),
      (mid.0, serves, more.2),
    )
