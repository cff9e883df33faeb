-- What `sell` has done where it ends as done.
use Rattle.std.proofs.Common.{◌≡◌, ◌∙◌, ℕ, ◌+◌, ◌%◌, Bool, true, false, [], ◌∷◌, length, Option, Some, None, Result, Ok, Err, inl, inr, refl, sym, ap, subst, arith}
use Rattle.std.specs.Prelude.{All, Contains, if◌then◌else◌}
use Rattle.std.specs.Option.{ok_or}
use Rattle.books.specs.Keeps.{IsRepresented, RecoversTo}
use Rattle.books.specs.Path.{StandsIn}
use Rattle.sqlite_trees.specs.declared.store.Store.{Ghosts}
use Rattle.sts_fields.specs.Text.{Text}
use Rattle.sts_fields.specs.Tid.{fresh_after, minute_of}
use Rattle.sts_token.specs.Token.{BlockFunction}
use Rattle.tariff.specs.Purchase.{purchase_of}
use Rattle.office_rules.specs.Decision.{MeterAccount, ◌>>=◌, decision_of, next_number, or_refusal, sell, sell_once, unchanged}
use Rattle.office_rules.specs.Decision.Fold.{after, replies_to, reply, reply_of, step}
use Rattle.office_rules.specs.Law.Handed.{sales_of}
use Rattle.vend_core.specs.Law.Life.{IsLife, MayLeave}
use Rattle.vend_core.specs.Law.LifeLaws.{IsRunning, extended_by, opened}
use Rattle.office_rules.specs.Office.{Office}
use Rattle.office_rules.specs.declared.decision.answer.Answer.{Answer}
use Rattle.office_rules.specs.declared.decision.answer.Answer.TheVariants.{Sold}
use Rattle.office_rules.specs.declared.decision.change.Change.{Change}
use Rattle.office_rules.specs.declared.decision.refusal.Refusal.{Refusal}
use Rattle.office_rules.specs.declared.decision.refusal.Refusal.TheVariants as refusals
use Rattle.office_rules.specs.declared.decision.request.Order.{Order}
use Rattle.office_rules.specs.declared.decision.request.Request.TheVariants.{Sell}
use Rattle.office_rules.specs.declared.decision.request.Stamped.{Stamped}
use Rattle.office_rules.specs.declared.office.sale.Sale.{Sale}
use Rattle.office_rules.specs.declared.office.shift.Shift.{Shift}
use Rattle.program_laws.specs.Selling.{EndsSold, PrintsSale}
use Rattle.program_laws.specs.runs.Words.{selling}
use Rattle.office_commands.specs.office.Served.{TellsReply, answer_text}
use Rattle.office_commands.specs.commands.Asked.{IsAskedAt}
use Rattle.office_commands.specs.commands.AtFile.{IsAskedOfFile}
use Rattle.office_commands.specs.port.Places.{Places}
use Rattle.vend_ports.specs.commands.Timed.{IsTakenMoment}
use Rattle.vend_ports.specs.port.Dial.{Dial}
use Rattle.vend_ports.specs.port.Texts.{Texts}
use Rattle.vend_ports.specs.print.Told.{IsTold, Outputs, Takes}
use Rattle.office_commands.specs.office.Visited.{seen_in}
use Rattle.office_commands.specs.office.Visited.IsVisited.{unopened, visited}
use Rattle.command_line.specs.Transform.{forward_of}
use Rattle.command_line.specs.declared.place.FilePlace.{FilePlace}
use Rattle.command_line.specs.declared.transform.Shipped.{Shipped}
use Rattle.vend_ports.specs.declared.command_end.CommandEnd.{CommandEnd}
use Rattle.vend_ports.specs.declared.command_end.CommandEnd.TheVariants as how

-- ---- an order that is granted gives a sale

abbrev GivesSale : Result Change Refusal → Type 0
GivesSale decided = (answer : Answer) → reply_of decided ≡ Ok answer → (sale : Sale) × (answer ≡ Sold sale)

is_given : (sale : Sale) (answer : Answer) (granted : Result Answer Refusal) → granted ≡ Ok (Sold sale) → granted ≡ Ok answer → (s : Sale) × (answer ≡ Sold s)
is_given sale answer granted one other = let same : answer ≡ Sold sale = cc in (sale, same)

next_gives : {A : Type 0} (test : Result A Refusal) (next : A → Result Change Refusal) → ((a : A) → GivesSale (next a)) → GivesSale (test >>= next)
next_gives (Ok a) next each = each a
next_gives (Err refusal) next each = λ answer is. absurd (cc)

same_gives : (same : Bool) (first : Sale) → GivesSale (if same then unchanged (Sold first) else Err refusals.RefReused)
same_gives true first = λ answer is. is_given first answer _ refl is
same_gives false first = λ answer is. absurd (cc)

new_gives : (forward : BlockFunction) (moment nibble : ℕ) (order : Order) (shift : Option Shift) (meter : Option MeterAccount) (count : ℕ)
    → GivesSale (sell forward moment nibble order shift meter count)
new_gives forward moment nibble order shift meter count =
    next_gives (ok_or shift refusals.NoShift) _ (λ s.
    next_gives (ok_or meter refusals.NoMeter) _ (λ m.
    next_gives (or_refusal (minute_of m.meter.base moment)) _ (λ now.
    next_gives (or_refusal (fresh_after now m.last)) _ (λ tid.
    next_gives (ok_or (purchase_of m.steps m.prior order.tender) refusals.TooLittle) _ (λ buy.
    next_gives (next_number count) _ (λ number answer is. is_given _ answer _ refl is))))))

once_gives : (forward : BlockFunction) (moment nibble : ℕ) (order : Order) (first : Option Sale) (shift : Option Shift)
    (meter : Option MeterAccount) (count : ℕ) → GivesSale (sell_once forward moment nibble order first shift meter count)
once_gives forward moment nibble order (Some first) shift meter count = same_gives _ first
once_gives forward moment nibble order None shift meter count = new_gives forward moment nibble order shift meter count

sell_gives : (forward : BlockFunction) (office : Office) (at : Stamped) (order : Order) (answer : Answer) → at.request ≡ Sell order
    → reply forward office at ≡ Ok answer → (sale : Sale) × (answer ≡ Sold sale)
sell_gives forward office at order answer is granted =
    once_gives forward at.moment at.nibble order _ _ _ _ answer
    (subst (λ request. reply_of (decision_of forward office at.moment at.nibble request) ≡ Ok answer) is granted)

-- ---- a life of one request

-- a life of which nothing was asked yet runs in the office that it opened
pub now_is : (forward : BlockFunction) (office present : Office) → IsRunning (opened forward office) present → office ≡ present
unfolding after
now_is forward office present running = running.present

one_reply : (forward : BlockFunction) (office : Office) (at : Stamped) (answer : Answer)
    → IsLife (extended_by (opened forward office) at (Ok answer)) → reply forward office at ≡ Ok answer
unfolding replies_to
one_reply forward office at answer is =
    let same : (Ok answer ∷ []) ≡ (reply forward office at ∷ []) = is.replies in cc

one_left : (forward : BlockFunction) (office : Office) (at : Stamped) (answer : Answer) (left : Office)
    → MayLeave (extended_by (opened forward office) at (Ok answer)) left → left ≡ step forward office at
unfolding after
one_left forward office at answer left (inl is) = is
one_left forward office at answer left (inr (doubted, there, is)) = absurd (omega (arith, there.1))

-- ---- a command that ended as done

not_refused : (o : Outputs) (text errors : Text) → ¬ IsTold o text errors how.Refused how.Done
not_refused o text errors (put, told, is) = cc

is_answered : (reply : Result Answer Refusal) (o : Outputs) → TellsReply reply o how.Done → (answer : Answer) × (reply ≡ Ok answer)
    × Takes o.old o.new (answer_text answer)
is_answered (Ok answer) o (inl (put, told, is)) = (answer, refl, put)
is_answered (Ok answer) o (inr (room, told)) = absurd (not_refused o _ _ told)
is_answered (Err refusal) o told = absurd (not_refused o _ _ told)

-- a receipt takes no memory
pub sale_told : (sale : Sale) (o : Outputs) (end : CommandEnd) → TellsReply (Ok (Sold sale)) o end → PrintsSale sale o end
sale_told sale o end (inl told) = told
sale_told sale o end (inr (none, told)) = absurd none

-- a request to sell that ended as done has sold for the order in the office of the file
ends_sold : {S : Type 0} (store : Ghosts S) (answers_stand : (forward : BlockFunction) (o : Office) (at : Stamped)
    → All (Contains (step forward o at).sales) (sales_of (reply forward o at))) (at : Places) (path : Text) (wait : ℕ)
    (transform : Shipped) (order : Order) (moment : ℕ) (office : Office) (o : Outputs) → StandsIn (at path wait).image office
    → IsAskedAt store at transform path wait moment (Sell order) o how.Done → EndsSold store (at path wait).closes transform order moment office o
ends_sold store answers_stand places path wait transform order moment office o stands (unopened fault fails told) = absurd (not_refused o _ _ told)
ends_sold store answers_stand places path wait transform order moment office o stands (visited old new begins finds done closes) =
    let forward = forward_of transform in
    let told = is_answered done.reply o done.told in
    let at = done.replied.0 in
    let asked = done.replied.1 in
    let replies = done.replied.2 in (
      new,
      closes,
      λ clean.
          let present = (begins.opens office stands (replies.clean clean)).running begins.running in
          let kept = subst (λ reply. IsRepresented (extended_by (opened forward office) at reply) (seen_in new)) told.1
          (replies.keeps (opened forward office) (begins.opens office stands) clean) in
          let granted = one_reply forward office at told.0 kept.is_life in
          let given = sell_gives forward office at order told.0 asked.for_request granted in
          let by_rules : reply forward office at ≡ Ok (Sold given.0) = granted ∙ ap Ok given.1 in
          record {
            at = at;
            ordered = record {
              at_moment = asked.at_moment;
              by_number = asked.by_number ∙ ap (λ n. n % 16) (present.next
                  ∙ ap (λ (p : Office). length p.sales + 1) (sym (now_is forward office present.present present.running)));
              for_order = asked.for_request;
            };
            sale = given.0;
            by_rules = by_rules;
            printed = subst (λ answer. Takes o.old o.new (answer_text answer)) given.1 told.2;
            stands = subst (λ r. All (Contains (step forward office at).sales) (sales_of r)) by_rules (answers_stand forward office at) 0 given.0 (omega arith);
            left = λ trees may. let some = kept.left trees may in subst (RecoversTo trees) (one_left forward office at told.0 some.0 some.1) some.2;
          },
    )

-- so has a `sell`, at the moment that it took
pub sell_done : {S : Type 0} (store : Ghosts S) (answers_stand : (forward : BlockFunction) (o : Office) (at : Stamped)
    → All (Contains (step forward o at).sales) (sales_of (reply forward o at))) (at : Places) (untouched : Type 0) (texts : Texts) (clock : Dial)
    (file : FilePlace) (order : Order) (json : Bool) (office : Office) (o : Outputs) → StandsIn (at file.path.now file.wait).image office
    → IsAskedOfFile store at untouched texts clock file (selling order) json o how.Done
    → (moment : ℕ) × IsTakenMoment file.at clock (Some moment)
    × EndsSold store (at file.path.now file.wait).closes file.transform order moment office o
sell_done store answers_stand places untouched texts clock file order json office o stands (unread, (Some moment, taken, done)) =
    (moment, taken, ends_sold store answers_stand places file.path.now file.wait file.transform order moment office o stands done)
sell_done store answers_stand places untouched texts clock file order json office o stands (unread, (None, taken, (idle, told))) =
    absurd (not_refused o _ _ told)
