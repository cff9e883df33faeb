-- What a desk's answer says where a page of a list is asked for.
use Rattle.std.proofs.Common.{◌≡◌, ◌∙◌, ℕ, List, Option, Result, Ok, sym, subst}
use Rattle.std.specs.Prelude.{Contains, IfSome}
use Rattle.std.specs.Borrow.{Bor}
use Rattle.office_rules.specs.Office.{IsOffice}
use Rattle.office_rules.specs.declared.decision.refusal.Refusal.{Refusal}
use Rattle.office_rules.specs.declared.office.sale.Sale.{Sale}
use Rattle.vend_core.specs.Law.Life.{IsLife, Life, present}
use Rattle.asks.specs.Ask.{message_of}
use Rattle.asks.specs.declared.ask.Ask.TheVariants.{Look}
use Rattle.asks.specs.declared.lookup.Lookup.{Lookup}
use Rattle.book_states.specs.declared.lookup.Found.{Found}
use Rattle.books.specs.Looking.{IsFoundAt}
use Rattle.conversation.specs.Exchanges.{MessageExchange, Timed, timed}
use Rattle.desk.specs.Answering.{answers_by, life_serves}
use Rattle.desk_messages.specs.Meaning.{lookup_form}
use Rattle.desk_messages.specs.declared.reply.outcome.Outcome.{Outcome}
use Rattle.desk_messages.specs.reply.HttpDate.{moment_given}
use Rattle.desk_messages.specs.reply.Text.{reply_to}
use Rattle.desk_client.specs.Alike.{TellAlike}
use Rattle.desk_client.specs.Page.{IsToldPage, page_as_read}
use Rattle.desk_client.specs.Reply.{reply_text}
use Rattle.desk_client.specs.Sent.{wanted_by}
use Rattle.desk_client.specs.Start.{IsDated}
use Rattle.desk_client.specs.Told.{IsTellable}
use Rattle.desk_client.specs.declared.told.Granted.TheVariants as granted
use Rattle.desk_client.specs.declared.told.Told.{Told}
use Rattle.desk_client.specs.declared.told.Told.TheVariants as told
use Rattle.desk_client.proofs.TellsLemmas.{date_given, given_dated}
use Rattle.desk_commands.specs.ListedAtDesk.{IsNoList, page_kind}
use Rattle.desk_commands.specs.print.Pages.{list_behind}
use Rattle.program_laws.specs.SalesTold.{ExchangeTells, sales_came, sales_found}
use Rattle.program_laws.proofs.AtDeskLemmas.FileLemmas.{by_finds}
use Rattle.program_laws.proofs.AtDeskLemmas.ListLemmas.{OnePage, list_asked, page_of}
use Rattle.program_laws.proofs.AtDeskLemmas.MeaningLemmas.{looked}
use Rattle.program_laws.proofs.AtDeskLemmas.OneLemmas.{DeskLaws, what_came}
use Rattle.program_laws.proofs.AtDeskLemmas.PageLemmas.{CanAsk, IsSamePage, behind_askable, finds_page, page_as_told, page_told, same_page, told_text}
use Rattle.program_laws.proofs.AtDeskLemmas.RuleLemmas.{present_is}
use Rattle.program_laws.proofs.AtDeskLemmas.TellableLemmas.{told_of}
use Rattle.program_laws.proofs.AskedLemmas.SaysLemmas.{WasServed, WhatCame, its_text, no_moment_text, what_was}
use Rattle.program_laws.proofs.AskedLemmas.SaysLemmas.WhatCame.{no_moment, was_served}

-- Whatever page is read of that is one that was found, whose sales the exchange told, and the
-- office is as it was.
pub record PageThere (page : Found) (old new : Life) (x : MessageExchange) : Type 0 where
  pub there : Found
  pub alike : IsSamePage page there
  pub behind : IfSome (list_behind page) CanAsk
  pub same : new ≡ old
  pub tells : (s : Sale) → Contains (sales_found (Ok there)) s → ExchangeTells old x new s

pub record PageSays (list : Lookup) (old new : Life) (x : MessageExchange) : Type 0 where
  pub said : Told
  pub date : Option (List ℕ)
  pub is_date : IsDated date
  pub text : x.reply ≡ reply_text date said
  pub tellable : IsTellable (wanted_by (Look list)) said
  pub page : (body : Bor (List ℕ)) (page : Found) → TellAlike (told.Granted (granted.Page body)) said → IsToldPage (page_kind list) page
      → body.now ≡ page_as_read page → PageThere page old new x

module _ (laws : DeskLaws) (old new : Timed Life) (x : MessageExchange) (opening : IsOffice old.0.opening) (life : IsLife new.0) (one : OnePage)
    (list : Lookup) (can : CanAsk list) (some : ¬ IsNoList list) (asked : x.message ≡ message_of (Look list)) where
  -- what was read as a page is one that was served
  page_served : (outcome : Outcome) → WasServed laws old new x opening life (Look list) can asked outcome → (body : Bor (List ℕ)) (page : Found)
      → TellAlike (told.Granted (granted.Page body)) (told_of outcome) → IsToldPage (page_kind list) page → body.now ≡ page_as_read page
      → PageThere page old.0 new.0 x
  page_served outcome was body page alike is_told as_read =
      let form = lookup_form list in
      let r = looked list was.moment outcome old.0 new.0 was.serves in
      let o = present old.0 in
      let office : IsOffice o = present_is laws.along old.0 (subst IsLife r.3 life) opening in
      let it =
      page_of body form r.0 (subst (λ (y : Outcome). TellAlike (told.Granted (granted.Page body)) (told_of y)) r.1 alike) in
      let finds =
      finds_page o was.moment list some it.0
      (by_finds old.0 was.moment list (Ok it.0) tt (subst (λ (r : Result Found Refusal). IsFoundAt old.0 was.moment list r) it.1 r.2)) in
      let same_text = sym as_read ∙ it.2 in
      let pages_alike =
      one (page_kind list) page (page_as_told it.0) is_told (page_told laws.ranges o office was.moment list it.0 finds) (same_text ∙ sym (told_text it.0)) in
      let same = same_page (page_kind list) page it.0 is_told pages_alike same_text in
      record {
        there = it.0;
        alike = same;
        behind = subst (λ (next : Option Lookup). IfSome next CanAsk) (sym same.behind) (behind_askable o office was.moment list it.0 finds);
        same = r.3;
        tells = λ s there. was.tells s (subst (λ (y : Outcome). Contains (sales_came y) s) (sym r.1)
            (subst (λ (r : Result Found Refusal). Contains (sales_found r) s) (sym it.1) there));
      }

  page_says_of : (outcome : Outcome) → WhatCame laws old new x opening life (Look list) can asked outcome
      → x.reply ≡ reply_to x.message.method (moment_given x.now) outcome x.message.closes → PageSays list old.0 new.0 x
  page_says_of outcome (was_served was) reply =
      let reads = what_came laws was.moment old.0 new.0 opening life (Look list) (list_asked list some) can.askable outcome was.serves in
      record {
        said = told_of outcome;
        date = date_given x.now;
        is_date = given_dated laws.dates x.now;
        text = its_text laws old new x opening life (Look list) can asked outcome (told_of outcome) reads.tells reply;
        tellable = reads.tellable;
        page = page_served outcome was;
      }
  page_says_of outcome (no_moment is) reply = record {
    said = told.NoMoment;
    date = date_given x.now;
    is_date = given_dated laws.dates x.now;
    text = no_moment_text laws old new x opening life (Look list) can asked outcome is reply;
    tellable = tt;
    page = λ body page alike is_told as_read. absurd alike;
  }

  -- what it says of a page
  pub page_says : timed (answers_by life_serves) old x new → PageSays list old.0 new.0 x
  page_says ((outcome, comes, reply), clock) =
      page_says_of outcome (what_was laws old new x opening life (Look list) can asked outcome comes reply) reply
