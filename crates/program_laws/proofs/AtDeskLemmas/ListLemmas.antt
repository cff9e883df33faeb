-- What is printed of the pages that a desk told of a list is what is printed of the pages that its office has.
use Rattle.std.proofs.Common.{◌≡◌, ◌∙◌, ℕ, pos, ◌≤◌, Bool, true, false, List, [], ◌∷◌, ◌++◌, length, Option, Some, Result, Ok, Err, inl, inr, refl, sym, ap, subst}
use Rattle.std.specs.Prelude.{⊤, IfSome}
use Rattle.std.specs.List.{flat_map}
use Rattle.std.specs.Borrow.{Bor}
use Rattle.sts_fields.specs.Day.{day_at}
use Rattle.sts_fields.specs.Moment.{IsMoment}
use Rattle.vend_core.specs.Law.Life.{IsLife, Life, present}
use Rattle.vend_core.specs.Law.Reached.{IsPlausible}
use Rattle.office_rules.specs.Office.{IsOffice, Office}
use Rattle.office_rules.specs.declared.decision.refusal.Refusal.{Refusal}
use Rattle.book_facts.specs.Lookups.{Finds, FindsTariffs}
use Rattle.asks.specs.declared.ask.Ask.TheVariants.{Look}
use Rattle.asks.specs.declared.lookup.Lookup.{Lookup}
use Rattle.asks.specs.declared.lookup.Lookup.TheVariants as lookups
use Rattle.book_states.specs.declared.lookup.Found.{Found}
use Rattle.book_states.specs.declared.lookup.Found.TheVariants as found
use Rattle.books.specs.Looking.{IsFoundAt}
use Rattle.conversation.specs.Exchanges.{Timed}
use Rattle.desk_messages.specs.Meaning.{lookup_form}
use Rattle.desk_messages.specs.declared.reply.form.Form.{Form}
use Rattle.desk_messages.specs.declared.reply.form.Form.TheVariants as forms
use Rattle.desk_messages.specs.declared.reply.outcome.Outcome.{Outcome}
use Rattle.desk_messages.specs.declared.reply.outcome.Outcome.TheVariants as outcomes
use Rattle.desk_messages.specs.reply.HttpDate.{moment_given}
use Rattle.desk_messages.specs.reply.Text.{reply_bytes_of}
use Rattle.desk_client.specs.Alike.{TellAlike}
use Rattle.desk_client.specs.Page.{AreAlike, IsToldPage}
use Rattle.desk_client.specs.Page as pages
use Rattle.desk_client.specs.Reply.{IsReply, longest_reply_body}
use Rattle.desk_client.specs.Sent.{CanSend, ask_text, wanted_by}
use Rattle.desk_client.specs.declared.page.PageKind.{PageKind}
use Rattle.desk_client.specs.declared.told.Granted.TheVariants as granted
use Rattle.desk_client.specs.declared.told.Told.{Told}
use Rattle.desk_client.specs.declared.told.Told.TheVariants as told
use Rattle.program_laws.specs.AtDesk.{AreAnsweredOn, AsksNoHealth, IsAnsweredAt, IsPageOrRefusal, PrintsList}
use Rattle.desk_commands.specs.ListedAtDesk.{IsNoList, IsPageReply, TellPages, page_kind}
use Rattle.desk_commands.specs.PageOrder.{ComesAfter}
use Rattle.desk_commands.specs.Exchanged.{Round}
use Rattle.desk_commands.specs.print.ListTexts.{page_text, pages_text}
use Rattle.desk_commands.specs.print.Pages.{ArePages, list_behind}
use Rattle.program_laws.proofs.LookupLemmas.{look_answers}
use Rattle.program_laws.proofs.AtDeskLemmas.FileLemmas.{by_finds}
use Rattle.program_laws.proofs.AtDeskLemmas.MeaningLemmas.{looked}
use Rattle.program_laws.proofs.AtDeskLemmas.OneLemmas.{DeskLaws, Reads, came_of, reads_look, same_told, served_at}
use Rattle.program_laws.proofs.AtDeskLemmas.PageLemmas.{CanAsk, FindsPage, IsSamePage, behind_askable, finds_page, page_as_told, page_told, page_tokens, same_page, told_text}
use Rattle.program_laws.proofs.AtDeskLemmas.OrderLemmas.{page_after}
use Rattle.program_laws.proofs.AtDeskLemmas.ReadLemmas.{whole_reply}
use Rattle.program_laws.proofs.AtDeskLemmas.RuleLemmas.{present_is}
use Rattle.program_laws.proofs.AtDeskLemmas.TellableLemmas.{told_found, told_look}
use Rattle.program_laws.proofs.AtDeskLemmas.TokenLemmas.{plausible_present}

-- one body tells one page
abbrev pub OnePage : Type 0
OnePage =
    (kind : PageKind) (page other : Found) → IsToldPage kind page → IsToldPage kind other → pages.page_as_read page
    ≡ pages.page_as_read other → AreAlike page other

-- what was told as a page is one that was found
pub page_of : (body : Bor (List ℕ)) (form : Form) (r : Result Found Refusal) → TellAlike (told.Granted (granted.Page body)) (told_look form r)
    → (it : Found) × (r ≡ Ok it) × (body.now ≡ pages.page_as_read it)
page_of body form (Ok (found.Tariffs items)) alike = (found.Tariffs items, refl, alike)
page_of body form (Ok (found.Meters items)) alike = (found.Meters items, refl, alike)
page_of body form (Ok (found.Shifts items)) alike = (found.Shifts items, refl, alike)
page_of body form (Ok (found.Sales items)) alike = (found.Sales items, refl, alike)
page_of body forms.Json (Ok (found.Sale s)) alike = absurd alike
page_of body forms.Paper (Ok (found.Sale s)) alike = absurd alike
page_of body form (Ok it) alike = absurd alike
page_of body form (Err refusal) alike = absurd alike

-- what is found as a page is told as its text
as_page : (form : Form) (o : Office) (moment : ℕ) (list : Lookup) (it : Found) → FindsPage o moment list it
    → (body : Bor (List ℕ)) × (told_found form it ≡ told.Granted (granted.Page body)) × (body.now ≡ pages.page_as_read it)
as_page form o moment (lookups.Tariffs after) (found.Tariffs items) is = (record { ref_ptr = (0, 0); now = pages.page_as_read (found.Tariffs items) }, refl, refl)
as_page form o moment (lookups.Meters after) (found.Meters items) is = (record { ref_ptr = (0, 0); now = pages.page_as_read (found.Meters items) }, refl, refl)
as_page form o moment (lookups.Shifts after) (found.Shifts items) is = (record { ref_ptr = (0, 0); now = pages.page_as_read (found.Shifts items) }, refl, refl)
as_page form o moment (lookups.Sales after) (found.Sales items) is = (record { ref_ptr = (0, 0); now = pages.page_as_read (found.Sales items) }, refl, refl)
as_page form o moment list it is = absurd is

-- a page is the same at each moment of a day
any_moment : (o : Office) (moment other : ℕ) (list : Lookup) (page : Found) → day_at moment ≡ day_at other → FindsPage o moment list page
    → Finds o other list (Ok page)
any_moment o moment other (lookups.Tariffs after) page same finds = subst (λ (day : ℕ). FindsTariffs o day after (Ok page)) same finds
any_moment o moment other (lookups.Meters after) page same finds = finds
any_moment o moment other (lookups.Shifts after) page same finds = finds
any_moment o moment other (lookups.Sales after) page same finds = finds
any_moment o moment other list page same finds = absurd finds

-- a list is no health
pub list_asked : (list : Lookup) → ¬ IsNoList list → AsksNoHealth (Look list)
list_asked lookups.Health some = some tt
list_asked list some = tt

-- what has members in order is a list
pub has_order : (list : Lookup) (page : Found) → ComesAfter list page → ¬ IsNoList list
has_order (lookups.Tariffs after) page order none = none
has_order (lookups.Meters after) page order none = none
has_order (lookups.Shifts after) page order none = none
has_order (lookups.Sales after) page order none = none
has_order list page order none = absurd order

module _ (laws : DeskLaws) where
  -- what a desk looked up for a list
  pub record LooksUp (moment : ℕ) (old new : Life) (list : Lookup) (came : List ℕ) : Type 0 where
    pub result : Result Found Refusal
    pub found : IsFoundAt old moment list result
    pub reads : Reads (Look list) (outcomes.Found (lookup_form list) result)
    pub text : came ≡ reply_bytes_of (moment_given (Some (pos moment))) (outcomes.Found (lookup_form list) result) false
    pub same : new ≡ old

  -- asked for a page, a desk looks the page up, and what it finds can be told
  pub looks_up : (moment : ℕ) (old new : Timed Life) (list : Lookup) (came : List ℕ) → IsMoment moment → IsOffice (present old.0) → ¬ IsNoList list
      → CanAsk list → IsAnsweredAt (pos moment) old (ask_text (Look list)) came new → LooksUp moment old.0 new.0 list came
  looks_up moment old new list came is_moment office some can at =
      let c = came_of laws (Look list) (pos moment) old new came can at in
      let r = looked list moment c.outcome old.0 new.0 (served_at laws (Look list) can.askable moment is_moment old new came c) in
      record {
        result = r.0;
        found = r.2;
        reads = reads_look laws list (list_asked list some) can.askable old.0 office moment r.0 r.2;
        text = c.text ∙ ap (λ (x : Outcome). reply_bytes_of (moment_given (Some (pos moment))) x false) r.1;
        same = r.3;
      }

  -- ---- what came for a page is one, or a refusal
  came_page : (moment : ℕ) (old : Life) (list : Lookup) (came : List ℕ) → IsOffice (present old) → IsPlausible (present old) → ¬ IsNoList list
      → (r : Result Found Refusal) → IsFoundAt old moment list r → IsReply (wanted_by (Look list)) came (told_look (lookup_form list) r)
      → IsPageOrRefusal list came
  came_page moment old list came office plausible some (Ok it) found is =
      let o = present old in
      let finds = finds_page o moment list some it (by_finds old moment list (Ok it) tt found) in
      let page = as_page (lookup_form list) o moment list it finds in
      inl (
        page_as_told it,
        record {
          body = page.0;
          reply = record { reply = subst (λ (t : Told). IsReply (wanted_by (Look list)) came t) page.1 is; answers = tt };
          told = page_told laws.ranges o office moment list it finds;
          order = page_after o office moment list it finds;
          tokens = page_tokens o plausible moment list it finds;
          text = page.2 ∙ sym (told_text it);
        },
      )
  came_page moment old list came office plausible some (Err refusal) found is =
      inr (refusal, record { reply = is; answers = look_answers old moment list (Err refusal) found office plausible })

  -- what comes back for it is read as a page that keeps the rules, or a refusal
  pub page_read : (list : Lookup) (moment : ℕ) (old new : Timed Life) (came : List ℕ) → ¬ IsNoList list → CanSend (Look list) → IsMoment moment
      → IsOffice old.0.opening → IsPlausible old.0.opening → IsLife old.0
      → IsAnsweredAt (pos moment) old (ask_text (Look list)) came new → length came ≤ longest_reply_body → IsPageOrRefusal list came
  page_read list moment old new came some can is_moment opening plausible life at few =
      let office = present_is laws.along old.0 life opening in
      let l = looks_up moment old new list came is_moment office some can at in
      came_page moment old.0 list came office (plausible_present laws.one_step laws.plausible old.0 life opening plausible) some l.result l.found
      (whole_reply laws (Look list) (Some (pos moment)) (outcomes.Found (lookup_form list) l.result) came l.text few l.reads)

  -- ---- a page that a desk told is one of its office
  module _ (one : OnePage) where
    pub record IsOffices (moment : ℕ) (old new : Life) (list : Lookup) (page : Found) : Type 0 where
      pub there : Found
      pub finds : FindsPage (present old) moment list there
      pub alike : IsSamePage page there
      pub same : new ≡ old

    told_page : (moment : ℕ) (old new : Life) (list : Lookup) (came : List ℕ) (page : Found) → ¬ IsNoList list → LooksUp moment old new list came
        → (tells : IsPageReply list came page)
        → (it : Found) × FindsPage (present old) moment list it × (pages.page_as_read page ≡ pages.page_as_read it)
    told_page moment old new list came page some l tells =
        let form = lookup_form list in
        let told_it = told.Granted (granted.Page tells.body) in
        let text : IsReply (wanted_by (Look list)) (reply_bytes_of (moment_given (Some (pos moment))) (outcomes.Found form l.result) false) told_it =
        subst (λ (x : List ℕ). IsReply (wanted_by (Look list)) x told_it) l.text tells.reply.reply in
        let alike =
        same_told laws (wanted_by (Look list)) (Some (pos moment)) (outcomes.Found form l.result) told_it (told_look form l.result) text l.reads.tellable l.reads.tells in
        let it = page_of tells.body form l.result alike in (
          it.0,
          finds_page (present old) moment list some it.0
              (by_finds old moment list (Ok it.0) tt (subst (λ (x : Result Found Refusal). IsFoundAt old moment list x) it.1 l.found)),
          sym tells.text ∙ it.2,
        )

    -- a page that was read in the reply is one of the office, which is as it was
    pub one_page : (moment : ℕ) (old new : Timed Life) (list : Lookup) (came : List ℕ) (page : Found) → IsMoment moment → IsOffice (present old.0) → CanAsk list
        → IsAnsweredAt (pos moment) old (ask_text (Look list)) came new → IsPageReply list came page → IsOffices moment old.0 new.0 list page
    one_page moment old new list came page is_moment office can at tells =
        let some = has_order list page tells.order in
        let l = looks_up moment old new list came is_moment office some can at in
        let it = told_page moment old.0 new.0 list came page some l tells in
        let pages_alike =
        one (page_kind list) page (page_as_told it.0) tells.told (page_told laws.ranges (present old.0) office moment list it.0 it.1)
        (it.2 ∙ sym (told_text it.0)) in
        record { there = it.0; finds = it.1; alike = same_page (page_kind list) page it.0 tells.told pages_alike it.2; same = l.same }

-- ---- pages that are printed as others are

-- pages that are printed alike, one by one
abbrev pub AreSame : List Found → List Found → Type 0
AreSame [] [] = ⊤
AreSame (page ∷ pages) (it ∷ found) = IsSamePage page it × AreSame pages found
AreSame pages found = ⊥

same_text : (json first : Bool) (page it : Found) → IsSamePage page it → page_text json first page ≡ page_text json first it
same_text true first page it same = same.json first
same_text false first page it same = same.lines first

same_texts : (json : Bool) (pages found : List Found) → AreSame pages found → flat_map (page_text json false) pages ≡ flat_map (page_text json false) found
same_texts json [] [] same = refl
same_texts json [] (it ∷ found) same = absurd same
same_texts json (page ∷ pages) [] same = absurd same
same_texts json (page ∷ pages) (it ∷ found) (here, rest) =
    ap (λ (text : List ℕ). text ++ flat_map (page_text json false) pages) (same_text json false page it here)
    ∙ ap (λ (text : List ℕ). page_text json false it ++ text) (same_texts json pages found rest)

-- and together
pub same_pages : (json : Bool) (pages found : List Found) → AreSame pages found → pages_text json pages ≡ pages_text json found
same_pages json [] [] same = refl
same_pages json [] (it ∷ found) same = absurd same
same_pages json (page ∷ pages) [] same = absurd same
same_pages json (page ∷ pages) (it ∷ found) (here, rest) =
    ap (λ (text : List ℕ). text ++ flat_map (page_text json false) pages) (same_text json true page it here)
    ∙ ap (λ (text : List ℕ). page_text json true it ++ text) (same_texts json pages found rest)

-- ---- all pages

-- the pages that a desk told are those of its office, which is as it was
record AreOffices (day : ℕ) (old new : Life) (list left : Option Lookup) (pages : List Found) : Type 0 where
  pub found : List Found
  pub are : (moment : ℕ) → day_at moment ≡ day → ArePages (present old) moment list found left
  pub alike : AreSame pages found
  pub same : new ≡ old

module _ (laws : DeskLaws) (one : OnePage) (day : ℕ) where
  more_pages : (old new : Timed Life) → IsOffice (present old.0) → (list left : Option Lookup) → IfSome list CanAsk → (rounds : List Round) (pages : List Found)
      → AreAnsweredOn day old rounds new → TellPages list rounds pages left → AreOffices day old.0 new.0 list left pages
  more_pages old new office list left askable [] [] at tells =
      record { found = []; are = λ moment of_day. tells; alike = tt; same = ap (λ (o : Timed Life). o.0) at }
  more_pages old new office (Some list) left askable (round ∷ rounds) (page ∷ pages) (moment, is_moment, of_day, (mid, first, later)) (message, tell, tells) =
      let here =
      one_page laws one moment old mid list round.came page is_moment office askable
      (subst (λ (text : List ℕ). IsAnsweredAt (pos moment) old text round.came mid) message first) tell in
      let behind : IfSome (list_behind page) CanAsk =
      subst (λ (next : Option Lookup). IfSome next CanAsk) (sym here.alike.behind)
      (behind_askable (present old.0) office moment list here.there here.finds) in
      let rest =
      more_pages mid new (subst (λ (l : Life). IsOffice (present l)) (sym here.same) office) (list_behind page) left behind rounds pages later tells in
      record {
        found = here.there ∷ rest.found;
        are = λ other of_it. (
          any_moment (present old.0) moment other list here.there (of_day ∙ sym of_it) here.finds,
          subst (λ (next : Option Lookup). ArePages (present old.0) other next rest.found left) here.alike.behind
              (subst (λ (l : Life). ArePages (present l) other (list_behind page) rest.found left) here.same (rest.are other of_it)),
        );
        alike = (here.alike, rest.alike);
        same = rest.same ∙ here.same;
      }
  more_pages old new office list left askable rounds pages at tells = absurd tells

-- the pages that a desk told of a list are printed as those of its office
pub list_prints : (laws : DeskLaws) → OnePage
    → (list : Lookup) (day : ℕ) (old new : Timed Life) (rounds : List Round) (pages : List Found) (left : Option Lookup)
    → CanSend (Look list) → IsOffice old.0.opening → IsLife old.0 → AreAnsweredOn day old rounds new → TellPages (Some list) rounds pages left
    → PrintsList day list pages left old.0 new.0
list_prints laws one list day old new rounds pages left askable opening life at tells =
    let all = more_pages laws one day old new (present_is laws.along old.0 life opening) (Some list) left askable rounds pages at tells in
    record { pages = all.found; are = all.are; printed = λ json. same_pages json pages all.found all.alike; same = all.same }
