-- Pages of a list that a desk told.
use Rattle.std.proofs.Common.{◌≡◌, ◌∙◌, ℕ, ◌+◌, ◌==◌, true, false, List, [], ◌∷◌, ◌++◌, length, Option, Some, None, Ok, Err, refl, ap, sym, subst, append-nil, inl, inr}
use Rattle.std.specs.Prelude.{◌⊎◌, Bool, if◌then◌else◌}
use Rattle.std.proofs.lemmas.List.{length-append}
use Rattle.asks.specs.declared.ask.Ask.TheVariants.{Look}
use Rattle.asks.specs.declared.lookup.Lookup.{Lookup}
use Rattle.book_states.specs.declared.lookup.Found.{Found}
use Rattle.command_line.specs.declared.address.Address.{Address}
use Rattle.desk_client.specs.Sent.{ask_text}
use Rattle.sts_fields.specs.Text.{Text}
use Rattle.desk_commands.proofs.PageLemmas.{more_text, some_behind}
use Rattle.vend_ports.proofs.TakeLemmas.{takes_as, takes_last, takes_next, takes_none}
use Rattle.desk_commands.specs.ListedAtDesk.{IsListedAtDesk, IsPageAsked, IsPagePrinted, IsPageReply, IsPageStop, TellPages, and_next, page_fault_line}
use Rattle.desk_commands.specs.Exchanged.{AreRounds, Exchanges, IsRound, Round, calls_of}
use Rattle.desk_commands.specs.Exchanged.IsUnsent.{unreached, unread, unsent}
use Rattle.desk_commands.specs.print.Pages.{list_behind, most_pages}
use Rattle.desk_commands.specs.print.ListTexts.{page_text, pages_text}
use Rattle.vend_ports.specs.print.Printed.{net_line}
use Rattle.vend_ports.specs.print.Sink.{Held, Sink}
use Rattle.vend_ports.specs.print.Told.{Takes, outputs}
use Rattle.vend_ports.specs.declared.command_end.CommandEnd.TheVariants as how
use Rattle.desk_commands.specs.declared.list_at_desk.PageFault.{PageFault}
use Rattle.desk_commands.specs.declared.list_at_desk.PageFault.TheVariants as faults
use Rattle.vend_ports.specs.declared.port.loopback.Loopback as loopback

-- ---- a round more

more_rounds : {S : Type 0} (remaining contents : S → Held) (rounds : List Round) (fresh now last : S) (message came : Text)
    → AreRounds remaining contents rounds fresh now → IsRound remaining contents now last message came
    → AreRounds remaining contents (rounds ++ record { message = message; came = came } ∷ []) fresh last
more_rounds remaining contents [] fresh now last message came are is = (last, subst (λ s. IsRound remaining contents s last message came) are is, refl)
more_rounds remaining contents (round ∷ rounds) fresh now last message came (between, held, are) is =
    (between, held, more_rounds remaining contents rounds between now last message came are is)

more_told : (list : Option Lookup) (rounds : List Round) (pages : List Found) (next : Lookup) (came : Text) (page : Found)
    → TellPages list rounds pages (Some next) → IsPageReply next came page
    → TellPages list (and_next rounds next came) (pages ++ page ∷ []) (list_behind page)
more_told list [] [] next came page are told = subst
    (λ (l : Option Lookup). TellPages l (and_next [] next came) (page ∷ []) (list_behind page)) are (refl, told, refl)
more_told list [] (first ∷ pages) next came page are told = absurd are
more_told None (round ∷ rounds) pages next came page are told = absurd are
more_told (Some list) (round ∷ rounds) [] next came page are told = absurd are
more_told (Some list) (round ∷ rounds) (first ∷ pages) next came page (asks, tells, are) told =
    (asks, tells, more_told (list_behind first) rounds pages next came page are told)

-- why no list follows a page
last_page : (Most : Type 0) (next behind : Option Lookup) (failed : Bool) → next ≡ None → next ≡ (if failed then None else behind)
    → (behind ≡ None) ⊎ ((failed ≡ true) ⊎ Most)
last_page Most next behind true none is = inr (inl refl)
last_page Most next behind false none is = inl (sym is ∙ none)

-- ---- all pages

module _ {N S : Type 0} (of : loopback.Ghosts N S) (remaining contents : S → Held) (net : N) (desk : Address) (list : Lookup) (json : Bool)
    (before : Sink) where
  -- the pages before one were asked for and printed
  pub record AskedSoFar (now : S) (after : Sink) (next : Lookup) (page : ℕ) : Type 0 where
    pub fresh : S
    pub rounds : List Round
    pub pages : List Found
    pub calls : of.calls net desk fresh
    pub held : AreRounds remaining contents rounds fresh now
    pub put : Takes before after (pages_text json pages)
    pub are : TellPages (Some list) rounds pages (Some next)
    pub count : length pages ≡ page

  -- before the first page nothing was asked for and nothing printed
  pub none_asked : (fresh : S) → of.calls net desk fresh → AskedSoFar fresh before list 0
  none_asked fresh calls = record { fresh = fresh; rounds = []; pages = []; calls = calls; held = refl; put = takes_none before; are = refl; count = refl }

  -- no connection could be had
  pub uncalled : (err told : Sink) → of.misses net desk → Takes err told net_line
      → IsListedAtDesk (calls_of of remaining contents net) desk list json (outputs before before err told) how.Refused
  uncalled err told misses says = record {
    rounds = [];
    pages = [];
    left = Some list;
    stop = Some faults.Unsent;
    told = (takes_none before, says, refl);
    are = refl;
    stops = (list, refl, unreached misses refl);
  }

  module _ (now last : S) (part after : Sink) (next : Lookup) (page : ℕ) (so_far : AskedSoFar now part next page) where
    has_held : of.ends S now → Exchanges of remaining contents net desk so_far.rounds
    has_held ended = record { fresh = so_far.fresh; last = now; calls = so_far.calls; held = so_far.held; ended = ended }

    holds_more : of.ends S last → (came : Text) → IsRound remaining contents now last (ask_text (Look next)) came
        → Exchanges of remaining contents net desk (and_next so_far.rounds next came)
    holds_more ended came round = record {
      ended = ended;
      fresh = so_far.fresh;
      last = last;
      calls = so_far.calls;
      held = more_rounds remaining contents so_far.rounds so_far.fresh now last (ask_text (Look next)) came so_far.held round;
    }

    put_more : (found : Found) → Takes part after (page_text json (page == 0) found) → Takes before after (pages_text json (so_far.pages ++ found ∷ []))
    put_more found put =
        let text = ap (λ n. pages_text json so_far.pages ++ page_text json (n == 0) found) (sym so_far.count) ∙ more_text json so_far.pages found in
        takes_as before after _ _ text (takes_next before part after (pages_text json so_far.pages) (page_text json (page == 0) found) so_far.put put)

    -- a page was printed and a list follows it: there is one page more
    pub page_more : (behind : Lookup) → IsPagePrinted remaining contents next json (page == 0) now last part after (Ok (Some behind))
        → AskedSoFar last after behind (page + 1)
    page_more behind (found, (came, round, told), (put, follows)) = record {
      fresh = so_far.fresh;
      rounds = and_next so_far.rounds next came;
      pages = so_far.pages ++ found ∷ [];
      calls = so_far.calls;
      held = more_rounds remaining contents so_far.rounds so_far.fresh now last (ask_text (Look next)) came so_far.held round;
      put = put_more found put;
      are = subst (λ (left : Option Lookup). TellPages (Some list) (and_next so_far.rounds next came) (so_far.pages ++ found ∷ []) left)
          (some_behind behind (list_behind found) after.failed follows)
          (more_told (Some list) so_far.rounds so_far.pages next came found so_far.are told);
      count = length-append so_far.pages (found ∷ []) ∙ ap (λ n. n + 1) so_far.count;
    }

    -- a page that no list follows was printed: the list ends as done
    pub page_last : of.ends S last → (err : Sink) (behind : Option Lookup) → behind ≡ None
        → IsPagePrinted remaining contents next json (page == 0) now last part after (Ok behind)
        → IsListedAtDesk (calls_of of remaining contents net) desk list json (outputs before after err err) how.Done
    page_last ended err behind none (found, (came, round, told), (put, follows)) = record {
      rounds = and_next so_far.rounds next came;
      pages = so_far.pages ++ found ∷ [];
      left = list_behind found;
      stop = None;
      told = (put_more found put, takes_none err, refl);
      are = more_told (Some list) so_far.rounds so_far.pages next came found so_far.are told;
      stops = (holds_more ended came round, last_page _ behind (list_behind found) after.failed none follows);
    }

    -- more pages than any office has
    pub most_printed : of.ends S now → (err : Sink) → page ≡ most_pages
        → IsListedAtDesk (calls_of of remaining contents net) desk list json (outputs before part err err) how.Done
    most_printed ended err most = record {
      rounds = so_far.rounds;
      pages = so_far.pages;
      left = Some next;
      stop = None;
      told = (so_far.put, takes_none err, refl);
      are = so_far.are;
      stops = (has_held ended, inr (inr (so_far.count ∙ most)));
    }

    stops_at : of.ends S last → (fault : PageFault) → IsPageAsked remaining contents next now last (Err fault)
        → IsPageStop (calls_of of remaining contents net) desk so_far.rounds (Some next) fault
    stops_at ended faults.NoMessage same = has_held (subst (λ (s : S). of.ends S s) same ended)
    stops_at ended faults.Unsent (inl cut) = (
      next,
      refl,
      unsent (record { fresh = so_far.fresh; between = now; last = last; calls = so_far.calls; held = so_far.held; cut = cut; ended = ended }),
    )
    stops_at ended faults.Unsent (inr (came, round)) = (next, refl, unread came (holds_more ended came round))
    stops_at ended (faults.Refused refusal) (came, round, why) = (next, refl, came, holds_more ended came round, why)
    stops_at ended faults.NoMoment (came, round, why) = (next, refl, came, holds_more ended came round, why)
    stops_at ended faults.OutOfForm (came, round, why) = (next, refl, came, holds_more ended came round, why)
    stops_at ended faults.Memory (came, round, why) = (next, refl, came, holds_more ended came round, why)

    -- a page could not be had: the list ends with those before it and a line on the fault
    pub page_stopped : of.ends S last → (err told : Sink) (fault : PageFault)
        → IsPagePrinted remaining contents next json (page == 0) now last part after (Err fault) → Takes err told (page_fault_line fault)
        → IsListedAtDesk (calls_of of remaining contents net) desk list json (outputs before after err told) how.Refused
    page_stopped ended err told fault (asked, put) says = record {
      rounds = so_far.rounds;
      pages = so_far.pages;
      left = Some next;
      stop = Some fault;
      told = (takes_last before part after (pages_text json so_far.pages) [] _ so_far.put (sym (append-nil (pages_text json so_far.pages))) put, says, refl);
      are = so_far.are;
      stops = stops_at ended fault asked;
    }
