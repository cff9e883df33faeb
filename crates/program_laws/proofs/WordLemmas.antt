-- What the words of a run ask of its office: they say one order, and what they ask for is asked.
pub mod AnswerLemmas
pub mod AtDeskLemmas
pub mod OrderLemmas
pub mod ReceiptLemmas
use Rattle.std.proofs.Common.{◌≡◌, ◌∙◌, true, false, List, Option, Some, None, codes, eqb, refl, sym, ap, subst}
use Rattle.std.specs.Prelude.{⊤}
use Rattle.std.proofs.Math.Dec.{T}
use Rattle.std.specs.Cmp.Lexicographic.{pointwise}
use Rattle.clap.specs.Walk.{Row}
use Rattle.sts_fields.specs.Text.{Text}
use Rattle.office_rules.specs.declared.decision.request.Request.{Request}
use Rattle.command_line.specs.Address.{SaysAddress}
use Rattle.command_line.specs.Asked.{ArgumentsSay, AskFor, CommandAsks}
use Rattle.command_line.specs.Commands.{SaysAskWords}
use Rattle.command_line.specs.Place.{SaysPlace, asks_office}
use Rattle.command_line.specs.Said.{IsArgument}
use Rattle.command_line.specs.declared.asked.Asked.{Asked}
use Rattle.command_line.specs.declared.asked.Asked.TheVariants as asks
use Rattle.command_line.specs.declared.office_words.AskWords.{AskWords}
use Rattle.command_line.specs.declared.office_words.OfficeWords.{OfficeWords}
use Rattle.command_line.specs.declared.place.Place.{Place}
use Rattle.command_line.specs.declared.place.Place.TheVariants.{Desk, File}
use Rattle.program_laws.specs.runs.Words.{AskWordsRequest, AsksFile, Requests, WordsRequest}

-- an argument says one value, where its text does
pub one_argument : {V : Type 0} (Says : Text → V → Type 0) → ((text : Text) (v w : V) → Says text v → Says text w → v ≡ w)
    → (x : Option Text) (v w : V) → IsArgument Says x v → IsArgument Says x w → v ≡ w
one_argument Says one None v w a b = absurd a
one_argument Says one (Some text) v w a b = one text v w a b

-- the name is this word
abbrev pub IsNamed : Text → Text → Type 0
IsNamed word name = T (pointwise eqb name word)

-- ---- one office

-- the name of a command that asks an office is none of another command
no_other : (name word : Text) → name ≡ word → asks_office word ≡ false → asks_office name ≡ true → ⊥
no_other name word is none asks = let both : true ≡ false = sym asks ∙ (ap asks_office is ∙ none) in cc

-- both are offices in files, or both at desks
abbrev pub AreLike : Place → Place → Type 0
AreLike (File one) (File other) = ⊤
AreLike (Desk one) (Desk other) = ⊤
AreLike one other = ⊥

-- so are those that some rows name
same_place : (rows : List Row) (one other : Place) → SaysPlace rows one → SaysPlace rows other → AreLike one other
same_place rows (File one) (File other) says again = tt
same_place rows (Desk one) (Desk other) says again = tt
same_place rows (File one) (Desk other) says again = absurd (subst (λ (x : Option Text). IsArgument SaysAddress x other) says.0 again.1)
same_place rows (Desk one) (File other) says again = absurd (subst (λ (x : Option Text). IsArgument SaysAddress x one) again.0 says.1)

-- ---- one thing that is asked

-- an office of the same kind is asked for this
abbrev pub IsAskedAgain : Place → AskWords → Asked → Type 0
IsAskedAgain one ask (asks.Office words) = AreLike one words.place × (words.ask ≡ ask)
IsAskedAgain one ask it = ⊥

module _ (ask : AskWords) (named : (name : Text) (rows : List Row) → SaysAskWords name rows ask → asks_office name ≡ true)
    (only : (name : Text) (rows : List Row) (other : AskWords) → SaysAskWords name rows ask → SaysAskWords name rows other → other ≡ ask) where
  by_command : (name : Text) (rows : List Row) (one : Place) (it : Asked) → SaysPlace rows one → SaysAskWords name rows ask → asks_office name ≡ true
      → ArgumentsSay name rows it → IsAskedAgain one ask it
  by_command name rows one (asks.Office words) place says of_office again =
      (same_place rows one words.place place again.place, only name rows words.ask says again.ask)
  by_command name rows one (asks.Trial words) place says of_office again = absurd (no_other name (codes "trial") again.0 refl of_office)
  by_command name rows one (asks.Meter words) place says of_office again = absurd (no_other name (codes "meter") again.0 refl of_office)
  by_command name rows one (asks.Quote words) place says of_office again = absurd (no_other name (codes "quote") again.0 refl of_office)
  by_command name rows one (asks.Serve words) place says of_office again = absurd (no_other name (codes "serve") again.0 refl of_office)
  by_command name rows one (asks.Selfcheck words) place says of_office again = absurd (no_other name (codes "selfcheck") again.0 refl of_office)
  by_command name rows one (asks.Audit words) place says of_office again = absurd (no_other name (codes "audit") again.0 refl of_office)

  -- words that ask an office for this once ask one for it each time
  pub asked_again : (command : Option (Text × List Row)) (one : OfficeWords) (it : Asked) → CommandAsks command (asks.Office one) → one.ask ≡ ask
      → CommandAsks command it → IsAskedAgain one.place ask it
  asked_again None one it says is again = absurd says
  asked_again (Some (name, rows)) one it says is again =
      let asks_it = subst (λ (a : AskWords). SaysAskWords name rows a) is says.1.ask in
      by_command name rows one.place it says.1.place asks_it (named name rows asks_it) again.1

-- what is requested of a file is requested of another so
requested_so : (one other : Place) (ask again : AskWords) (r : Request) → AreLike one other → again ≡ ask → AsksFile one ask r → AsksFile other again r
requested_so (File one) (File other) ask again r like same asks = subst (λ (a : AskWords). AskWordsRequest a r) (sym same) asks
requested_so (Desk one) other ask again r like same asks = absurd asks
requested_so (File one) (Desk other) ask again r like same asks = absurd like

module _ (r : Request) (ask : AskWords) (named : (name : Text) (rows : List Row) → SaysAskWords name rows ask → asks_office name ≡ true)
    (only : (name : Text) (rows : List Row) (other : AskWords) → SaysAskWords name rows ask → SaysAskWords name rows other → other ≡ ask)
    (requests : (name : Text) (rows : List Row) (other : AskWords) → SaysAskWords name rows other → AskWordsRequest other r → other ≡ ask) where
  -- words that request something of a file ask for it in their own way
  in_its_way : (command : Option (Text × List Row)) (place : Place) (words : OfficeWords) → CommandAsks command (asks.Office words)
      → AsksFile place words.ask r → words.ask ≡ ask
  in_its_way None place words says asks = absurd says
  in_its_way (Some (name, rows)) (Desk desk) words says asks = absurd asks
  in_its_way (Some (name, rows)) (File file) words says asks = requests name rows words.ask says.1.ask asks

  asked_so : (one : Place) (words : AskWords) (it : Asked) → IsAskedAgain one ask it → words ≡ ask → AsksFile one words r → Requests it r
  asked_so one words (asks.Office other) (like, same) is asks = requested_so one other.place words other.ask r like (same ∙ sym is) asks
  asked_so one words it none is asks = absurd none

  by_asked : (words : List Text) (asked it : Asked) → AskFor words asked → AskFor words it → Requests asked r → Requests it r
  by_asked words (asks.Office one) it for again wanted =
      let is = in_its_way _ one.place one for.asks wanted in
      asked_so one.place one.ask it (asked_again ask named only _ one it for.asks is again.asks) is wanted
  by_asked words asked it for again wanted = absurd wanted

  -- they ask for nothing else, wherever the program is run
  pub requested_again : (words : List Text) → WordsRequest words r → (it : Asked) → AskFor words it → Requests it r
  requested_again words (asked, for, wanted) it again = by_asked words asked it for again wanted
