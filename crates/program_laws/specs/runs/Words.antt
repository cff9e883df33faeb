-- What the words of a run ask of the office in a file.
use Rattle.std.specs.Prelude.{◌≡◌, List}
use Rattle.sts_fields.specs.Text.{Text}
use Rattle.office_rules.specs.declared.decision.request.Order.{Order}
use Rattle.office_rules.specs.declared.decision.request.Request.{Request}
use Rattle.office_rules.specs.declared.decision.request.Request.TheVariants as requests
use Rattle.office_rules.specs.declared.office.row.Row.{Row}
use Rattle.asks.specs.declared.ask.Ask.{Ask}
use Rattle.asks.specs.declared.ask.Ask.TheVariants.{Import, Do, Receipt}
use Rattle.command_line.specs.Asked.{AskFor}
use Rattle.command_line.specs.declared.asked.Asked.{Asked}
use Rattle.command_line.specs.declared.asked.Asked.TheVariants.{Office}
use Rattle.command_line.specs.declared.office_words.AskWords.{AskWords}
use Rattle.command_line.specs.declared.office_words.AskWords.TheVariants as ask_words
use Rattle.command_line.specs.declared.place.Place.{Place}
use Rattle.command_line.specs.declared.place.Place.TheVariants.{File}

-- what is asked requests this: an import to add the rows that it reads, and a receipt the sale of
-- its number
abbrev pub AskRequests : Ask → Request → Type 0
AskRequests (Import kind csv) r = (rows : List Row) × (r ≡ requests.Import rows)
AskRequests (Do request) r = r ≡ request
AskRequests (Receipt number) r = r ≡ requests.Reprint number
AskRequests ask r = ⊥

-- so does an import by the path of a file; a list and an export request nothing
abbrev pub AskWordsRequest : AskWords → Request → Type 0
AskWordsRequest (ask_words.Import kind csv) r = (rows : List Row) × (r ≡ requests.Import rows)
AskWordsRequest (ask_words.Ask ask) r = AskRequests ask r
AskWordsRequest ask r = ⊥

-- it is requested of the office in a file
abbrev pub AsksFile : Place → AskWords → Request → Type 0
AsksFile (File file) ask r = AskWordsRequest ask r
AsksFile place ask r = ⊥

abbrev pub Requests : Asked → Request → Type 0
Requests (Office it) r = AsksFile it.place it.ask r
Requests asked r = ⊥

-- what `sell` asks of an office
abbrev pub selling : Order → AskWords
selling order = ask_words.Ask (Do (requests.Sell order))

-- the words ask for that
abbrev pub WordsRequest : List Text → Request → Type 0
WordsRequest words r = (asked : Asked) × AskFor words asked × Requests asked r
