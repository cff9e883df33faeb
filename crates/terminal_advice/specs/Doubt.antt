-- What comes behind a sale where this computer's clock looks wrong.
use Rattle.std.specs.Prelude.{◌≡◌, ◌⊎◌, ◌<◌, ◌+◌, ◌++◌, ◌∷◌, [], ⊤, ℕ, Bool, true, false, List}
use Rattle.std.specs.Prelude.{None, codes}
use Rattle.std.specs.Io.KnownBytes.{Keeps}
use Rattle.sts_fields.specs.Text.{Text}
use Rattle.papers.specs.Text.{time_text}
use Rattle.office_rules.specs.declared.decision.request.Request.TheVariants.{Sell}
use Rattle.asks.specs.declared.ask.Ask.TheVariants.{Do}
use Rattle.command_line.specs.Asked.{AskFor}
use Rattle.command_line.specs.declared.asked.Asked.{Asked}
use Rattle.command_line.specs.declared.asked.Asked.TheVariants.{Office}
use Rattle.command_line.specs.declared.office_words.AskWords.{AskWords}
use Rattle.command_line.specs.declared.office_words.AskWords.TheVariants.{Ask}
use Rattle.command_line.specs.declared.place.Place.{Place}
use Rattle.command_line.specs.declared.place.Place.TheVariants.{File, Desk}
use Rattle.vend_ports.specs.print.Printed.{line_of}
use Rattle.vend_ports.specs.print.Sink.{Held}
use Rattle.vend_ports.specs.print.Told.{IsTaken}
use Rattle.terminal_advice.specs.declared.doubt.Doubt.{Doubt}

-- the last sale, of this moment, is more than five minutes later than now, or more than seven days
-- earlier
abbrev pub AreFarApart : (last now : ℕ) → Type 0
AreFarApart last now = (now + 300 < last) ⊎ (last + 604800 < now)

-- the line that says so of two moments, as they are written
abbrev pub moments_line : (last now : Text) → Text
moments_line last now =
    line_of (codes "The last sale before this was at" ∷ last
    ∷ codes "and this computer's clock says" ∷ now ∷ codes "Is the clock right?" ∷ [])

abbrev pub doubt_line : (last now : ℕ) → Text
doubt_line last now = moments_line (time_text last ++ codes ",") (time_text now ++ codes ".")

-- what an office is asked is an order
abbrev pub IsOrder : AskWords → Type 0
IsOrder (Ask (Do (Sell order))) = ⊤
IsOrder ask = ⊥

-- the office is in the file of this name, and is asked by this computer's clock
abbrev pub IsFileByClock : Place → (path : Text) → Type 0
IsFileByClock (File file) path = (file.at ≡ None) × (file.path.now ≡ path)
IsFileByClock (Desk address) path = ⊥

-- what is asked sells from the file of this name, by this computer's clock
abbrev pub SellsByClock : Asked → (path : Text) → Type 0
SellsByClock (Office words) path = IsOrder words.ask × IsFileByClock words.place path
SellsByClock asked path = ⊥

-- the words ask for that
abbrev pub AskToSell : List Text → (path : Text) → Type 0
AskToSell words path = (asked : Asked) × AskFor words asked × SellsByClock asked path

-- The words sell from a file by the clock. A look found that its last sale is of this moment, and
-- that it is this moment now: they are far apart.
pub record IsDoubted (is_last : (path : Text) → ℕ → Type 0) (is_now : ℕ → Type 0)
    (words : List Text) (doubt : Doubt) : Type 0 where
  pub path : Text
  pub asked : AskToSell words path
  pub last : is_last path doubt.last
  pub now : is_now doubt.now
  pub apart : AreFarApart doubt.last doubt.now

-- its line comes behind what was held, or as much of it as the writer took
abbrev pub IsSaid : Doubt → Held → Held → Type 0
IsSaid doubt old new =
    (failed : Bool) × IsTaken false failed old new (doubt_line doubt.last doubt.now)

-- at a terminal the line of what is doubted may come; elsewhere nothing does
abbrev pub Doubts : (at_terminal : Bool) → (Is : Doubt → Type 0) → Held → Held → Type 0
Doubts false Is old new = Keeps old new
Doubts true Is old new = Keeps old new ⊎ ((doubt : Doubt) × Is doubt × IsSaid doubt old new)
