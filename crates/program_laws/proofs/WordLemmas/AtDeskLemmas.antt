-- Words that ask a desk to sell an order ask it that.
use Rattle.std.proofs.Common.{◌≡◌, ◌⊎◌, Bool, List, [], inl, inr, refl, sym, subst}
use Rattle.clap.specs.Kinds.{IsAmong}
use Rattle.sqlite_trees.specs.declared.store.Store.{Ghosts}
use Rattle.sts_fields.specs.Text.{Text}
use Rattle.office_rules.specs.declared.decision.refusal.Refusal.TheVariants.{Memory}
use Rattle.office_rules.specs.declared.decision.request.Order.{Order}
use Rattle.command_line.specs.declared.address.Address.{Address}
use Rattle.command_line.specs.declared.asked.Asked.{Asked}
use Rattle.command_line.specs.declared.asked.Asked.TheVariants as asks
use Rattle.command_line.specs.declared.office_words.AskWords.{AskWords}
use Rattle.command_line.specs.declared.place.Place.{Place}
use Rattle.command_line.specs.declared.place.Place.TheVariants.{Desk, File}
use Rattle.desk_commands.specs.Exchanged.{Round}
use Rattle.vend_commands.specs.Run.{IsCarriedOut, IsOfficeAsked, IsProgramRun}
use Rattle.vend_commands.specs.Run.IsProgramRun.{answered, bad_word, explained, no_room}
use Rattle.vend_commands.specs.port.Machines.{Machine}
use Rattle.vend_ports.specs.print.Printed.{refusal_line}
use Rattle.vend_ports.specs.print.Told.{IsTold, Outputs}
use Rattle.vend_ports.specs.declared.command_end.CommandEnd.{CommandEnd}
use Rattle.vend_ports.specs.declared.command_end.CommandEnd.TheVariants.{Refused}
use Rattle.program_laws.specs.runs.Asked.{AsksAt, AsksDeskSo, AsksIn, WordsSellAtDesk}
use Rattle.program_laws.specs.runs.Words.{selling}
use Rattle.program_laws.proofs.WordLemmas.{AreLike, IsAskedAgain, asked_again}
use Rattle.program_laws.proofs.WordLemmas.OrderLemmas.{only_sells, sells_of_office}

module _ {S D R W : Type 0} (store : Ghosts S) (m : Machine D R W) (order : Order) (o : Outputs) (end : CommandEnd) where
  at_desk : (desk : Address) (place : Place) (ask : AskWords) (json : Bool) (done : IsOfficeAsked store m place ask json o end) → AreLike (Desk desk) place
      → ask ≡ selling order → (rounds : List Round) × AsksAt store m place ask json o end done (selling order) rounds
  at_desk desk (Desk other) ask json (untouched, shut, done) like is = (_, (sym is, refl))
  at_desk desk (File file) ask json done like is = absurd like

  -- what asks a desk that asks it that
  carried_sells : (desk : Address) (it : Asked) (done : IsCarriedOut store m it o end) → IsAskedAgain (Desk desk) (selling order) it
      → (rounds : List Round) × AsksIn store m it o end done (selling order) rounds
  carried_sells desk (asks.Office words) done (like, is) = at_desk desk words.place words.ask words.json done like is
  carried_sells desk it done none = absurd none

-- words that ask a desk to sell an order do, or there was no room for them
pub sells_at_desk : {S D R W : Type 0} {store : Ghosts S} {m : Machine D R W} (order : Order) (words : List Text) (o : Outputs) (end : CommandEnd)
    → WordsSellAtDesk words order → (run : IsProgramRun store m words o end)
    → ((rounds : List Round) × AsksDeskSo words o end run (selling order) rounds) ⊎ IsTold o [] (refusal_line Memory) Refused end
sells_at_desk {store = store} {m = m} order words o end (one, says, (desk, at), is) (answered it for done) =
    inl (carried_sells store m order o end desk it done (subst (λ (place : Place). IsAskedAgain place (selling order) it) at
    (asked_again (selling order) (sells_of_office order) (only_sells order) _ one it says.asks is for.asks)))
sells_at_desk order words o end (one, says, at, is) (bad_word idle none asks_none told) = absurd (asks_none (asks.Office one) says)
sells_at_desk order words o end (one, says, at, is) (explained idle kind text among some_text explains) =
    absurd (subst (IsAmong kind) says.no_fault among)
sells_at_desk order words o end wanted (no_room idle told) = inr told
