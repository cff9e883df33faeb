-- A run of `serve` told what a command printed, whose rounds one of the run's connections carried.
use Rattle.std.proofs.Common.{◌≡◌, ◌∙◌, ℕ, zero, suc, List, [], ◌∷◌, ◌++◌, inl, inr, refl, sym, ap, subst, append_assoc, arith}
use Rattle.std.specs.Prelude.{⊤, Contains}
use Rattle.std.proofs.lemmas.List.Elements.{Contains-append_right}
use Rattle.sqlite_disk.specs.declared.Disk as disk
use Rattle.sts_token.specs.Token.{BlockFunction}
use Rattle.office_rules.specs.Office.{IsOffice, Office}
use Rattle.office_rules.specs.declared.office.sale.Sale.{Sale}
use Rattle.vend_core.specs.Law.Life.{IsHanded, IsLife, LeadTo, Life}
use Rattle.vend_core.specs.Law.LifeLaws.{opened}
use Rattle.office_rules.specs.declared.decision.request.Order.{Order}
use Rattle.office_rules.specs.declared.decision.request.Request.TheVariants as requests
use Rattle.asks.specs.declared.ask.Ask.TheVariants.{Do}
use Rattle.command_line.specs.declared.office_words.AskWords.{AskWords}
use Rattle.command_line.specs.declared.office_words.AskWords.TheVariants as ask_words
use Rattle.desk_commands.specs.Exchanged.{Round}
use Rattle.vend_commands.specs.port.Machines.{Way}
use Rattle.vend_commands.specs.serving.Connections.{Service, service}
use Rattle.vend_ports.specs.print.Told.{Outputs}
use Rattle.vend_ports.specs.declared.command_end.CommandEnd.{CommandEnd}
use Rattle.program_laws.specs.AtDesk.{came_in, sent_in}
use Rattle.program_laws.specs.Courses.{AreLived, Course, IsNext, course}
use Rattle.program_laws.specs.SalesTold.{ConnectionsTell}
use Rattle.program_laws.specs.runs.Asked.{AsksDesk, CarriesIn, ConnectionsCarry, PrintsOfDesk, PrintsSaleOrWhy}
use Rattle.program_laws.specs.runs.Here.{Here, ProgramRun, use_of}
use Rattle.program_laws.specs.runs.Steps.{AreSoldFor, Goes, LivesIn, TellsIn}
use Rattle.program_laws.specs.runs.Uses.{RunUse, asking_life, connected, idle_life, many_lives, no_life, reading_life, unconnected, unseen}
use Rattle.program_laws.specs.runs.Words.{selling}
use Rattle.program_laws.proofs.AgainLemmas.{life_opens}
use Rattle.program_laws.proofs.LeadLemmas.{LeadingLaws}
use Rattle.program_laws.proofs.AtDeskLemmas.ListLemmas.{OnePage}
use Rattle.program_laws.proofs.AtDeskLemmas.OneLemmas.{DeskLaws}
use Rattle.program_laws.proofs.AskedLemmas.CommandLemmas.{PrintsOfRounds, SellsFor, command_said}
use Rattle.program_laws.proofs.AskedLemmas.LifeLemmas.{GoesFrom, goes_none, goes_through, life_from, opening_from, run_goes}
use Rattle.program_laws.proofs.AskedLemmas.PrintsLemmas.{map_prints}
use Rattle.program_laws.proofs.AskedLemmas.SaysLemmas.{sells_later}
use Rattle.program_laws.proofs.AskedLemmas.TalkLemmas.{talk}

-- ---- a life that goes on along connections is one of those that there are in the end

record IsAmong (all : List Life) (c : Course) : Type 0 where
  pub life : Life
  pub later : List Life
  pub goes : GoesFrom c.life life
  pub all_are : all ≡ c.over ++ life ∷ later

-- the life before the next one is among them, too
before_next : (all : List Life) (forward : BlockFunction) (old next : Course) → IsNext forward old next → IsAmong all next → IsAmong all old
before_next all forward old next (inl same) among = subst (IsAmong all) same among
before_next all forward old next (inr (o, left, is)) among =
    let it = subst (IsAmong all) is among in
    record {
      life = old.life;
      later = it.life ∷ it.later;
      goes = goes_none old.life old.life refl;
      all_are = it.all_are ∙ append_assoc old.over (old.life ∷ []) (it.life ∷ it.later);
    }

module _ (leading : LeadingLaws) (start : Office) (all : List Life) (o : Office) (begun : IsOffice start) (lead : LeadTo start all o) where
  -- what is among them goes on an office's life
  among_life : (c : Course) → IsAmong all c → IsLife c.life × IsOffice c.life.opening
  among_life c it =
      let opens = life_opens start c.over it.life it.later o (subst (λ (lives : List Life). LeadTo start lives o) it.all_are lead) in
      let office = leading.offices start c.over it.life.opening begun opens.0 in
      (life_from c.life it.life it.goes opens.1, subst IsOffice (opening_from c.life it.life it.goes) office)

  module _ {D R W : Type 0} (way : Way D R W) (forward : BlockFunction) (Sold : Life → Type 0) (AllSold : Type 0) (rounds : List Round) (out : Outputs)
      (end : CommandEnd)
      (prints : PrintsOfRounds Sold rounds out end)
      (in_all : (before after : Life) → GoesFrom before after → Contains all after → Sold before → AllSold) where
    connections_tell : (count : ℕ) (old new : Service D Course) (lived : AreLived way forward count old new) → IsAmong all new.books
        → ConnectionsCarry way forward count old new lived (sent_in rounds) (came_in rounds)
        → PrintsOfDesk (ConnectionsTell way forward count old new lived) out end × AllSold
    connections_tell zero old new same among carries = absurd carries
    connections_tell (suc count) old new (mid, before, (next, is, goes)) among carries =
        let along = run_goes (next.life, mid.answers) (new.books.life, new.answers) _ _ _ _ goes.end goes.run in
        let its : IsAmong all next = record {
          life = among.life;
          later = among.later;
          goes = goes_through next.life new.books.life among.life along among.goes;
          all_are = among.all_are ∙ ap (λ (over : List Life). over ++ among.life ∷ among.later) goes.over;
        } in
        let there : Contains all among.life =
        subst (λ (lives : List Life). Contains lives among.life) (sym among.all_are)
        (Contains-append_right new.books.over (among.life ∷ among.later) among.life (0, omega arith, refl)) in
        let Told : Sale → Type 0 = ConnectionsTell way forward (suc count) old new (mid, before, (next, is, goes)) in
        elim carries [
          | inl earlier ↦
              let it = connections_tell count old mid before (before_next all forward mid.books next is its) earlier in
              (map_prints (ConnectionsTell way forward count old mid before) Told out end (λ s told. inl told) it.0, it.1)
          | inr here ↦
              let it =
              prints (next.life, mid.answers) (new.books.life, new.answers) (among_life next its).1 (among_life new.books among).0 _
              (talk (next.life, mid.answers) (new.books.life, new.answers) _ _ _ _ goes.end goes.run (sent_in rounds) (came_in rounds) here) in
              (map_prints _ Told out end (λ s told. inr told) it.0, in_all new.books.life among.life among.goes there it.1)
        ]

-- what a command printed that asked to sell, of lives
abbrev SoldInAll : AskWords → List Life → Outputs → CommandEnd → Type 0
SoldInAll (ask_words.Ask (Do (requests.Sell order))) all o end = PrintsSaleOrWhy (AreSoldFor all order) o end
SoldInAll ask all o end = ⊤

sold_in_all : (ask : AskWords) (all : List Life) (o : Outputs) (end : CommandEnd) (before after : Life) → GoesFrom before after → Contains all after
    → SellsFor ask before o end → SoldInAll ask all o end
sold_in_all (ask_words.Ask (Do (requests.Sell order))) all o end before after goes there sells = elim (sells_later (Do (requests.Sell order)) before after o end goes sells) [
  | inl (s, prints, (at, asks, sold)) ↦ inl (s, prints, (after, there, at, asks, sold))
  | inr why ↦ inr why
]
sold_in_all ask all o end before after goes there sells = tt

-- what a run carried it told
use_tells : {M : Type 0} {g : disk.Ghosts M} (leading : LeadingLaws) (start : Office) (begun : IsOffice start) (o : Office) (made : RunUse g)
    (before own : List Life) → LeadTo start (before ++ own) o
    → (lived : LivesIn made before own) (ask : AskWords) (rounds : List Round) (out : Outputs) (end : CommandEnd)
    → PrintsOfRounds (λ life. SellsFor ask life out end) rounds out end
    → CarriesIn made before own lived (sent_in rounds) (came_in rounds)
    → PrintsOfDesk (TellsIn made before own lived) out end × SoldInAll ask (before ++ own) out end
use_tells leading start begun o unseen before own lead lived ask rounds out end prints carries = absurd carries
use_tells leading start begun o (unconnected found left) before own lead lived ask rounds out end prints carries = absurd carries
use_tells leading start begun o (connected image no_life last) before own lead lived ask rounds out end prints carries = absurd carries
use_tells leading start begun o (connected image (idle_life transform) last) before own lead lived ask rounds out end prints carries = absurd carries
use_tells leading start begun o (connected image (reading_life moment reading) last) before own lead lived ask rounds out end prints carries =
    absurd carries
use_tells leading start begun o (connected image (asking_life q) last) before own lead lived ask rounds out end prints carries = absurd carries
use_tells leading start begun o (connected image (many_lives way forward count door answers last_door left) last) before own lead
    (office, ends, next, lived, follows, are) ask rounds out end prints carries =
    let all = before ++ own in
    let among : IsAmong all next = record { life = next.life; later = []; goes = goes_none next.life next.life refl; all_are = are } in
    connections_tell leading start all o begun lead way forward (λ life. SellsFor ask life out end) (SoldInAll ask all out end) rounds out end prints
    (sold_in_all ask all out end) count (service door (course before (opened forward office)) answers) (service last_door ends left) lived
    (before_next all forward ends next follows among) carries

module _ {P D R W Q E S T : Type 0} (here : Here P D R W) (there : Here Q E S T) (laws : DeskLaws) (one : OnePage) (leading : LeadingLaws) (start : Office)
    (run : ProgramRun here) (lives more : List Life) (command : ProgramRun there) where
  both_told : (ask : AskWords) (rounds : List Round) → IsOffice start → (goes : Goes here start run lives more)
      → AsksDesk there command ask rounds
      → CarriesIn (use_of here run) lives more goes.lived (sent_in rounds) (came_in rounds)
      → PrintsOfDesk (TellsIn (use_of here run) lives more goes.lived) command.o command.end × SoldInAll ask (lives ++ more) command.o command.end
  both_told ask rounds begun goes asks carries =
      use_tells leading start begun goes.lead.0 (use_of here run) lives more goes.lead.1 goes.lived ask rounds command.o command.end
      (command_said laws one command.words command.o command.end command.ran ask rounds asks) carries

  -- What a command printed of a desk that a run served is what that run told, and so was handed out.
  pub desk_told : (ask : AskWords) (rounds : List Round) → IsOffice start → (goes : Goes here start run lives more)
      → AsksDesk there command ask rounds
      → CarriesIn (use_of here run) lives more goes.lived (sent_in rounds) (came_in rounds)
      → PrintsOfDesk (λ s. TellsIn (use_of here run) lives more goes.lived s × IsHanded (lives ++ more) s) command.o command.end
  desk_told ask rounds begun goes asks carries =
      let made = use_of here run in
      map_prints (TellsIn made lives more goes.lived) (λ s. TellsIn made lives more goes.lived s × IsHanded (lives ++ more) s) command.o command.end
      (λ s told. (told, goes.handed s (inr told))) (both_told ask rounds begun goes asks carries).0

  -- Where it asked to sell it printed the receipt of a sale that these lives sold for the order.
  pub desk_sold : (order : Order) (rounds : List Round) → IsOffice start → (goes : Goes here start run lives more)
      → AsksDesk there command (selling order) rounds
      → CarriesIn (use_of here run) lives more goes.lived (sent_in rounds) (came_in rounds)
      → PrintsSaleOrWhy (AreSoldFor (lives ++ more) order) command.o command.end
  desk_sold order rounds begun goes asks carries = (both_told (selling order) rounds begun goes asks carries).1
