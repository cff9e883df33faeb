use Rattle.std.proofs.Common.{◌≡◌, ◌∙◌, ℕ, ℤ, pos, of_z, to_z, w64, List, [], ◌∷◌, ◌++◌, Ok, ap, append-nil, inl, inr, refl, sym, subst, arith}
use Rattle.std.proofs.lemmas.Int.{ints, to_z-of_z}
use Rattle.sqlite.proofs.Callers.{memory_is_clean}
use Rattle.asks.specs.declared.lookup.Lookup.TheVariants.{SaleOfRef}
use Rattle.books.specs.Keeps.{seen}
use Rattle.desk_client.specs.Sent.{ask_text, wanted_by}
use Rattle.desk_client.specs.Reply.{IsReply}
use Rattle.desk_client.specs.declared.told.Granted.TheVariants as grants
use Rattle.desk_client.specs.declared.told.Told.TheVariants as tells
use Rattle.office_rules.specs.declared.decision.answer.Answer.TheVariants.{Sold}
use Rattle.papers.specs.Receipt.{receipt_of}
use Rattle.program_laws.specs.runs.Asked.{WordsSellAtDesk}
use Rattle.sts_fields.specs.Text.{Text}
use Rattle.vend_core.specs.Law.Life.{IsLife, present}
use Rattle.vend_ports.specs.declared.command_end.CommandEnd.TheVariants.{Done, Refused}
use Rattle.law_witnesses.specs.Asking.{ask_to_sell}
use Rattle.law_witnesses.specs.Offices.{life_of}
use Rattle.law_witnesses.specs.declared.asking.Line.{Line}
use Rattle.law_witnesses.proofs.AskingLemmas.{HasSoldFor, came_front, desk_replied, for_told, has_sold, sale_told, same_receipt}
use Rattle.law_witnesses.proofs.OfficeLemmas.{finds_by_rules, leads}
use Rattle.law_witnesses.proofs.RunLemmas.{printed_of}
use Rattle.law_witnesses.proofs.StandingLemmas.{found_under, handed_in}
use Rattle.law_witnesses.proofs.asking.receipt_at_desk.Goals as goal

pub returns-in-Some-sale_of : goal.returns-in-Some-sale_of
returns-in-Some-sale_of c =
    let order = c.in-Some.order in
    let ask = ask_to_sell order in
    let moment = c.args.moment in
    let law = c.run_law.ensures in
    let last = c.secs.ensures.range.1 in
    let secs = ap (λ (z : ℤ). to_z w64 (of_z w64 z)) c.secs.ensures.value ∙ to_z-of_z w64 (pos moment) (omega (arith, ints)) in
    let it = c.in-Some-ran.ensures {u = tt} in
    let Says : List Text → Type 0 = λ ws. WordsSellAtDesk ws order in
    let says = subst Says (sym it.by_words) (c.in-Some.ensures {u = tt}) in
    let done : it.run.end ≡ Done = it.ended ∙ c.in-Done.is in
    let old = c.in-Some-served.books in
    let behind = c.answered_at.new.books in
    let served = c.in-Some-served.ensures {u = tt} in
    let life = life_of served.forward c.args.ats.now c.in-Some-served._replies.items in
    let text = c.in-Some-answered_at.text.items in
    let sale = c.in-Some-sale_of.sale in
    let unread : Line → List ℕ = λ line. line.unread.now in
    let sent : Line → List ℕ = λ line. line.sent.items in
    elim (law.sells_at_desk it.run order says) [
      | inl asks ↦
          let replied = desk_replied _ it order asks.0 asks.1 c.in-Done.is in
          let front = came_front _ unread sent _ replied.desk (ask_text ask) replied.came text replied.had
          (λ line called. called ∙ c.calling_ports.ensures ∙ c.deref-3.ensures.value) in
          let told = sale_told order replied.json replied.came replied.told it.run.o it.run.end replied.is replied.telling done in
          let whole = c.in-Some-answer_in.ensures {u = tt} in
          let ReplyOf : List ℕ → Type 0 = λ bytes. IsReply (wanted_by ask) bytes c.in-Some-answer_in._told in
          let whole_reply : ReplyOf (replied.came ++ front.0) = subst ReplyOf (c.deref-2.ensures.value ∙ front.1) whole.reply in
          let none =
          c.told_law.ensures.alone (wanted_by ask) replied.came front.0 (tells.Granted (grants.Sale told.0)) c.in-Some-answer_in._told told.1 whole_reply in
          let all : text ≡ replied.came = front.1 ∙ ap (λ (more : List ℕ). replied.came ++ more) none ∙ append-nil replied.came in
          let SaleIn : List ℕ → Type 0 = λ bytes. IsReply (wanted_by ask) bytes (tells.Granted (grants.Sale told.0)) in
          let sold : HasSoldFor order told.0 (seen behind) life.opening =
          has_sold c.at_desk_law.ensures.line.one IsLife c.at_desk_law.ensures.handed.sold order moment _ secs
          c.secs.ensures.range c.keeps_rules.ensures (seen old) (seen behind) life served.keeps.kept
          (c.history_law.ensures.offices [] life.opening served.keeps.led) (λ after kept. (kept (memory_is_clean behind.conn)).is_life) c.deref.result.now text
          (c.deref.ensures.value ∙ c.in-Ok.ensures {u = tt}) (c.in-Some-answered_at.ensures {u = tt}) told.0 (subst SaleIn (sym all) told.1) in
          let o = present sold.life in
          let lead = leads sold.life (sold.kept (memory_is_clean behind.conn)).is_life (sold.opens ∙ served.keeps.led) in
          let handed = handed_in sold.life (record { request = sold.sold.0; reply = Ok (Sold sold.sale) }) sold.sale sold.sold.2 refl in
          let there = c.history_law.ensures.stands (sold.life ∷ []) o sold.sale lead (sold.life, (0, omega arith, refl), handed) in
          let finds = finds_by_rules o moment (SaleOfRef order.operator order.order_ref) c.look_up.result c.in-Ok-look_up.found c.in-Ok-look_up.is
          (c.look_up.ensures.says.of_life (memory_is_clean c.look_up.new.self.conn) sold.life sold.kept) in
          let same =
          found_under c.store_law.ensures.sale_of_ref o moment order sold.sale sale (c.history_law.ensures.offices (sold.life ∷ []) o lead) there
          (for_told order told.0 sold.sale sold.same told.2) (ap Ok (sym (c.in-Some-sale_of.ensures {u = tt})) ∙ finds) in
          printed_of _ law it told.0 told.3 ∙ same_receipt told.0 sold.sale sold.same ∙ ap receipt_of (sym same)
      | inr told ↦ absurd (let end_is : it.run.end ≡ Refused = told.2 in cc)
    ]
