use Rattle.std.proofs.Common.{◌≡◌, [], ◌∷◌, false, true, refl, subst, sym}
use Rattle.std.specs.Prelude.{IsTrue}
use Rattle.std.proofs.Math.Logic.{∥∥₁_elim}
use denote.Struct.Props.{props}
use Rattle.command_line.specs.Transform.{forward_of}
use Rattle.office_commands.specs.office.Visited.{seen_in}
use Rattle.office_rules.specs.Office.{empty_office}
use Rattle.papers.specs.Receipt.{receipt_of}
use Rattle.program_laws.specs.runs.Steps.{IsOf}
use Rattle.sqlite_disk.specs.declared.memory.Memory.{Memory}
use Rattle.sqlite_wal.specs.Recovery.{Image}
use Rattle.law_witnesses.proofs.FileLemmas.{clean_files}
use Rattle.law_witnesses.proofs.KeptLemmas.{same_image}
use Rattle.law_witnesses.proofs.SellLemmas.{printed_again}
use Rattle.law_witnesses.proofs.StandingLemmas.{sold_handed}
use Rattle.law_witnesses.proofs.commands.receipt_by_sell.Goals as goal

pub returns-in-Some-printed_by_sell : goal.returns-in-Some-printed_by_sell
returns-in-Some-printed_by_sell c =
    let all : (it : Memory) → IsTrue true = λ it. refl in
    let order = c.args.order.now in
    let sale = c.in-Some.sale in
    let files = c.in-Some.files in
    let left = (c.in-Some.ensures {u = tt}).left in
    let lives = left.life ∷ [] in
    let file = c.new-office.result in
    let text = c.in-Some-printed_by_sell.text.items in
    let place = c.place_at-place.result in
    let printed = c.in-Some-printed_by_sell.ensures {u = tt} in
    let is_for = c.is_sale_for.ensures c.if-not-is_sale_for.false in
    let Of : Image → Type 0 = λ image. IsOf empty_office lives image in
    let of = subst Of (sym (same_image file.log file.db files c.new-office.ensures.log c.new-office.ensures.db)) left.found.0 in
    let one : IsProp (text ≡ receipt_of sale) = hlevel props in
    ∥∥₁_elim of one (λ it.
    let o = it.office in
    let ends = c.sell_law.ensures.done file printed.0 _ c.new-clock.result place order false o printed.1.o it.stands printed.1.did in
    let sold = ends.2 in
    printed_again c.office_law.ensures.again text printed.1 (forward_of place.transform) o order ends.0 (seen_in sold.0) sale
    (c.history_law.ensures.offices lives o it.lead) (c.history_law.ensures.stands lives o sale it.lead (sold_handed lives order sale left.sold)) is_for
    (sold.2 (clean_files all sold.0.conn)))
