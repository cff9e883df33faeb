use Rattle.std.proofs.Common.{◌≡◌, ◌∙◌, [], ◌∷◌, List, Option, Some, Ok, option_map, true, inl, refl, ap, sym, subst}
use Rattle.std.specs.Prelude.{IsTrue}
use Rattle.std.proofs.Math.Logic.{∥∥₁_elim}
use denote.Struct.Props.{props}
use Rattle.asks.specs.declared.lookup.Lookup.TheVariants.{SaleOfRef}
use Rattle.books.specs.Headline.{with_last}
use Rattle.command_line.specs.Transform.{forward_of}
use Rattle.conversation.specs.Uses.{Use}
use Rattle.command_line.specs.declared.transform.Shipped.TheVariants.{Plain}
use Rattle.office_commands.specs.office.Visited.{seen_in}
use Rattle.program_laws.specs.Courses.{KeepsLast, course}
use Rattle.sqlite_disk.specs.declared.memory.Memory.{Memory}
use Rattle.vend_commands.specs.serving.Connections.{service}
use Rattle.vend_core.specs.Law.Life.{present}
use Rattle.vend_core.specs.Law.LifeLaws.{opened}
use Rattle.law_witnesses.specs.Recorded.{uses_in}
use Rattle.law_witnesses.specs.declared.recorded.Recorded.{Recorded}
use Rattle.law_witnesses.proofs.FileLemmas.{clean_files}
use Rattle.law_witnesses.proofs.OfficeLemmas.{finds_by_rules}
use Rattle.law_witnesses.proofs.ServingLemmas.{all_held, recorded_read}
use Rattle.law_witnesses.proofs.StandingLemmas.{found_under, opened_handed, sold_handed}
use Rattle.law_witnesses.proofs.serving.found_behind_desk.Goals as goal

pub returns-in-Some-sale_of-clause-sale : goal.returns-in-Some-sale_of-clause-sale
returns-in-Some-sale_of-clause-sale c =
    let all : (it : Memory) → IsTrue true = λ it. refl in
    let order = c.args.order.now in
    let sale = c.in-Some.sale in
    let again = c.in-Some-sale_of.again in
    let left = (c.in-Some.ensures {u = tt}).left in
    let lives = left.life ∷ [] in
    let is_for = c.is_sale_for.ensures c.if-not-is_sale_for.false in
    let old = c.in-Ok.books in
    let began = (c.in-Ok.ensures {u = tt}).opened.books in
    let new = c.in-Some-all_served.left in
    let forward = forward_of Plain in
    let were = c.serve-served.ensures in
    let held = all_held _ _ forward seen_in _ 1 _ _ _ were.0 c.serve-served.result new (c.in-Some-all_served.ensures {u = tt}) were.1 in
    let clean = clean_files all new.conn in
    let one : IsProp (again ≡ sale) = hlevel props in
    ∥∥₁_elim left.found.0 one (λ it.
    let o = it.office in
    let office = c.history_law.ensures.offices lives o it.lead in
    let stands = c.history_law.ensures.stands lives o sale it.lead (sold_handed lives order sale left.sold) in
    let start = course [] (opened forward o) in
    let keeps : KeepsLast o start.over start.life (seen_in old) =
    record { led = refl; kept = began.opens o it.stands; clean = clean_files all old.conn } in
    ∥∥₁_elim (c.serve_law.ensures o c.new-clock.result forward 1 _ (service _ new _) were.0 start held clean keeps) one (λ on.
    let last = on.0 in
    let kept = on.2.kept in
    let here = kept clean in
    let p = present last.life in
    let led = c.lives_law.ensures.goes_on o last.over last.life last.life.opening p on.2.led here.is_life refl (inl refl) in
    let later = with_last last.over last.life in
    let there = c.lives_law.ensures.stands o later p sale office led (opened_handed o last.over last.life sale on.2.led stands) in
    let finds = finds_by_rules p c.args.moment (SaleOfRef order.operator order.order_ref) c.look_up.result c.in-Ok-look_up.found c.in-Ok-look_up.is
    (c.look_up.ensures.says.of_life (clean_files all c.look_up.new.self.conn) last.life kept) in
    found_under c.store_law.ensures.sale_of_ref p c.args.moment order sale again (c.lives_law.ensures.offices o later p office led) there is_for
    (ap Ok (sym (c.in-Some-sale_of.ensures {u = tt})) ∙ finds)))

pub returns-in-Some-sale_of-clause-uses : goal.returns-in-Some-sale_of-clause-uses
returns-in-Some-sale_of-clause-uses c =
    let told : Option Recorded → Option (List Use) = option_map (λ line. uses_in line.made) in
    let were = c.serve-served.ensures in
    let held = all_held _ _ (forward_of Plain) seen_in _ 1 _ _ _ were.0 c.serve-served.result c.in-Some-all_served.left
    (c.in-Some-all_served.ensures {u = tt}) were.1 in
    recorded_read _ _ _ seen_in _ (service _ c.in-Some-all_served.left _) were.0 (uses_in c.in-Some-take.line.made)
    (λ door held reader writer line accepts. ap Some accepts.3)
    (λ held read written line end ends. ap told (sym ends ∙ sym c.take.ensures.value ∙ c.in-Some-take.is)) held
