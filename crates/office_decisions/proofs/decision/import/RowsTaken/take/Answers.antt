use Rattle.std.proofs.Common.{◌≡◌, ◌∙◌, ◌&&◌, ◌==◌, ap, sym, ◌++◌, ◌∷◌, [], List, Bool, Some, bytes_eq, if◌then◌else◌, arith}
use Rattle.tariff.specs.declared.step.Step.{Step}
use Rattle.office_rules.specs.Decision.Edits.{with_rows}
use Rattle.office_rules.specs.Office.{Office}
use Rattle.office_decisions.specs.RowsTaken.{dated_under, under}
use Rattle.office_rules.specs.declared.office.row.Row.{Row}
use Rattle.office_rules.specs.declared.office.row.Row.TheVariants as kinds
use Rattle.office_decisions.proofs.TakenLemmas.{found_put, put_dated, put_under, with_rows-push}
use Rattle.office_decisions.proofs.decision.import.RowsTaken.take.Goals as goal

pub invariant_of-self-in-Tariff : goal.invariant_of-self-in-Tariff
invariant_of-self-in-Tariff c =
    let now = c.args.self.now in
    let name = c.in-Tariff.name in
    let row : Row = kinds.Tariff name c.in_ok-clone-in-Tariff.field-0 in
    let granted = c.push.ensures.succeeds (omega (arith, c.in_ok-reserve.ensures.ok, c.reserve.ensures.len)) in
    let pushed : c.push.new.self.items ≡ now.rows.items ++ row ∷ [] =
    c.push.ensures.items ∙ ap (λ (b : Bool). if b then c.reserve.new.self.items ++ row ∷ [] else c.reserve.new.self.items) granted
    ∙ ap (λ (l : List Row). l ++ row ∷ []) c.reserve.ensures.items in
    record {
      tariffs_found = λ o q.
          ap (λ (l : List Row). (with_rows l o).tariffs q) pushed ∙ ap (λ (p : Office). p.tariffs q) (with_rows-push now.rows.items row o)
          ∙ found_put (bytes_eq q name) c.in_ok-clone-in-Tariff.field-0 (under now.tariffs q) ((with_rows now.rows.items o).tariffs q)
          (o.tariffs q) (under c.insert.new.self q)
          (put_under now.tariffs c.insert.new.self c.as_bytes.result _ name c.in_ok-insert-in-Tariff.ensures.updates c.as_bytes.ensures.view q
          ∙ ap (λ (s : List Step). if bytes_eq q name then Some s else under now.tariffs q) (sym c.in_ok-clone-in-Tariff.ensures.cases))
          (now.tariffs_found o q);
      dated_found = λ o q d.
          ap (λ (l : List Row). (with_rows l o).dated_steps q d) pushed ∙ ap (λ (p : Office). p.dated_steps q d) (with_rows-push now.rows.items row o)
          ∙ now.dated_found o q d;
      meters_found = λ o q.
          ap (λ (l : List Row). (with_rows l o).meters q) pushed ∙ ap (λ (p : Office). p.meters q) (with_rows-push now.rows.items row o)
          ∙ now.meters_found o q;
    }

pub invariant_of-self-in-Steps : goal.invariant_of-self-in-Steps
invariant_of-self-in-Steps c =
    let now = c.args.self.now in
    let name = c.in-Steps.name in
    let day = c.in-Steps.day in
    let own = c.in_ok-clone-in-Steps.field-0 in
    let row : Row = kinds.Steps name day own in
    let granted = c.push-in-Steps.ensures.succeeds (omega (arith, c.in_ok-reserve.ensures.ok, c.reserve.ensures.len)) in
    let pushed : c.push-in-Steps.new.self.items ≡ now.rows.items ++ row ∷ [] =
    c.push-in-Steps.ensures.items ∙ ap (λ (b : Bool). if b then c.reserve.new.self.items ++ row ∷ [] else c.reserve.new.self.items) granted
    ∙ ap (λ (l : List Row). l ++ row ∷ []) c.reserve.ensures.items in
    record {
      tariffs_found = λ o q.
          ap (λ (l : List Row). (with_rows l o).tariffs q) pushed ∙ ap (λ (p : Office). p.tariffs q) (with_rows-push now.rows.items row o)
          ∙ now.tariffs_found o q;
      dated_found = λ o q d.
          ap (λ (l : List Row). (with_rows l o).dated_steps q d) pushed ∙ ap (λ (p : Office). p.dated_steps q d) (with_rows-push now.rows.items row o)
          ∙ found_put (bytes_eq q name && (d == day)) own (dated_under now.dated_steps q d) ((with_rows now.rows.items o).dated_steps q d)
          (o.dated_steps q d) (dated_under c.insert-in-Steps.new.self q d)
          (put_dated now.dated_steps c.insert-in-Steps.new.self (c.as_bytes-in-Steps.result, c.days.result) _ name day
          c.in_ok-insert-in-Steps.ensures.updates c.as_bytes-in-Steps.ensures.view c.days.ensures.value q d
          ∙ ap (λ (s : List Step). if bytes_eq q name && (d == day) then Some s else dated_under now.dated_steps q d)
          (sym c.in_ok-clone-in-Steps.ensures.cases))
          (now.dated_found o q d);
      meters_found = λ o q.
          ap (λ (l : List Row). (with_rows l o).meters q) pushed ∙ ap (λ (p : Office). p.meters q) (with_rows-push now.rows.items row o)
          ∙ now.meters_found o q;
    }

pub invariant_of-self-in-Meter : goal.invariant_of-self-in-Meter
invariant_of-self-in-Meter c =
    let now = c.args.self.now in
    let number = c.in-Meter.number in
    let row : Row = kinds.Meter number c.in-Meter.meter in
    let granted = c.push-in-Meter.ensures.succeeds (omega (arith, c.in_ok-reserve.ensures.ok, c.reserve.ensures.len)) in
    let pushed : c.push-in-Meter.new.self.items ≡ now.rows.items ++ row ∷ [] =
    c.push-in-Meter.ensures.items ∙ ap (λ (b : Bool). if b then c.reserve.new.self.items ++ row ∷ [] else c.reserve.new.self.items) granted
    ∙ ap (λ (l : List Row). l ++ row ∷ []) c.reserve.ensures.items in
    record {
      tariffs_found = λ o q.
          ap (λ (l : List Row). (with_rows l o).tariffs q) pushed ∙ ap (λ (p : Office). p.tariffs q) (with_rows-push now.rows.items row o)
          ∙ now.tariffs_found o q;
      dated_found = λ o q d.
          ap (λ (l : List Row). (with_rows l o).dated_steps q d) pushed ∙ ap (λ (p : Office). p.dated_steps q d) (with_rows-push now.rows.items row o)
          ∙ now.dated_found o q d;
      meters_found = λ o q.
          ap (λ (l : List Row). (with_rows l o).meters q) pushed ∙ ap (λ (p : Office). p.meters q) (with_rows-push now.rows.items row o)
          ∙ found_put (bytes_eq q number) c.in-Meter.meter (under now.meters q) ((with_rows now.rows.items o).meters q) (o.meters q)
          (under c.insert-in-Meter.new.self q)
          (put_under now.meters c.insert-in-Meter.new.self c.as_bytes-in-Meter.result _ number c.in_ok-insert-in-Meter.ensures.updates
          c.as_bytes-in-Meter.ensures.view q)
          (now.meters_found o q);
    }
