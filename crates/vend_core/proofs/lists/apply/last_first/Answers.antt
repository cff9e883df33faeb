use Rattle.std.proofs.Common.{◌∙◌, ap, sym, ◌++◌, ◌∷◌, [], Option}
use Rattle.std.proofs.lemmas.List.{append-nil}
use Rattle.std.specs.Option.{option_to_list}
use Rattle.vend_core.specs.Lists.PlainRows.{dated_steps_of, meters_of, tariffs_of}
use Rattle.office_rules.specs.declared.office.row.Row.{Row}
use Rattle.office_rules.specs.declared.office.row.Row.TheVariants as kinds
use Rattle.vend_core.proofs.ListsLemmas.PlainRowLemmas.{dated_steps_of-push, meters_of-push, moved, tariffs_of-push}
use Rattle.vend_core.proofs.lists.apply.last_first.Goals as goal

pub loop-row-preserved-in-Continue-1 : goal.loop-row-preserved-in-Continue-1
loop-row-preserved-in-Continue-1 c =
    let all = c.args.rows in
    let before = c.loop-row.rest.items in
    let after = c.pop.new.self.items in
    let row : Row = kinds.Tariff c.in-Tariff.name c.in-Tariff.steps in
    let popped = c.pop.ensures.items ∙ ap (λ (r : Option Row). after ++ option_to_list r) c.in-Some.is ∙ ap (λ (row : Row). after ++ row ∷ []) c.in-Tariff.is in
    let ds = c.loop-row.dated_steps.items in
    let ms = c.loop-row.meters.items in
    record {
      tariffs = moved tariffs_of tariffs_of-push all before after c.loop-row.tariffs.items c.push.new.self.items row popped
          c.in_ok-push-in-Tariff.ensures.items c.loop-row.invariant.tariffs;
      dated_steps = moved dated_steps_of dated_steps_of-push all before after ds ds row popped (sym (append-nil ds)) c.loop-row.invariant.dated_steps;
      meters = moved meters_of meters_of-push all before after ms ms row popped (sym (append-nil ms)) c.loop-row.invariant.meters;
    }

pub loop-row-preserved-in-Continue-branch-2 : goal.loop-row-preserved-in-Continue-branch-2
loop-row-preserved-in-Continue-branch-2 c =
    let all = c.args.rows in
    let before = c.loop-row.rest.items in
    let after = c.pop.new.self.items in
    let row : Row = kinds.Steps c.in-Steps.name c.in-Steps.day c.in-Steps.steps in
    let popped = c.pop.ensures.items ∙ ap (λ (r : Option Row). after ++ option_to_list r) c.in-Some.is ∙ ap (λ (row : Row). after ++ row ∷ []) c.in-Steps.is in
    let ts = c.loop-row.tariffs.items in
    let ms = c.loop-row.meters.items in
    record {
      tariffs = moved tariffs_of tariffs_of-push all before after ts ts row popped (sym (append-nil ts)) c.loop-row.invariant.tariffs;
      dated_steps = moved dated_steps_of dated_steps_of-push all before after c.loop-row.dated_steps.items c.push-in-Steps.new.self.items
          row popped c.in_ok-push-in-Steps.ensures.items c.loop-row.invariant.dated_steps;
      meters = moved meters_of meters_of-push all before after ms ms row popped (sym (append-nil ms)) c.loop-row.invariant.meters;
    }

pub loop-row-preserved : goal.loop-row-preserved
loop-row-preserved c =
    let all = c.args.rows in
    let before = c.loop-row.rest.items in
    let after = c.pop.new.self.items in
    let row : Row = kinds.Meter c.in-Meter.number c.in-Meter.meter in
    let popped = c.pop.ensures.items ∙ ap (λ (r : Option Row). after ++ option_to_list r) c.in-Some.is ∙ ap (λ (row : Row). after ++ row ∷ []) c.in-Meter.is in
    let ts = c.loop-row.tariffs.items in
    let ds = c.loop-row.dated_steps.items in
    record {
      tariffs = moved tariffs_of tariffs_of-push all before after ts ts row popped (sym (append-nil ts)) c.loop-row.invariant.tariffs;
      dated_steps = moved dated_steps_of dated_steps_of-push all before after ds ds row popped (sym (append-nil ds)) c.loop-row.invariant.dated_steps;
      meters = moved meters_of meters_of-push all before after c.loop-row.meters.items c.push-in-Meter.new.self.items row popped
          c.in_ok-push-in-Meter.ensures.items c.loop-row.invariant.meters;
    }
