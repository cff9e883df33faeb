use Rattle.std.proofs.Common.{◌≡◌, ◌≤◌, ◌&&◌, filter, map, take, bytes_eq}
use Rattle.std.specs.Option.{ForSome}
use Rattle.sts_fields.specs.Tid.{last_tid}
use Rattle.sts_fields.specs.Base.{base_eq}
use Rattle.office_rules.specs.Office.Lookup.{greatest_of}
use Rattle.vend_core.proofs.lists.look_up.last_tid.Given as goal

abbrev pub invariant-loop-sale : goal.invariant-loop-sale
invariant-loop-sale l = record {
  greatest : l.last ≡ greatest_of (map (λ s. s.tid) (filter (λ s. bytes_eq s.meter l.meter && base_eq s.base l.base) (take l.sale-index l.sales)));
  range : ForSome l.last (λ tid. tid ≤ last_tid);
}
