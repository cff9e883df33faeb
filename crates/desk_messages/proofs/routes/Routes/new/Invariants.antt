use Rattle.std.proofs.Common.{◌≡◌, [], take}
use Rattle.std.specs.List.{fold}
use Rattle.asks.specs.Endpoint.{all_kinds}
use Rattle.desk_messages.specs.Routes.{with_kind}
use Rattle.desk_messages.proofs.routes.Routes.new.Given as goal

abbrev pub invariant-loop-kind : goal.invariant-loop-kind
invariant-loop-kind l = l.router ≡ fold with_kind [] (take l.kind-index all_kinds)
