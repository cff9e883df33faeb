use Rattle.std.proofs.Common.{rules, [], slice_index_or, refl}
use Rattle.csv.specs.Records.{fields_of}
use Rattle.papers.specs.File.{IsTariffText}
use Rattle.office_rules.specs.Name.{IsName}
use Rattle.papers.proofs.ImportLemmas.{steps-outside, steps-take}
use Rattle.papers.proofs.read_row.read_steps.Goals as goal

pub returns-in-Err : goal.returns-in-Err
returns-in-Err c =
    let named : IsName (slice_index_or (fields_of c.args.raw.now) 0 []) = search rules in
    let wrong : ¬ IsTariffText (slice_index_or (fields_of c.args.raw.now) 1 []) = search rules in
    record { says = tt; fault = λ form tariffs count. (refl, (count, steps-outside form _ tariffs count named wrong)) }

pub returns-in-Err-Memory-clause-fault : goal.returns-in-Err-Memory-clause-fault
returns-in-Err-Memory-clause-fault c =
    let named : IsName (slice_index_or (fields_of c.args.raw.now) 0 []) = search rules in
    let priced : IsTariffText (slice_index_or (fields_of c.args.raw.now) 1 []) = search rules in
    λ form tariffs count. steps-take form _ tariffs count named priced
