use Rattle.std.proofs.Common.{◌<◌, length, arith}
use Rattle.office_rules.specs.Office.{greatest_count}
use Rattle.audit_lists.proofs.EachLemmas.{row_below}
use Rattle.audit_lists.proofs.numbers.test_count.Goals as goal

pub returns-else-rows-le-GREATEST_COUNT-clause-found : goal.returns-else-rows-le-GREATEST_COUNT-clause-found
returns-else-rows-le-GREATEST_COUNT-clause-found g c =
    let low : greatest_count < length c.args.rows.now = omega arith in
    let row = row_below c.args.rows.now greatest_count low in
    (greatest_count, row.0, record { there = row.1; before = λ i _ below _. below; breaks = λ more. omega (arith, more) }, c.found_number.ensures)
