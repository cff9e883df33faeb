use Rattle.std.specs.Prelude.{◌↔◌, ◌≤◌, ◌*◌, length}
use Rattle.desk_client.specs.Report.{EndsReport}
use Rattle.desk_client.proofs.report.ends_report.Given as goal

-- what is left of the text ends the report, with the sums of the lines before it, exactly where the
-- whole text ends one; numbers rise, so there are no more lines than the last one's number
abbrev pub invariant-lines : goal.invariant-lines
invariant-lines l =
    (EndsReport 0 0 0 0 l.text ↔ EndsReport l.sums.last l.sums.count l.sums.tenths l.sums.cash l.rest)
    × (l.sums.count ≤ l.sums.last) × (l.sums.last ≤ 1000000000) × (l.sums.tenths ≤ 18201624 * l.sums.count)
    × (l.sums.cash ≤ 100000000 * l.sums.count)

abbrev pub decreases-lines : goal.decreases-lines
decreases-lines l = length l.rest
