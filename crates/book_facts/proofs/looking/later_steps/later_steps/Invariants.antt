use Rattle.std.proofs.Common.{◌-◌, ◌++◌, List}
use Rattle.sqlite.specs.Held.{state}
use Rattle.sqlite.specs.State.{HasCleanDisk}
use Rattle.sts_fields.specs.Day.{last_day}
use Rattle.office_rules.specs.Office.{IsOffice, Office}
use Rattle.book_tables.specs.reading.Reading.{HasAllTables}
use Rattle.book_states.specs.Members.{HasMembers}
use Rattle.book_facts.specs.LookupsSeen.{AreLaterSeen, IsSpoiltBehind}
use Rattle.book_states.specs.declared.lookup.LaterSteps.{LaterSteps}
use Rattle.book_facts.proofs.LaterLemmas.{AreUntil}
use Rattle.book_facts.proofs.PassedLemmas.{HasPassed}
use Rattle.book_facts.proofs.looking.later_steps.later_steps.Given as goal

-- nothing was changed, and the steps until the last day are told; what is seen behind that day is,
-- behind them, seen for all, and so is what is spoilt behind it
abbrev pub invariant-loop-later : goal.invariant-loop-later
invariant-loop-later g l = record {
  passed : HasPassed (state g.S.Store l.fn.conn) (state g.S.Store l.conn);
  until : HasCleanDisk (state g.S.Store l.conn) → (o : Office) → IsOffice o → HasMembers (state g.S.Store l.fn.conn) o
      → AreUntil (o.dated_steps l.name) l.fn.day l.last l.later.items;
  seen : HasCleanDisk (state g.S.Store l.conn) → HasAllTables (state g.S.Store l.fn.conn)
      → (more : List LaterSteps) → AreLaterSeen l.name l.last (state g.S.Store l.fn.conn).now more
      → AreLaterSeen l.name l.fn.day (state g.S.Store l.fn.conn).now (l.later.items ++ more);
  spoilt : HasCleanDisk (state g.S.Store l.conn) → HasAllTables (state g.S.Store l.fn.conn)
      → (more : List LaterSteps) → IsSpoiltBehind l.name l.last (state g.S.Store l.fn.conn).now more
      → IsSpoiltBehind l.name l.fn.day (state g.S.Store l.fn.conn).now (l.later.items ++ more);
}

abbrev pub decreases-loop-later : goal.decreases-loop-later
decreases-loop-later g l = last_day - l.last
