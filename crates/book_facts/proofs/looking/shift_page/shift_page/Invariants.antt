use Rattle.std.proofs.Common.{◌≡◌, map, take}
use Rattle.std.specs.List.{AllZip}
use Rattle.sqlite.specs.Held.{state}
use Rattle.sqlite.specs.State.{HasCleanDisk}
use Rattle.office_rules.specs.Office.{IsOffice, Office}
use Rattle.book_tables.specs.reading.Reading.{HasAllTables}
use Rattle.book_states.specs.Members.{HasMembers}
use Rattle.book_facts.specs.Lookups.{listed_shift}
use Rattle.book_facts.specs.LookupsSeen.{IsShiftListedSeen}
use Rattle.book_facts.proofs.PassedLemmas.{HasPassed}
use Rattle.book_facts.proofs.looking.shift_page.shift_page.Given as goal

-- nothing was changed, and the first shifts are told, and were seen, with their totals
abbrev pub invariant-loop-shift : goal.invariant-loop-shift
invariant-loop-shift g l = record {
  passed : HasPassed (state g.S.Store l.initial.conn) (state g.S.Store l.conn);
  listed : HasCleanDisk (state g.S.Store l.conn) → (o : Office) → IsOffice o → HasMembers (state g.S.Store l.initial.conn) o
      → l.listed.items ≡ map (listed_shift o) (take l.shift-index l.shift-items);
  seen : HasCleanDisk (state g.S.Store l.conn) → HasAllTables (state g.S.Store l.initial.conn)
      → AllZip (IsShiftListedSeen (state g.S.Store l.initial.conn).now) (take l.shift-index l.shift-items) l.listed.items;
}
