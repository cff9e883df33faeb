use Rattle.std.proofs.Common.{take}
use Rattle.std.specs.List.{AllZip}
use Rattle.sqlite.specs.Held.{state}
use Rattle.sqlite.specs.State.{HasCleanDisk}
use Rattle.office_rules.specs.Office.{IsOffice, Office}
use Rattle.book_tables.specs.reading.Reading.{HasAllTables}
use Rattle.book_states.specs.Members.{HasMembers}
use Rattle.book_facts.specs.LookupsSeen.{IsTariffListedSeen}
use Rattle.book_facts.proofs.ListedLemmas.{TellTariffs}
use Rattle.book_facts.proofs.PassedLemmas.{HasPassed}
use Rattle.book_facts.proofs.looking.tariff_page.tariff_page.Given as goal

-- nothing was changed, and the tariffs of the first names are told, and were seen, with their
-- steps
abbrev pub invariant-loop-name : goal.invariant-loop-name
invariant-loop-name g l = record {
  passed : HasPassed (state g.S.Store l.initial.conn) (state g.S.Store l.conn);
  told : HasCleanDisk (state g.S.Store l.conn) → (o : Office) → IsOffice o → HasMembers (state g.S.Store l.initial.conn) o
      → TellTariffs o l.day (take l.name-index l.name-items) l.listed.items;
  seen : HasCleanDisk (state g.S.Store l.conn) → HasAllTables (state g.S.Store l.initial.conn)
      → AllZip (IsTariffListedSeen l.day (state g.S.Store l.initial.conn).now) (take l.name-index l.name-items) l.listed.items;
}
