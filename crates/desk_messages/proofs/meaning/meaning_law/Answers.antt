use Rattle.desk_messages.proofs.MeaningLemmas.{one_meaning, one_rows}
use Rattle.desk_messages.proofs.meaning.meaning_law.Goals as goal

pub returns-clause-one : goal.returns-clause-one
returns-clause-one c = one_meaning c.ask_law.ensures.one

pub returns-clause-rows : goal.returns-clause-rows
returns-clause-rows c =
    one_rows (record {
      one_list = c.import_law.ensures.one_list;
      one_rows = c.import_law.ensures.one_rows;
      one_fault = c.import_law.ensures.one_fault;
      never_both = c.import_law.ensures.never_both;
    })
