use Rattle.csv.specs.declared.parser.State.TheVariants as st
use Rattle.csv.specs.Reading.{strip_bom}
use Rattle.papers.proofs.LawLemmas.{no-fault, one-fault, one-list, one-rows}
use Rattle.papers.proofs.laws.import_law.Goals as goal

pub returns : goal.returns
returns c = record {
  one_list = λ bytes. one-list st.StartRecord (strip_bom bytes);
  one_rows = one-rows c.steps_text_law.ensures.one_list c.day_law.ensures.one_read;
  one_fault = one-fault;
  never_both = no-fault;
}
