use Rattle.desk_client.proofs.AlikeLemmas.{alike}
use Rattle.desk_client.proofs.HeadLemmas.{alone}
use Rattle.desk_client.proofs.TellsLemmas.{is_reply, is_whole}
use Rattle.desk_client.proofs.law.told_law.Goals as goal

pub returns-clause-text : goal.returns-clause-text
returns-clause-text c = is_reply c.date_law.ensures

pub returns-clause-read : goal.returns-clause-read
returns-clause-read c = is_whole

pub returns-clause-alike : goal.returns-clause-alike
returns-clause-alike c = alike (record {
  sale = c.columns_law.ensures;
  meter = c.columns_law-2.ensures;
  quote = c.columns_law-3.ensures;
  totals = c.columns_law-4.ensures;
})

pub returns-clause-alone : goal.returns-clause-alone
returns-clause-alone c = alone
