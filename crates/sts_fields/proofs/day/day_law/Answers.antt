use Rattle.sts_fields.proofs.DayLemmas as lemmas
use Rattle.sts_fields.proofs.day.day_law.Goals as goal

pub returns-clause-range : goal.returns-clause-range
returns-clause-range c = lemmas.range

pub returns-clause-whole : goal.returns-clause-whole
returns-clause-whole c = lemmas.whole

pub returns-clause-never_back : goal.returns-clause-never_back
returns-clause-never_back c = lemmas.never_back

pub returns-clause-each_day : goal.returns-clause-each_day
returns-clause-each_day c = lemmas.each_day

pub returns-clause-shown : goal.returns-clause-shown
returns-clause-shown c = lemmas.shown

pub returns-clause-each_date : goal.returns-clause-each_date
returns-clause-each_date c = lemmas.each_date

pub returns-clause-years : goal.returns-clause-years
returns-clause-years c = lemmas.years

pub returns-clause-one_date : goal.returns-clause-one_date
returns-clause-one_date c = lemmas.one_date

pub returns-clause-one_day : goal.returns-clause-one_day
returns-clause-one_day c = lemmas.one_day

pub returns-clause-each_text : goal.returns-clause-each_text
returns-clause-each_text c = lemmas.each_text

pub returns-clause-one_text : goal.returns-clause-one_text
returns-clause-one_text c = lemmas.one_text

pub returns-clause-one_read : goal.returns-clause-one_read
returns-clause-one_read c = lemmas.one_read
