use Rattle.asks.proofs.ValueLemmas.{day-reads, day-shown}
use Rattle.asks.proofs.texts.days_law.Goals as goal

pub returns : goal.returns
returns c = record {
  reads = day-reads c.calendar_law.ensures.each_moment c.day_law.ensures.shown c.day_law.ensures.whole;
  one_text = c.day_law.ensures.one_text;
  one_day = c.day_law.ensures.one_read;
  shown = day-shown c.calendar_law.ensures.each_moment c.calendar_law.ensures.ranges;
}
