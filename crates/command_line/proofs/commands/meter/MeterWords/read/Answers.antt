use Rattle.command_line.proofs.SayLemmas.{SayEach-texts}
use Rattle.command_line.proofs.commands.meter.MeterWords.read.Goals as goal

pub returns : goal.returns
returns c = record {
  transform = c.in_ok-read_transform.ensures;
  key = c.in_ok-read_key_of.ensures;
  tokens = rw (← c.in_ok-texts.ensures) (SayEach-texts c.in_ok-texts.field-0.now);
}
