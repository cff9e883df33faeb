use Rattle.std.proofs.Common.{Err, Ok, refl}
use Rattle.books.specs.Keeps.{seen}
use Rattle.office_commands.proofs.OnlyReadLemmas.{read_once}
use Rattle.office_commands.proofs.RefusedLemmas.{tells_refusal}
use Rattle.vend_ports.proofs.TakeLemmas.{takes_none}
use Rattle.office_commands.proofs.print.totals.print_totals.Goals as goal

pub returns-in-Ok : goal.returns-in-Ok
returns-in-Ok g c = record {
  totals = Ok c.in-Ok.totals;
  are_totals = c.in-Ok.ensures.says.of_life;
  seen = c.in-Ok.ensures.says.reads.seen;
  told = (c.put_totals.ensures, takes_none c.args.err.now, refl);
  reads = read_once _ _ c.in-Ok.ensures.says.reads;
}

pub returns-in-Err : goal.returns-in-Err
returns-in-Err g c = record {
  totals = Err c.in-Err.refusal;
  are_totals = record {
    none = c.in-Err.ensures.says.of_life;
    refused = record {
      tells = tells_refusal (seen c.args.books.now) (seen c.shift_totals.new.self) c.in-Err.refusal
          (c.in-Err.ensures.says.reads.stopped, c.in-Err.ensures.says.reads.stops);
      failures = c.in-Err.ensures.says.reads.failures;
    };
  };
  seen = c.in-Err.ensures.says.reads.seen;
  told = (takes_none c.args.out.now, c.put_refusal.ensures, refl);
  reads = read_once _ _ c.in-Err.ensures.says.reads;
}
