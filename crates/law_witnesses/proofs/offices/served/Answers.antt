use Rattle.std.proofs.Common.{◌≡◌, Bool, true, false, Ok, inl, inr, refl, rules}
use Rattle.std.specs.Prelude.{◌≢◌}
use Rattle.sqlite.proofs.Callers.{memory_is_clean}
use Rattle.law_witnesses.proofs.OfficeLemmas.{goes_on, not_true}
use Rattle.law_witnesses.proofs.offices.served.Goals as goal

pub returns-in-Ok-look_up : goal.returns-in-Ok-look_up
returns-in-Ok-look_up c =
    let opened = (c.in-Ok.ensures {u = tt}).opened in
    let ran = (c.in-Ok-serve_all.ensures {u = tt}).served in
    let looked = c.look_up.ensures.says in
    record {
      forward = _;
      each = ran.count;
      keeps = record {
        led = refl;
        kept = looked.reads.keeps _ (ran.keeps _ (opened.opens _ refl));
        clean = memory_is_clean c.look_up.new.self.conn;
      };
      tables = looked.reads.tables (c.serve_all.ensures.leaves.says.tables opened.tables);
      running = not_true _ (λ stopped. goes_on c.look_up.result c.in-Ok-look_up.field-0 c.in-Ok-look_up.is (looked.reads.stops.0 stopped));
    }
