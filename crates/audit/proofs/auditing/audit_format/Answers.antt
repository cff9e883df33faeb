use Rattle.std.proofs.Common.{Err, refl, subst, sym}
use Rattle.sqlite.specs.Held.{state}
use Rattle.one_table.proofs.ReadsOnlyLemmas.{fail_as, read_on, stop_on}
use Rattle.audit.specs.Fails.{Denies, IsNoOffices, StopsBy, by_rows, given_by}
use Rattle.audit.proofs.PassedLemmas.{reached_passed}
use Rattle.audit.proofs.SoundLemmas.{forged_stops, sound_rows}
use Rattle.audit.proofs.ToldLemmas.{stops_more}
use Rattle.audit.proofs.auditing.audit_format.Goals as goal

pub returns-in-Err-clause-reads : goal.returns-in-Err-clause-reads
returns-in-Err-clause-reads g c = fail_as c.in-Err.fault (Err c.in-Err.fault) refl c.in-Err.ensures.reads
    (stops_more IsNoOffices (Denies (given_by g.T.BlockTransform.forwards c.args.transform)) (state g.S.Store c.args.conn.now)
    (state g.S.Store c.followed_rows.new.conn) c.in-Err.fault (λ f. by_rows))

pub returns-in-Ok-test_forged-clause-given : goal.returns-in-Ok-test_forged-clause-given
returns-in-Ok-test_forged-clause-given g c clean has =
    sound_rows (given_by g.T.BlockTransform.forwards c.args.transform) c.args.format (state g.S.Store c.args.conn.now).now c.in-Ok.rows c.counted.result
    (c.in-Ok.ensures.given clean has) c.in-Ok-test_forged.ensures.passes c.counted.ensures

pub returns-in-Ok-test_forged-clause-reads : goal.returns-in-Ok-test_forged-clause-reads
returns-in-Ok-test_forged-clause-reads g c = read_on c.in-Ok.ensures.reads

pub returns-clause-reads : goal.returns-clause-reads
returns-clause-reads g c =
    let given = given_by g.T.BlockTransform.forwards c.args.transform in
    let old = state g.S.Store c.args.conn.now in
    let new = state g.S.Store c.followed_rows.new.conn in
    stop_on c.fault_of.result (Err c.fault_of.result) refl c.in-Ok.ensures.reads (λ clean has.
    subst (StopsBy (Denies given) old new) (sym c.fault_of.ensures)
    (forged_stops given c.args.format c.in-Ok.rows c.in-Err-test_forged.fault c.in-Err-test_forged.ensures.found
    (c.in-Ok.ensures.given clean has) c.honest_law.ensures.none c.tokens_law.ensures.none (c.in-Ok.ensures.reads.same clean has)))

pub returns-in-Err-clause-told : goal.returns-in-Err-clause-told
returns-in-Err-clause-told g c clean has = (c.in-Err.ensures.told clean has).0

pub returns-in-Ok-test_forged-clause-told : goal.returns-in-Ok-test_forged-clause-told
returns-in-Ok-test_forged-clause-told g c clean has =
    reached_passed g.F.Follows.told c.args.follower.now c.followed_rows.new.follower c.test_forged.new.follower
    (state g.S.Store c.args.conn.now).now c.args.format c.in-Ok.rows (c.in-Ok.ensures.told clean has).1 (c.in-Ok.ensures.given clean has)
    c.in-Ok-test_forged.ensures.told

pub returns-clause-told : goal.returns-clause-told
returns-clause-told g c clean has =
    reached_passed g.F.Follows.told c.args.follower.now c.followed_rows.new.follower c.test_forged.new.follower
    (state g.S.Store c.args.conn.now).now c.args.format c.in-Ok.rows (c.in-Ok.ensures.told clean has).1 (c.in-Ok.ensures.given clean has)
    c.in-Err-test_forged.ensures.told
