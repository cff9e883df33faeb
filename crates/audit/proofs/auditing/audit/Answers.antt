use Rattle.std.proofs.Common.{ℕ, subst}
use Rattle.sqlite.specs.Held.{state}
use Rattle.sqlite_schema.specs.declared.schema.Schema.{Schema}
use Rattle.book_tables.specs.Holds.{HasOfficeOf}
use Rattle.audit.specs.Fails.{given_by}
use Rattle.audit.proofs.PassedLemmas.{none_passed}
use Rattle.audit.proofs.SoundLemmas.{audit_none, audit_of_tables, audit_unknown, sound_none}
use Rattle.audit.proofs.auditing.audit.Goals as goal

pub returns-in-Ok-eq0-clause-answers : goal.returns-in-Ok-eq0-clause-answers
returns-in-Ok-eq0-clause-answers g c =
    let given = given_by g.T.BlockTransform.forwards c.args.transform in
    let s = state g.S.Store c.args.conn.now in
    let it = c.in-Ok-eq0 in
    let has = subst (λ (schema : Schema). HasOfficeOf 0 schema) c.schema.ensures.value
    (subst (λ (n : ℕ). HasOfficeOf n c.schema.result.now) it.field-0-test it.ensures.has) in
    audit_none given s c.no_tables.result (sound_none given s.now c.no_tables.result has c.reached_law.ensures.empty c.no_tables.ensures)
    c.connection_order_law.ensures.now

pub returns-in-Ok-clause-answers : goal.returns-in-Ok-clause-answers
returns-in-Ok-clause-answers g c =
    let given = given_by g.T.BlockTransform.forwards c.args.transform in
    let has = subst (λ (schema : Schema). HasOfficeOf c.in-Ok.format schema) c.schema.ensures.value c.in-Ok.ensures.has in
    audit_of_tables given c.in-Ok.format (state g.S.Store c.args.conn.now) (state g.S.Store c.audit_format.new.conn) c.audit_format.result
    (λ runs. ((c.schema.ensures.live runs).0, has)) c.audit_format.ensures.given c.audit_format.ensures.reads
    c.connection_order_law.ensures.now

pub returns-in-Err-clause-answers : goal.returns-in-Err-clause-answers
returns-in-Err-clause-answers g c = audit_unknown (given_by g.T.BlockTransform.forwards c.args.transform) (state g.S.Store c.args.conn.now)
    c.schema.result.now c.schema.ensures.value c.in-Err.fault c.in-Err.ensures.fails
    c.connection_order_law.ensures.now

pub returns-in-Ok-eq0-clause-told : goal.returns-in-Ok-eq0-clause-told
returns-in-Ok-eq0-clause-told g c clean runs = none_passed g.F.Follows.told c.args.follower.now (state g.S.Store c.args.conn.now).now

pub returns-in-Ok-clause-told : goal.returns-in-Ok-clause-told
returns-in-Ok-clause-told g c clean runs =
    let has = subst (λ (schema : Schema). HasOfficeOf c.in-Ok.format schema) c.schema.ensures.value c.in-Ok.ensures.has in
    c.audit_format.ensures.told clean (λ _. ((c.schema.ensures.live runs).0, has))

pub returns-in-Err-clause-told : goal.returns-in-Err-clause-told
returns-in-Err-clause-told g c clean runs = none_passed g.F.Follows.told c.args.follower.now (state g.S.Store c.args.conn.now).now
