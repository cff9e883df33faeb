use Rattle.std.proofs.Common.{◌∙◌, arith, refl, ◌∷◌, [], ◌++◌, length-append, append_assoc}
use Rattle.csv.specs.Reading.{strip_bom}
use Rattle.csv.specs.Records.{fields_of}
use Rattle.csv.specs.declared.parser.State.TheVariants as st
use Rattle.papers.proofs.BlankLemmas.{not-blank-file}
use Rattle.papers.proofs.ImportLemmas.{header-missing, header-read, no-header, read-count, reading_err, some-record}
use Rattle.papers.proofs.ReaderLemmas.{given-all, given-more, given-some}
use Rattle.papers.proofs.RecordLemmas.{records-exist}
use Rattle.papers.proofs.imports.read_rows.Goals as goal

pub returns-in_default : goal.returns-in_default
returns-in_default c =
    let begun = c.records_of-records.ensures in
    let step = rw c.in_default.is at ((c.next.ensures.steps begun.left begun.plain).0 begun.ready) in
    ([], given-all c.args.bytes.now c.records_of-records.result c.next.new.self [] begun step, no-header c.args.kind)

pub returns-in_default-first : goal.returns-in_default-first
returns-in_default-first c =
    let all = records-exist st.StartRecord (strip_bom c.args.bytes.now) in
    (all.0, all.1, not-blank-file c.args.bytes.now all.0 c.is_blank.result c.is_blank.ensures c.if-is_blank.false all.1)

pub returns-in_default-form_of : goal.returns-in_default-form_of
returns-in_default-form_of c =
    let begun = c.records_of-records.ensures in
    let fields = fields_of c.in-Ok.first in
    let step = rw (c.in-Some.is, c.in-Ok.is) at ((c.next.ensures.steps begun.left begun.plain).0 begun.ready) in
    let given = given-more c.args.bytes.now c.records_of-records.result c.next.new.self [] fields begun step.0 step.1 step.2 in
    let after = given-some c.args.bytes.now c.next.new.self (fields ∷ []) given in
    let other = rw c.in_default-form_of.is at c.form_of.ensures in
    (fields ∷ after.0, after.1, header-missing c.args.kind fields after.0 other)

pub loop-record-init : goal.loop-record-init
loop-record-init c =
    let begun = c.records_of-records.ensures in
    let fields = fields_of c.in-Ok.first in
    let step = rw (c.in-Some.is, c.in-Ok.is) at ((c.next.ensures.steps begun.left begun.plain).0 begun.ready) in
    let given = given-more c.args.bytes.now c.records_of-records.result c.next.new.self [] fields begun step.0 step.1 step.2 in
    let start = c.into_iter-record-iterator.ensures.into_iter_gives ∙ refl in
    let headed = header-read c.in-Some-form_of.form fields c.in-Some-form_of.ensures.1 in
    (fields ∷ [], rw start given, rw c.new-rows.ensures.items headed, refl)

pub returns-in_default-record : goal.returns-in_default-record
returns-in_default-record c =
    let inv = c.loop-record.invariant in
    let after = given-some c.args.bytes.now c.loop-record.record-iterator inv.0 inv.1 in
    (inv.0 ++ after.0, after.1, some-record _ inv.0 after.0 _ inv.2)

pub returns-in_err-take_row : goal.returns-in_err-take_row
returns-in_err-take_row c =
    let inv = c.loop-record.invariant in
    let fields = fields_of c.in-Ok-record.record in
    let step = rw (c.in-Some-record.is, c.in-Ok-record.is) at ((c.next-in-loop-record.ensures.steps inv.1.left inv.1.plain).0 inv.1.ready) in
    let given = given-more c.args.bytes.now c.loop-record.record-iterator c.next-in-loop-record.new.self inv.0 fields inv.1 step.0 step.1 step.2 in
    let after = given-some c.args.bytes.now c.next-in-loop-record.new.self (inv.0 ++ fields ∷ []) given in
    let fault = c.in_err-take_row.ensures.fault inv.0 after.0 inv.2 inv.3 in (
      inv.0 ++ fields ∷ after.0,
      rw append_assoc at after.1,
      reading_err _ c.in_err-take_row.field-0.0 _ _ c.from_residual.ensures.1 (rw c.in-Some-form_of.ensures.0 at fault),
    )

pub overflow_add-number : goal.overflow_add-number
overflow_add-number c =
    let inv = c.loop-record.invariant in
    let count = read-count _ inv.0 _ inv.2 in
    omega (arith, inv.3, count.0, count.1)

pub loop-record-preserved : goal.loop-record-preserved
loop-record-preserved c =
    let inv = c.loop-record.invariant in
    let fields = fields_of c.in-Ok-record.record in
    let step = rw (c.in-Some-record.is, c.in-Ok-record.is) at ((c.next-in-loop-record.ensures.steps inv.1.left inv.1.plain).0 inv.1.ready) in
    let given = given-more c.args.bytes.now c.loop-record.record-iterator c.next-in-loop-record.new.self inv.0 fields inv.1 step.0 step.1 step.2 in
    let taken = c.in_ok-take_row.ensures.taken inv.0 inv.2 inv.3 in
    (inv.0 ++ fields ∷ [], given, taken, omega (arith, inv.3, length-append inv.0 (fields ∷ [])))
