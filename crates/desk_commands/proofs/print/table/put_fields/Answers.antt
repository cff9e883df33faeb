use Rattle.std.proofs.Common.{[], ◌∷◌, ◌++◌, ap, map}
use Rattle.desk_commands.proofs.TableLemmas.{fields_done, fields_more}
use Rattle.vend_ports.proofs.TakeLemmas.{spaced-join}
use Rattle.desk_commands.proofs.print.table.put_fields.Goals as goal

pub loop-field-init : goal.loop-field-init
loop-field-init c = ap (λ line. c.args.text.now.items ++ (line ++ 10 ∷ [])) (spaced-join 9 (map (λ f. f.now) c.args.fields.now))

pub loop-field-preserved : goal.loop-field-preserved
loop-field-preserved c =
    fields_more c.loop-field.separator.now c.args.fields.now c.loop-field.field-index _ c.loop-field.text.items
    c.extend_from_slice.new.self.items _ _ c.loop-field-test.true
    c.in_ok-extend_from_slice.ensures.items c.in_ok-extend_from_slice-2.ensures.items c.loop-field.invariant

pub returns : goal.returns
returns c =
    fields_done c.extend_from_slice-2.result c.loop-field.separator.now c.args.fields.now c.loop-field.field-index c.loop-field.text.items
    _ _ c.loop-field-test.false
    c.extend_from_slice-2.ensures.items c.loop-field.invariant
