use Rattle.std.proofs.Common.{take}
use Rattle.conversation.specs.message.Fields.{IsOnly, fields_at, values_of}
use Rattle.conversation.proofs.message.fields.only_value.Given as goal

-- the answer so far is that of the fields so far
abbrev pub invariant-loop-field : goal.invariant-loop-field
invariant-loop-field l = IsOnly (values_of l.name (fields_at l.input (take l.field-index l.spans))) l.only
