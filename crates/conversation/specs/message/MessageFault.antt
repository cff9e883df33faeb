-- The status codes and the words of the faults of messages.
use Rattle.std.specs.Prelude.{ℕ, List, codes}
use Rattle.conversation.specs.declared.message.message_fault.MessageFault.{MessageFault}
use Rattle.conversation.specs.declared.message.message_fault.MessageFault.TheVariants.{Head, Method}
use Rattle.conversation.specs.declared.message.message_fault.MessageFault.TheVariants.{Host, Coding}
use Rattle.conversation.specs.declared.message.message_fault.MessageFault.TheVariants.{Length, Body}

-- 413 for a body that is too long, 501 for what is not implemented, else 400
abbrev pub message_fault_status : MessageFault → ℕ
message_fault_status Head = 400
message_fault_status Method = 501
message_fault_status Host = 400
message_fault_status Coding = 501
message_fault_status Length = 400
message_fault_status Body = 413

-- the name of the fault
abbrev pub message_fault_word : MessageFault → List ℕ
message_fault_word Head = codes "Head"
message_fault_word Method = codes "Method"
message_fault_word Host = codes "Host"
message_fault_word Coding = codes "Coding"
message_fault_word Length = codes "Length"
message_fault_word Body = codes "Body"
