-- What the program prints, a definition a line.
use Rattle.std.specs.Prelude.{ℕ, List, [], ◌∷◌, ◌++◌, codes, decimal}
use Rattle.std.specs.List.{join_with_byte}
use Rattle.sim_meter.specs.declared.answer.Answer.{Answer}
use Rattle.sim_meter.specs.declared.answer.Answer.TheVariants.{Accepted, Used, Old, Refused}
use Rattle.sts_fields.specs.Text.{Text}
use Rattle.sts_token.specs.TokenFault.{token_fault_name, token_fault_number}
use Rattle.tariff.specs.declared.bought.Buy.{Buy}
use Rattle.office_rules.specs.Decision.Refusals.{refusal_name, refusal_number}
use Rattle.office_rules.specs.Decision.RowCauses.{cause_text}
use Rattle.office_rules.specs.declared.decision.refusal.Refusal.{Refusal}
use Rattle.office_rules.specs.declared.decision.refusal.Refusal.TheVariants.{ImportRow, Memory}
use Rattle.office_rules.specs.declared.decision.refusal.Refusal.TheVariants.{Store}
use Rattle.command_line.specs.declared.address.Address.{Address}
use Rattle.vend_ports.specs.declared.port.file_fault.FileFault.{FileFault}
use Rattle.vend_ports.specs.declared.port.file_fault.FileFault.TheVariants as read
use Rattle.vend_ports.specs.declared.port.file_fault.FileFault.TheVariants.{Unreadable}

-- words with a byte between them, and the end of the line
abbrev pub joined_line : (byte : ℕ) → List Text → Text
joined_line byte words = join_with_byte byte words ++ 10 ∷ []

-- the same with a space
abbrev pub line_of : List Text → Text
line_of words = joined_line 32 words

-- fields with a tab between them, and the end of the line
abbrev pub table_row_of : List Text → Text
table_row_of fields = joined_line 9 fields

abbrev pub token_line : Text → Text
token_line token = line_of (token ∷ [])

-- the meter's answer to a token, that it was cleared, and its credit
abbrev pub answer_line : Answer → Text
answer_line (Accepted tenths) = line_of (codes "accepted" ∷ decimal tenths ∷ [])
answer_line Used = line_of (codes "used" ∷ [])
answer_line Old = line_of (codes "old" ∷ [])
answer_line (Refused fault) =
    line_of (codes "refused" ∷ decimal (token_fault_number fault) ∷ token_fault_name fault ∷ [])

abbrev pub cleared_line : Text
cleared_line = line_of (codes "cleared" ∷ [])

abbrev pub credit_line : ℕ → Text
credit_line tenths = line_of (codes "credit" ∷ decimal tenths ∷ [])

-- what a tender buys
abbrev pub quote_line : Buy → Text
quote_line b = line_of (decimal b.tenths ∷ decimal b.price ∷ decimal b.change ∷ [])

-- a refusal of the office; of an import with its row and why
abbrev pub refusal_detail : Refusal → List Text
refusal_detail (ImportRow row cause) = decimal row ∷ cause_text cause ∷ []
refusal_detail _ = []

abbrev pub refusal_line : Refusal → Text
refusal_line refusal = line_of (codes "refused" ∷ decimal (refusal_number refusal)
    ∷ refusal_name refusal ∷ refusal_detail refusal)

-- that a request was refused so, and the books answer none until they are opened again; and that
-- they are
abbrev pub stopped_line : Text
stopped_line =
    line_of (codes "stopped" ∷ decimal (refusal_number Store) ∷ refusal_name Store ∷ [])

abbrev pub open_line : Text
open_line = line_of (codes "open" ∷ [])

-- an amount that no token carries, and a clock outside the moments
abbrev pub amount_line : Text
amount_line = line_of (codes "refused" ∷ codes "amount" ∷ [])

abbrev pub clock_line : Text
clock_line = line_of (codes "refused" ∷ codes "clock" ∷ [])

-- that it is done, how many rows an import added, how many lists of steps were withdrawn, how far
-- an export is, that a file is open, the number of a shift, and a selfcheck that found no fault
abbrev pub done_line : Text
done_line = line_of (codes "done" ∷ [])

abbrev pub added_line : ℕ → Text
added_line count = line_of (codes "added" ∷ decimal count ∷ [])

abbrev pub withdrawn_line : ℕ → Text
withdrawn_line count = line_of (codes "withdrawn" ∷ decimal count ∷ [])

abbrev pub progress_line : ℕ → ℕ → Text
progress_line printed all =
    line_of (decimal printed ∷ codes "of" ∷ decimal all ∷ codes "sales" ∷ [])

abbrev pub opened_line : Text
opened_line = line_of (codes "opened" ∷ [])

abbrev pub waiting_line : Text
waiting_line =
    line_of (codes "waiting" ∷ codes "for" ∷ codes "the" ∷ codes "desk" ∷ [])

abbrev pub shift_line : ℕ → Text
shift_line number = line_of (codes "shift" ∷ decimal number ∷ [])

abbrev pub selfcheck_line : Text
selfcheck_line = line_of (codes "selfcheck" ∷ codes "ok" ∷ [])

-- a value outside its rule, a file that cannot be read, and a connection that cannot be had
abbrev pub bad_word_line : Text
bad_word_line = line_of (codes "bad" ∷ codes "word" ∷ [])

abbrev pub file_line : Text
file_line = line_of (codes "file" ∷ [])

abbrev pub net_line : Text
net_line = line_of (codes "net" ∷ [])

-- a file that is not read: it cannot be, or there is no room for it
abbrev pub read_fault_line : FileFault → Text
read_fault_line Unreadable = file_line
read_fault_line read.Memory = refusal_line Memory

-- the numbers of an address, with points between them: two, and two more
unfoldable pub pair_text : (one next : ℕ) → Text
pair_text one next = decimal one ++ 46 ∷ decimal next

abbrev pub host_text : Address → Text
host_text a = pair_text a.first a.second ++ 46 ∷ pair_text a.third a.fourth

-- where the desk listens: the address, at the port that it has
abbrev pub address_text : Address → (port : ℕ) → Text
address_text a port = host_text a ++ 58 ∷ decimal port

abbrev pub listening_line : Address → (port : ℕ) → Text
listening_line a port = line_of (codes "listening" ∷ address_text a port ∷ [])
