-- What a meter answers to a token, and its credit, over all that was entered into it.
use Rattle.std.specs.Prelude.{◌≡◌, ℕ, ◌-◌, ◌^◌, ◌==◌, ◌||◌, Bool, min, List, [], ◌∷◌, ◌++◌, map}
use Rattle.std.specs.Prelude.{Result, Ok, Err, if◌then◌else◌, nat_le, nat_lt, nat_eq, sum, count_by}
use Rattle.std.specs.List.{fold, list_any}
use Rattle.sts_fields.specs.Text.{Text}
use Rattle.sts_token.specs.Fields.{TokenFields}
use Rattle.sts_token.specs.declared.fault.TokenFault.{TokenFault}

-- how a meter reads texts: `reading_of` its transform and key
abbrev pub Reader : Type 0
Reader = Text → Result TokenFields TokenFault

-- what is done to a meter: a text is entered, or the meter is cleared
pub data Entry : Type 0 where
  entered : Text → Entry
  cleared : Entry

-- what a meter makes of an identifier
pub data TidAnswer : Type 0 where
  accepted : TidAnswer
  used : TidAnswer
  old : TidAnswer

-- at least fifty of the accepted identifiers are greater
abbrev pub is_old : List ℕ → ℕ → Bool
is_old taken t = nat_le 50 (count_by (nat_lt t) taken)

-- the identifier is among these
abbrev pub is_member : List ℕ → ℕ → Bool
is_member taken t = list_any (nat_eq t) taken

-- the answer where these identifiers were accepted since the start or the last clearing
abbrev pub answer_to : List ℕ → ℕ → TidAnswer
answer_to taken t =
    if is_old taken t then old
    else (if t == 0 || is_member taken t then used
    else accepted)

-- what a meter took: the identifiers accepted since the start or the last clearing, and the
-- amounts of all tokens accepted, clearings or not; the last one first
pub record Taken : Type 0 where
  pub tids : List ℕ
  pub amounts : List ℕ

-- a token is entered: if it is accepted, the meter gains its identifier and its amount
abbrev pub answered : Taken → TokenFields → TidAnswer → Taken
answered taken f accepted = record { tids = f.tid ∷ taken.tids; amounts = f.tenths ∷ taken.amounts }
answered taken f used = taken
answered taken f old = taken

abbrev pub after_reading : Taken → Result TokenFields TokenFault → Taken
after_reading taken (Ok f) = answered taken f (answer_to taken.tids f.tid)
after_reading taken (Err fault) = taken

abbrev pub after_entry : Reader → Taken → Entry → Taken
after_entry read taken (entered text) = after_reading taken (read text)
after_entry read taken cleared = record { tids = []; amounts = taken.amounts }

-- what a meter took over a list of entries, the first one first
abbrev pub taken_over : Reader → List Entry → Taken
taken_over read history = fold (after_entry read) (record { tids = []; amounts = [] }) history

-- the credit: the sum of all amounts accepted, as far as 64 bits hold it
abbrev pub credit_of : Reader → List Entry → ℕ
credit_of read history = min (2 ^ 64 - 1) (sum (taken_over read history).amounts)

-- the meter accepts the text, which reads as these fields, after these entries
pub record Accepts (read : Reader) (history : List Entry) (text : Text) (f : TokenFields) :
    Type 0 where
  pub reads : read text ≡ Ok f
  pub answer : answer_to (taken_over read history).tids f.tid ≡ accepted

-- one of the texts, entered one after another into a new meter, was accepted with this identifier
pub record WasAccepted (read : Reader) (texts : List Text) (t : ℕ) : Type 0 where
  pub earlier : List Text
  pub text : Text
  pub later : List Text
  pub fields : TokenFields
  pub one_of : texts ≡ earlier ++ text ∷ later
  pub accepts : Accepts read (map entered earlier) text fields
  pub identifier : fields.tid ≡ t
