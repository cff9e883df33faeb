-- How long the body of a message is, whether the conversation ends after it and whether it expects
-- an interim reply, from its head: the method, the minor version and the header fields.
use Rattle.std.specs.Prelude.{ℕ, Bool, not, ◌&&◌, ◌||◌, List, [], ◌∷◌, map, length, Result, Ok, Err}
use Rattle.std.specs.Prelude.{if◌then◌else◌, ◌==◌, nat_lt, nat_le, bytes_eq, codes}
use Rattle.std.specs.List.{list_all}
use Rattle.std.specs.Char.{is_ascii_digit}
use Rattle.std.specs.Str.Parse.{digits_value}
use Rattle.httparse.specs.Grammar.{RequestHead}
use Rattle.http1.specs.Fields.{elements_named, has_option}
use Rattle.httparse.specs.Spans.{name_and_value}
use Rattle.conversation.specs.declared.message.framing.Framing.{Framing}
use Rattle.conversation.specs.declared.message.message_fault.MessageFault.{MessageFault}
use Rattle.conversation.specs.declared.message.message_fault.MessageFault.TheVariants as faults
use Rattle.conversation.specs.declared.message.method.Method.{Method}
use Rattle.conversation.specs.declared.message.method.Method.TheVariants.{Get, Head, Post}
use Rattle.conversation.specs.declared.message.method.Method.TheVariants.{Delete}
use Rattle.conversation.specs.message.Fields.{values_of}

-- the most bytes of a body
abbrev pub longest_body : ℕ
longest_body = 1048576

-- the methods of the desk; another is a fault
abbrev pub method_of : List ℕ → Result Method MessageFault
method_of name =
    if bytes_eq name (codes "GET") then Ok Get
    else (if bytes_eq name (codes "POST") then Ok Post
    else (if bytes_eq name (codes "HEAD") then Ok Head
    else (if bytes_eq name (codes "DELETE") then Ok Delete else Err faults.Method)))

-- a message of HTTP/1.1 has exactly one `Host` field
abbrev pub names_its_host : ℕ → List (List ℕ × List ℕ) → Bool
names_its_host minor fields = (minor == 0) || (length (values_of (codes "host") fields) == 1)

-- there is no `Transfer-Encoding` field
abbrev pub is_uncoded : List (List ℕ × List ℕ) → Bool
is_uncoded fields = length (values_of (codes "transfer-encoding") fields) == 0

-- one or more digits
abbrev pub is_number : List ℕ → Bool
is_number value = nat_lt 0 (length value) && list_all is_ascii_digit value

-- the length, if a body may be as long
abbrev pub within_longest : ℕ → Result ℕ MessageFault
within_longest len = if nat_le len longest_body then Ok len else Err faults.Body

-- the length that a value writes, as a number
abbrev pub length_of : List ℕ → Result ℕ MessageFault
length_of value =
    if is_number value then within_longest (digits_value 10 value) else Err faults.Length

-- the length of the body, from the values of the `Content-Length` fields; without one it is empty
abbrev pub body_len : List (List ℕ) → Result ℕ MessageFault
body_len [] = Ok 0
body_len (value ∷ []) = length_of value
body_len (value ∷ other ∷ values) = Err faults.Length

-- a `Connection` field lists `close`, in any case, alone or among other options
abbrev pub lists_close : List (List ℕ × List ℕ) → Bool
lists_close fields = has_option (codes "close") (elements_named (codes "connection") fields)

-- the conversation ends after a message of HTTP/1.0, and where a `Connection` field asks for it
abbrev pub is_last : ℕ → List (List ℕ × List ℕ) → Bool
is_last minor fields = (minor == 0) || lists_close fields

-- an `Expect` field lists `100-continue`, in any case, alone or among other expectations
abbrev pub lists_continue : List (List ℕ × List ℕ) → Bool
lists_continue fields =
    has_option (codes "100-continue") (elements_named (codes "expect") fields)

-- An interim reply is expected before the body is sent: by a message of HTTP/1.1 that has a body,
-- where an `Expect` field asks for it (RFC 9110, section 10.1.1).
abbrev pub expects_interim : ℕ → ℕ → List (List ℕ × List ℕ) → Bool
expects_interim minor len fields = not (minor == 0) && (nat_lt 0 len && lists_continue fields)

-- a step of reading a head that may find a fault
infixl 10 ◌>>=◌
abbrev pub ◌>>=◌ : {A B : Type 0} → Result A MessageFault → (A → Result B MessageFault)
    → Result B MessageFault
(Ok found) >>= next = next found
(Err fault) >>= next = Err fault

-- the fault, unless the test passes
abbrev pub unless : Bool → MessageFault → Result Bool MessageFault
unless passes fault = if passes then Ok passes else Err fault

-- what the method, the minor version and the fields say, or the first fault
unfoldable pub framing : List ℕ → ℕ → List (List ℕ × List ℕ) → Result Framing MessageFault
framing name minor fields = do
  method ← method_of name
  _ ← unless (names_its_host minor fields) faults.Host
  _ ← unless (is_uncoded fields) faults.Coding
  body ← body_len (values_of (codes "content-length") fields)
  Ok (record {
    method = method;
    body = body;
    closes = is_last minor fields;
    expects = expects_interim minor body fields;
  })

-- the same of a head
abbrev pub framing_of : RequestHead → Result Framing MessageFault
framing_of head = framing head.method head.minor (map name_and_value head.fields)
