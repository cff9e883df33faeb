-- The bytes of a message to a desk.
use Rattle.std.specs.Prelude.{◌≡◌, ℕ, ◌<◌, ◌≤◌, false, List, [], ◌∷◌, ◌++◌, length, codes, decimal}
use Rattle.std.specs.Prelude.{IsUtf8}
use Rattle.httparse.specs.Grammar.{AllPass, is_uri_byte}
use Rattle.conversation.specs.declared.message.method.Method.{Method}
use Rattle.conversation.specs.declared.message.method.Method.TheVariants.{Get, Head, Post}
use Rattle.conversation.specs.declared.message.method.Method.TheVariants.{Delete}
use Rattle.conversation.specs.message.Framing.{longest_body}
use Rattle.conversation.specs.message.Messages.{Message}
use Rattle.conversation.specs.message.Target.{path_of}

abbrev pub line_end : List ℕ
line_end = 13 ∷ 10 ∷ []

abbrev pub method_word : Method → List ℕ
method_word Get = codes "GET"
method_word Head = codes "HEAD"
method_word Post = codes "POST"
method_word Delete = codes "DELETE"

-- a start line, and the name of a host
unfoldable pub front_lines : Method → List ℕ → List ℕ
front_lines method target =
    method_word method ++ (codes " " ++ (target ++ codes " HTTP/1.1\r\nHost: desk\r\n"))

-- the line that tells how long a body is
unfoldable pub length_line : ℕ → List ℕ
length_line len = codes "Content-Length: " ++ (decimal len ++ line_end)

-- what stands behind those: a message of GET, HEAD or DELETE has no body, and tells no length
abbrev pub body_part : Method → List ℕ → List ℕ
body_part Get body = line_end
body_part Head body = line_end
body_part Delete body = line_end
body_part Post body = length_line (length body) ++ (line_end ++ body)

-- the bytes of a whole message
abbrev pub message_bytes : Method → List ℕ → List ℕ → List ℕ
message_bytes method target body = front_lines method target ++ body_part method body

-- a message of GET or DELETE has no body, and none of HEAD is sent
abbrev pub HasBodyOf : Method → List ℕ → Type 0
HasBodyOf Get body = body ≡ []
HasBodyOf Head body = ⊥
HasBodyOf Delete body = body ≡ []
HasBodyOf Post body = length body ≤ longest_body

-- the longest target of a message that is sent, in bytes
abbrev pub longest_target : ℕ
longest_target = 8000

-- A message that can be sent so: its target is a path, in visible bytes, within the length that a
-- desk reads with the rest of a head, its body is within the desk's limit, it asks for no end, and
-- it expects no interim reply.
pub record IsSendable (m : Message) : Type 0 where
  pub some : 0 < length m.target
  pub short : length m.target ≤ longest_target
  pub visible : AllPass is_uri_byte m.target
  pub text : IsUtf8 m.target
  pub path : path_of m.target ≡ m.target
  pub body : HasBodyOf m.method m.body
  pub goes_on : m.closes ≡ false
  pub needs_none : m.expects ≡ false
