-- The text of a reply.
use Rattle.std.specs.Prelude.{ℕ, Bool, List, [], ◌∷◌, ◌++◌, length, codes, decimal, Option, None}
use Rattle.std.specs.Prelude.{Some, if◌then◌else◌}
use Rattle.http.specs.StatusCode.{status_text}
use Rattle.conversation.specs.declared.message.method.Method.{Method}
use Rattle.conversation.specs.declared.message.method.Method.TheVariants.{Get, Head, Post}
use Rattle.conversation.specs.declared.message.method.Method.TheVariants.{Delete}
use Rattle.desk_messages.specs.declared.reply.form.Form.{Form}
use Rattle.desk_messages.specs.declared.reply.form.Form.TheVariants.{Json, Paper}
use Rattle.desk_messages.specs.declared.reply.outcome.Outcome.{Outcome}
use Rattle.desk_messages.specs.declared.reply.head.ReplyHead.{ReplyHead}
use Rattle.desk_messages.specs.reply.Body.{body_of}
use Rattle.desk_messages.specs.reply.Head.{head_of}
use Rattle.desk_messages.specs.reply.HttpDate.{http_date}

abbrev pub line_end : List ℕ
line_end = 13 ∷ 10 ∷ []

-- the line of a status, with its phrase
unfoldable pub status_line : ℕ → List ℕ
status_line status = codes "HTTP/1.1 " ++ status_text status ++ line_end

-- the line of a field
unfoldable pub field_line : List ℕ → List ℕ → List ℕ
field_line name value = name ++ codes ": " ++ value ++ line_end

-- the media type of a body
abbrev pub media_type : Form → List ℕ
media_type Json = codes "application/json"
media_type Paper = codes "text/plain"

-- the date, where the clock gave a moment
abbrev pub date_line : Option ℕ → List ℕ
date_line None = []
date_line (Some moment) = field_line (codes "Date") (http_date moment)

-- the methods that are allowed, where another one was used: with GET, HEAD is
abbrev pub allow_line : Option Method → List ℕ
allow_line None = []
allow_line (Some Get) = field_line (codes "Allow") (codes "GET, HEAD")
allow_line (Some Head) = field_line (codes "Allow") (codes "GET, HEAD")
allow_line (Some Post) = field_line (codes "Allow") (codes "POST")
allow_line (Some Delete) = field_line (codes "Allow") (codes "DELETE")

-- that the conversation ends, where it does
abbrev pub connection_line : Bool → List ℕ
connection_line closes = if closes then field_line (codes "Connection") (codes "close") else []

-- the status with its phrase, the fields, which tell the length of a body, and an empty line
abbrev pub head_text : ReplyHead → ℕ → List ℕ
head_text head len =
    status_line head.status
    ++ field_line (codes "Content-Type") (media_type head.form)
    ++ field_line (codes "Content-Length") (decimal len)
    ++ date_line head.dated
    ++ allow_line head.allowed
    ++ connection_line head.closes
    ++ line_end

-- a head and the body
unfoldable pub reply_text : ReplyHead → List ℕ → List ℕ
reply_text head body = head_text head (length body) ++ body

-- the reply of this moment that tells what came of a message, and after which the conversation ends
-- or not
abbrev pub reply_bytes_of : Option ℕ → Outcome → Bool → List ℕ
reply_bytes_of dated outcome closes = reply_text (head_of dated outcome closes) (body_of outcome)

-- the reply to a message of this method: to HEAD it has no body
abbrev pub reply_to : Method → Option ℕ → Outcome → Bool → List ℕ
reply_to Get dated outcome closes = reply_bytes_of dated outcome closes
reply_to Head dated outcome closes =
    head_text (head_of dated outcome closes) (length (body_of outcome))
reply_to Post dated outcome closes = reply_bytes_of dated outcome closes
reply_to Delete dated outcome closes = reply_bytes_of dated outcome closes
