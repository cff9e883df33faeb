-- The replies of a desk are the texts that are read.
use Rattle.std.proofs.Common.{◌≡◌, ◌∙◌, ℕ, ◌≤◌, false, List, [], ◌∷◌, ◌++◌, length, codes, Bool, true, false, Option, Some, None, Ok, Err, ℤ, pos, negsuc, refl, ap, sym, subst, arith, append_assoc, append-nil}
use Rattle.std.specs.Fmt.{decimal, digits}
use Rattle.std.specs.Prelude.{◌&&◌, if◌then◌else◌, nat_le, option_map}
use Rattle.std.proofs.lemmas.Bool.Decides.{nat_tests}
use Rattle.sts_fields.specs.Moment.{IsMoment, first_moment, last_moment}
use Rattle.book_states.specs.declared.lookup.Found.{Found}
use Rattle.book_states.specs.declared.lookup.Found.TheVariants as found
use Rattle.desk_messages.specs.declared.desk_fault.DeskFault.{DeskFault}
use Rattle.desk_messages.specs.declared.desk_fault.DeskFault.TheVariants as faults
use Rattle.desk_messages.specs.declared.reply.form.Form.{Form}
use Rattle.desk_messages.specs.declared.reply.form.Form.TheVariants as forms
use Rattle.desk_messages.specs.declared.reply.outcome.Outcome.{Outcome}
use Rattle.desk_messages.specs.declared.reply.outcome.Outcome.TheVariants as outcomes
use Rattle.desk_messages.specs.reply.Body.{refusal_text, sale_body}
use Rattle.desk_messages.specs.reply.Head.{category_status}
use Rattle.desk_messages.specs.reply.HttpDate.{IsDateAt, http_date, moment_given}
use Rattle.desk_messages.specs.reply.Records.{fault_text}
use Rattle.desk_messages.specs.reply.Text.{date_line, field_line, line_end, reply_bytes_of, reply_text, status_line}
use Rattle.office_rules.specs.Decision.Refusals.{refusal_category}
use Rattle.office_rules.specs.declared.decision.answer.Answer.{Answer}
use Rattle.office_rules.specs.declared.decision.answer.Answer.TheVariants as answers
use Rattle.office_rules.specs.declared.decision.category.Category.{Category}
use Rattle.office_rules.specs.declared.decision.category.Category.TheVariants as categories
use Rattle.office_rules.specs.declared.decision.refusal.Refusal.{Refusal}
use Rattle.office_rules.specs.declared.office.sale.Sale.{Sale}
use Rattle.desk_client.specs.Page.{page_as_read}
use Rattle.desk_client.specs.Reply.{IsReplyReading, IsReply, head_bytes, longest_reply_body}
use Rattle.desk_client.specs.Reply as replies
use Rattle.desk_client.specs.Start.{IsDated, category_start, head_end}
use Rattle.desk_client.specs.Tells.{Tells, TellsReplyAnswer, TellsFault, TellsReplyFound, TellsPage, TellsPaper, TellsReplySale, as_told}
use Rattle.desk_client.specs.Told.{IsTellable, told_start, told_text}
use Rattle.desk_client.specs.declared.reply.Reading.{Reading}
use Rattle.desk_client.specs.declared.reply.Reading.TheVariants as readings
use Rattle.desk_client.specs.declared.start.Start.TheVariants.{Json, Paper}
use Rattle.desk_client.specs.declared.told.Granted.{Granted}
use Rattle.desk_client.specs.declared.told.Granted.TheVariants as granted
use Rattle.desk_client.specs.declared.told.Told.{Told}
use Rattle.desk_client.specs.declared.told.Told.TheVariants as told
use Rattle.asks.specs.declared.endpoint.Grants.{Grants}

-- ---- heads

right-most : (line kind name len end date body : List ℕ)
    → line ++ kind ++ (name ++ len ++ end) ++ date ++ [] ++ [] ++ end ++ body ≡ line ++ (kind ++ (name ++ (len ++ (end ++ (date ++ (end ++ body))))))
right-most line kind name len end date body = simp (append_assoc, append-nil)

-- the line with the date, and the empty one
date-pieces : (dated : Option ℕ) (body : List ℕ) → line_end ++ (date_line dated ++ (line_end ++ body)) ≡ head_end (option_map http_date dated) ++ body
unfolding field_line
date-pieces None body = refl
date-pieces (Some moment) body =
    let date = http_date moment in
    ap (λ (behind : List ℕ). 13 ∷ 10 ∷ (codes "Date: " ++ behind)) (append_assoc date line_end (line_end ++ body) ∙ sym (append_assoc date (13 ∷ 10 ∷ 13 ∷ 10 ∷ []) body))

ok-line : status_line 200 ≡ codes "HTTP/1.1 200 OK\r\n"
unfolding status_line digits
ok-line = refl

missing-line : status_line 404 ≡ codes "HTTP/1.1 404 Not Found\r\n"
unfolding status_line digits
missing-line = refl

forbidden-line : status_line 409 ≡ codes "HTTP/1.1 409 Conflict\r\n"
unfolding status_line digits
forbidden-line = refl

unfit-line : status_line 422 ≡ codes "HTTP/1.1 422 Unprocessable Entity\r\n"
unfolding status_line digits
unfit-line = refl

unable-line : status_line 503 ≡ codes "HTTP/1.1 503 Service Unavailable\r\n"
unfolding status_line digits
unable-line = refl

module _ (dated : Option ℕ) where
  -- the date of the head
  abbrev date : Option (List ℕ)
  date = option_map http_date dated

  json-head : (status : ℕ) (line body : List ℕ) → status_line status ≡ line
      → reply_text (record { status = status; form = forms.Json; dated = dated; allowed = None; closes = false }) body
      ≡ line ++ (codes "Content-Type: application/json\r\nContent-Length: " ++ (decimal (length body) ++ (head_end date ++ body)))
  unfolding reply_text field_line
  json-head status line body is =
      rw is (right-most line (codes "Content-Type: application/json\r\n") (codes "Content-Length: ") (decimal (length body)) line_end (date_line dated) body
      ∙ ap (λ (behind : List ℕ). line ++ (codes "Content-Type: application/json\r\nContent-Length: " ++ (decimal (length body) ++ behind))) (date-pieces dated body))

  paper-head : (status : ℕ) (line body : List ℕ) → status_line status ≡ line
      → reply_text (record { status = status; form = forms.Paper; dated = dated; allowed = None; closes = false }) body
      ≡ line ++ (codes "Content-Type: text/plain\r\nContent-Length: " ++ (decimal (length body) ++ (head_end date ++ body)))
  unfolding reply_text field_line
  paper-head status line body is =
      rw is (right-most line (codes "Content-Type: text/plain\r\n") (codes "Content-Length: ") (decimal (length body)) line_end (date_line dated) body
      ∙ ap (λ (behind : List ℕ). line ++ (codes "Content-Type: text/plain\r\nContent-Length: " ++ (decimal (length body) ++ behind))) (date-pieces dated body))

  json-reply : (body : List ℕ) → reply_text (record { status = 200; form = forms.Json; dated = dated; allowed = None; closes = false }) body ≡ head_bytes Json (length body) date body
  json-reply body = json-head 200 _ body ok-line

  paper-reply : (body : List ℕ) → reply_text (record { status = 200; form = forms.Paper; dated = dated; allowed = None; closes = false }) body
      ≡ head_bytes Paper (length body) date body
  paper-reply body = paper-head 200 _ body ok-line

  category-reply : (c : Category) (body : List ℕ)
      → reply_text (record { status = category_status c; form = forms.Json; dated = dated; allowed = None; closes = false }) body
      ≡ head_bytes (category_start c) (length body) date body
  category-reply categories.Missing body = json-head 404 _ body missing-line
  category-reply categories.Forbidden body = json-head 409 _ body forbidden-line
  category-reply categories.Unfit body = json-head 422 _ body unfit-line
  category-reply (categories.UnfitRow row cause) body = json-head 422 _ body unfit-line
  category-reply categories.Unable body = json-head 503 _ body unable-line

  -- ---- replies

  json_says : (body : List ℕ) (g : Granted) → told_start (told.Granted g) ≡ Json → body ≡ told_text (told.Granted g)
      → reply_text (record { status = 200; form = forms.Json; dated = dated; allowed = None; closes = false }) body ≡ replies.reply_text date (told.Granted g)
  json_says body g start is = rw (start, sym is) (json-reply body)

  paper_says : (text : List ℕ) (t : Told) → TellsPaper text t
      → reply_text (record { status = 200; form = forms.Paper; dated = dated; allowed = None; closes = false }) text ≡ replies.reply_text date t
  paper_says text (told.Granted (granted.Paper paper)) h = rw h (paper-reply text)
  paper_says text (told.Granted granted.Done) h = absurd h
  paper_says text (told.Granted (granted.Imported n)) h = absurd h
  paper_says text (told.Granted (granted.Withdrawn n)) h = absurd h
  paper_says text (told.Granted (granted.Shift n)) h = absurd h
  paper_says text (told.Granted (granted.Sale s)) h = absurd h
  paper_says text (told.Granted (granted.Meter m)) h = absurd h
  paper_says text (told.Granted (granted.Quote q)) h = absurd h
  paper_says text (told.Granted (granted.Totals n t)) h = absurd h
  paper_says text (told.Granted (granted.Page page)) h = absurd h
  paper_says text (told.Refused r) h = absurd h
  paper_says text told.NoMoment h = absurd h

  -- a page, by the text that the desk writes of it
  page_says : (page : Found) (t : Told) → TellsPage page t
      → reply_text (record { status = 200; form = forms.Json; dated = dated; allowed = None; closes = false }) (page_as_read page) ≡ replies.reply_text date t
  page_says page (told.Granted (granted.Page text)) h = rw h (json-reply (page_as_read page))
  page_says page (told.Granted granted.Done) h = absurd h
  page_says page (told.Granted (granted.Imported n)) h = absurd h
  page_says page (told.Granted (granted.Withdrawn n)) h = absurd h
  page_says page (told.Granted (granted.Shift n)) h = absurd h
  page_says page (told.Granted (granted.Sale s)) h = absurd h
  page_says page (told.Granted (granted.Meter m)) h = absurd h
  page_says page (told.Granted (granted.Quote q)) h = absurd h
  page_says page (told.Granted (granted.Totals n t)) h = absurd h
  page_says page (told.Granted (granted.Paper paper)) h = absurd h
  page_says page (told.Refused r) h = absurd h
  page_says page told.NoMoment h = absurd h

  sale_says : (form : Form) (sale : Sale) (t : Told) → TellsReplySale form sale t
      → reply_text (record { status = 200; form = form; dated = dated; allowed = None; closes = false }) (sale_body form sale) ≡ replies.reply_text date t
  sale_says forms.Json sale t h =
      json_says _ (granted.Sale (as_told sale)) refl refl ∙ ap (replies.reply_text date) (sym h)
  sale_says forms.Paper sale t h = paper_says _ t h

  answer_says : (form : Form) (answer : Answer) (t : Told) → TellsReplyAnswer form answer t
      → reply_bytes_of dated (outcomes.Replied form (Ok answer)) false ≡ replies.reply_text date t
  answer_says form answers.Done t h = json_says _ granted.Done refl refl ∙ ap (replies.reply_text date) (sym h)
  answer_says form (answers.Imported n) t h = json_says _ (granted.Imported n) refl refl ∙ ap (replies.reply_text date) (sym h)
  answer_says form (answers.Withdrawn n) t h = json_says _ (granted.Withdrawn n) refl refl ∙ ap (replies.reply_text date) (sym h)
  answer_says form (answers.Opened n) t h = json_says _ (granted.Shift n) refl refl ∙ ap (replies.reply_text date) (sym h)
  answer_says form (answers.Closed n) t h = json_says _ (granted.Shift n) refl refl ∙ ap (replies.reply_text date) (sym h)
  answer_says form (answers.Sold sale) t h = sale_says form sale t h
  answer_says form (answers.Reprinted sale) t h = sale_says form sale t h
  answer_says form (answers.Report shift sales) t h = paper_says _ t h

  found_says : (form : Form) (it : Found) (t : Told) → TellsReplyFound form it t
      → reply_bytes_of dated (outcomes.Found form (Ok it)) false ≡ replies.reply_text date t
  found_says form (found.Health health) t h = absurd h
  found_says form (found.Meter m) t h =
      json_says _ (granted.Meter m) refl refl ∙ ap (replies.reply_text date) (sym h)
  found_says form (found.Sale sale) t h = sale_says form sale t h
  found_says form (found.Quote q) t h =
      json_says _ (granted.Quote q) refl refl ∙ ap (replies.reply_text date) (sym h)
  found_says form (found.ShiftTotals n totals) t h =
      json_says _ (granted.Totals n totals) refl refl ∙ ap (replies.reply_text date) (sym h)
  found_says form (found.Tariffs page) t h = page_says (found.Tariffs page) t h
  found_says form (found.Meters page) t h = page_says (found.Meters page) t h
  found_says form (found.Shifts page) t h = page_says (found.Shifts page) t h
  found_says form (found.Sales page) t h = page_says (found.Sales page) t h

  fault_says : (fault : DeskFault) (t : Told) → TellsFault fault t → reply_bytes_of dated (outcomes.Faulty fault) false ≡ replies.reply_text date t
  fault_says faults.NoRoute t h = absurd h
  fault_says (faults.Method allowed) t h = absurd h
  fault_says faults.Clock t h = rw h (category-reply categories.Unable (fault_text (codes "Clock")))
  fault_says faults.Body t h = absurd h

  refused_says : (r : Refusal) (t : Told) → t ≡ told.Refused r
      → reply_text (record { status = category_status (refusal_category r); form = forms.Json; dated = dated; allowed = None; closes = false }) (refusal_text r)
      ≡ replies.reply_text date t
  refused_says r t h = category-reply (refusal_category r) (refusal_text r) ∙ ap (replies.reply_text date) (sym h)

  -- what a desk replies is the text of what the reply tells
  pub says : (outcome : Outcome) (t : Told) → Tells outcome t
      → reply_bytes_of dated outcome false ≡ replies.reply_text date t
  says (outcomes.Refused fault) t h = absurd h
  says (outcomes.Faulty fault) t h = fault_says fault t h
  says (outcomes.Replied form (Ok answer)) t h = answer_says form answer t h
  says (outcomes.Replied form (Err refusal)) t h = refused_says refusal t h
  says (outcomes.Found form (Ok it)) t h = found_says form it t h
  says (outcomes.Found form (Err refusal)) t h = refused_says refusal t h

-- where a text is a reply, it is read as a whole one
pub is_whole : (asked : Grants) (text : List ℕ) (t : Told) (reading : Reading) → IsReply asked text t → IsReplyReading asked text reading
    → (read : Told) × (reading ≡ readings.Whole read) × IsReply asked text read
is_whole asked text t (readings.Whole read) reply h = (read, refl, h)
is_whole asked text t readings.NeedHead reply h = absurd (h.1 t reply)
is_whole asked text t (readings.NeedBody missing) reply h =
    let none = h.1 [] t (subst (λ (x : List ℕ). IsReply asked x t) (sym (append-nil text)) reply) in
    absurd (omega (arith, h.0, none))
is_whole asked text t readings.OutOfForm reply h = absurd (h [] t (subst (λ (x : List ℕ). IsReply asked x t) (sym (append-nil text)) reply))

-- the date of a reply, by what the clock gave
abbrev pub date_given : Option ℤ → Option (List ℕ)
date_given now = option_map http_date (moment_given now)

-- is one that HTTP has
pub given_dated : ((moment : ℕ) → IsMoment moment → IsDateAt moment (http_date moment)) → (now : Option ℤ) → IsDated (date_given now)
given_dated dates None = tt
given_dated dates (Some (negsuc n)) = tt
given_dated dates (Some (pos n)) = by (nat_le first_moment n && nat_le n last_moment) refl
  where
    by : (t : Bool) → (nat_le first_moment n && nat_le n last_moment) ≡ t → IsDated (option_map http_date (if t then Some n else None))
    by true e =
        let date = dates n (grind (arith, nat_tests), grind (arith, nat_tests)) in
        (date.0, date.2)
    by false e = tt

-- a reply that is not too long is one that is read
pub is_reply : ((moment : ℕ) → IsMoment moment → IsDateAt moment (http_date moment))
    → (asked : Grants) (now : Option ℤ) (outcome : Outcome) (t : Told) → Tells outcome t → IsTellable asked t
    → length (told_text t) ≤ longest_reply_body → IsReply asked (reply_bytes_of (moment_given now) outcome false) t
is_reply dates asked now outcome t h tellable few =
    record {
      tellable = tellable;
      short = few;
      dated = date_given now;
      is_dated = given_dated dates now;
      is_text = says (moment_given now) outcome t h;
    }
