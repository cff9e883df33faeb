-- The messages that are sent, as the grammar of heads and their framing read them.
use Rattle.std.proofs.Common.{◌≡◌, ◌∙◌, ℕ, ◌+◌, ◌<◌, ◌≤◌, Bool, true, false, true≢false, not, ◌&&◌, List, [], ◌∷◌, ◌++◌, length, get_or, reverse, codes, Result, Ok, refl, ap, sym, subst, subst₂, append_assoc, length-append, arith}
use Rattle.std.specs.Prelude.{All, IsTrue, IsUtf8, decimal, nat_le, nat_lt}
use Rattle.std.proofs.lemmas.Bool.{cond-false}
use Rattle.std.proofs.lemmas.Bool.Decides.{nat_tests}
use Rattle.std.specs.Char.{is_ascii_digit}
use Rattle.std.specs.List.{list_all}
use Rattle.std.specs.Str.Parse.{AllDigits, digits_value}
use Rattle.std.proofs.lemmas.Fmt.{decimal_is_IsNumeral, decimal_nonempty, length-decimal-le}
use Rattle.std.proofs.lemmas.List.Elements.{All-cons, All-nil, All-head, All-from_get_or, All-from_recursion}
use Rattle.std.proofs.lemmas.List.Sums.{list_all-from_AllPass}
use Rattle.std.proofs.lemmas.Str.Parse.{digit_at}
use Rattle.http1.specs.Text.{eq_ignore_case}
use Rattle.httparse.specs.Grammar.{AllPass, Field, IsField, IsRequestHead, RequestHead, crlf, is_ows, is_token_byte, is_uri_byte, is_value_byte, print_request, skip_ows, trim_ows}
use Rattle.httparse.proofs.GrammarLemmas.{cons-append, print_request-append}
use Rattle.httparse.proofs.TrimLemmas.{AllPass-reverse, trim_ows_space}
use Rattle.conversation.specs.declared.message.framing.Framing.{Framing}
use Rattle.conversation.specs.declared.message.message_fault.MessageFault.{MessageFault}
use Rattle.conversation.specs.declared.message.method.Method.{Method}
use Rattle.conversation.specs.declared.message.method.Method.TheVariants.{Get, Head, Post, Delete}
use Rattle.conversation.specs.message.Framing.{◌>>=◌, framing, framing_of, length_of, longest_body}
use Rattle.conversation.specs.message.Target.{path_of}
use Rattle.conversation.specs.message.Messages.{BeginsMessage, Message}
use Rattle.desk_client.specs.Message.{HasBodyOf, IsSendable, front_lines, length_line, longest_target, message_bytes}

not_true : (b : Bool) → IsTrue (not b) → b ≡ false
not_true true e = absurd (true≢false (sym e))
not_true false e = refl

-- ---- the length of a body

digits : (n : ℕ) → n ≤ longest_body → AllDigits 10 (decimal n)
digits n h = (decimal_is_IsNumeral n (omega (arith, h))).0.1

some : (n : ℕ) → n ≤ longest_body → 0 < length (decimal n)
some n h = decimal_nonempty n (omega (arith, h))

value : (n : ℕ) → n ≤ longest_body → digits_value 10 (decimal n) ≡ n
value n h = (decimal_is_IsNumeral n (omega (arith, h))).1

-- what holds of each decimal digit holds of each byte of a number
each_digit : (P : ℕ → Type 0) → ((b : ℕ) → 48 ≤ b → b ≤ 57 → P b) → (n : ℕ) → n ≤ longest_body → All P (decimal n)
each_digit P holds n h = All-from_get_or P (decimal n) 0 (λ i inside.
    let digit = digit_at (decimal n) i (digits n h) inside in
    holds (get_or (decimal n) i 0) digit.0 digit.1)

is_digit : (b : ℕ) → 48 ≤ b → b ≤ 57 → is_ascii_digit b ≡ true
is_digit b low high = grind (arith, nat_tests)

is_value : (b : ℕ) → 48 ≤ b → b ≤ 57 → IsTrue (is_value_byte b)
is_value b low high = grind (arith, nat_tests)

is_solid : (b : ℕ) → 48 ≤ b → b ≤ 57 → IsTrue (not (is_ows b))
is_solid b low high = grind (arith, nat_tests)

-- a number is read as it is written
length_again : (n : ℕ) → n ≤ longest_body → length_of (decimal n) ≡ Ok n
length_again n h =
    let there = some n h in
    let one : nat_lt 0 (length (decimal n)) ≡ true = grind (arith, nat_tests) in
    let all : list_all is_ascii_digit (decimal n) ≡ true =
    list_all-from_AllPass is_ascii_digit (decimal n) (each_digit (λ b. is_ascii_digit b ≡ true) is_digit n h) in
    let within : nat_le n longest_body ≡ true = grind (arith, nat_tests) in
    rw (one, all, value n h, within) refl

-- what begins with no white space is trimmed of none
kept : (v : List ℕ) → AllPass (λ b. not (is_ows b)) v → skip_ows v ≡ v
kept [] solid = refl
kept (b ∷ v) solid = cond-false _ _ _ (not_true (is_ows b) (All-head (λ x. IsTrue (not (is_ows x))) b v solid))

trimmed : (n : ℕ) → n ≤ longest_body → trim_ows (32 ∷ decimal n) ≡ decimal n
trimmed n h =
    let solid = each_digit (λ b. IsTrue (not (is_ows b))) is_solid n h in
    trim_ows_space (decimal n) (kept (decimal n) solid) (kept (reverse (decimal n)) (AllPass-reverse (λ b. not (is_ows b)) (decimal n) solid))

-- ---- heads

host_field : Field
host_field = record { name = codes "Host"; raw = codes " desk"; end = crlf }

abbrev length_field : ℕ → Field
length_field n = record { name = codes "Content-Length"; raw = 32 ∷ decimal n; end = crlf }

abbrev get_head : List ℕ → RequestHead
get_head target =
    record { blank = []; method = codes "GET"; target = target; minor = 1; line_end = crlf; fields = host_field ∷ []; last = crlf }

abbrev delete_head : List ℕ → RequestHead
delete_head target =
    record { blank = []; method = codes "DELETE"; target = target; minor = 1; line_end = crlf; fields = host_field ∷ []; last = crlf }

abbrev post_head : List ℕ → ℕ → RequestHead
post_head target n =
    record { blank = []; method = codes "POST"; target = target; minor = 1; line_end = crlf; fields = host_field ∷ length_field n ∷ []; last = crlf }

abbrev Visible : List ℕ → Type 0
Visible target = (0 < length target) × (length target ≤ longest_target) × IsUtf8 target × AllPass is_uri_byte target

host_is : IsField host_field
unfolding is_token_byte host_field
host_is = record {
  name = (omega arith, All-from_recursion (λ b. IsTrue (is_token_byte b)) (codes "Host") (refl, (refl, (refl, (refl, tt)))));
  raw = All-from_recursion (λ b. IsTrue (is_value_byte b)) (codes " desk") (refl, (refl, (refl, (refl, (refl, tt)))));
}

length_is : (n : ℕ) → n ≤ longest_body → IsField (length_field n)
unfolding is_token_byte
length_is n h = record {
  name = (
    omega arith,
    All-from_recursion (λ b. IsTrue (is_token_byte b)) (codes "Content-Length")
        (refl, (refl, (refl, (refl, (refl, (refl, (refl, (refl, (refl, (refl, (refl, (refl, (refl, (refl, tt)))))))))))))),
  );
  raw = All-cons (λ b. IsTrue (is_value_byte b)) 32 (decimal n) refl (each_digit (λ b. IsTrue (is_value_byte b)) is_value n h);
}

get_is : (target : List ℕ) → Visible target → IsRequestHead (get_head target)
unfolding is_token_byte
get_is target seen = record {
  method = (omega arith, All-from_recursion (λ b. IsTrue (is_token_byte b)) (codes "GET") (refl, (refl, (refl, tt))));
  target = (seen.0, seen.3);
  target_text = seen.2;
  minor = omega arith;
  fields = All-cons IsField host_field [] host_is (All-nil IsField);
}

delete_is : (target : List ℕ) → Visible target → IsRequestHead (delete_head target)
unfolding is_token_byte
delete_is target seen = record {
  method = (omega arith, All-from_recursion (λ b. IsTrue (is_token_byte b)) (codes "DELETE") (refl, (refl, (refl, (refl, (refl, (refl, tt)))))));
  target = (seen.0, seen.3);
  target_text = seen.2;
  minor = omega arith;
  fields = All-cons IsField host_field [] host_is (All-nil IsField);
}

post_is : (target : List ℕ) (n : ℕ) → Visible target → n ≤ longest_body → IsRequestHead (post_head target n)
unfolding is_token_byte
post_is target n seen h = record {
  method = (omega arith, All-from_recursion (λ b. IsTrue (is_token_byte b)) (codes "POST") (refl, (refl, (refl, (refl, tt)))));
  target = (seen.0, seen.3);
  target_text = seen.2;
  minor = omega arith;
  fields = All-cons IsField host_field (length_field n ∷ []) host_is (All-cons IsField (length_field n) [] (length_is n h) (All-nil IsField));
}

-- ---- their bytes

abbrev host_line : List ℕ
host_line = codes " HTTP/1.1\r\nHost: desk\r\n"

two : (t a b r : List ℕ) → ((t ++ a) ++ b) ++ r ≡ t ++ (a ++ (b ++ r))
two t a b r = simp append_assoc

get_bytes : (target rest : List ℕ) → message_bytes Get target [] ++ rest ≡ print_request (get_head target) ++ rest
unfolding front_lines host_field
get_bytes target rest =
    ap (λ (behind : List ℕ). 71 ∷ 69 ∷ 84 ∷ 32 ∷ behind) (two target host_line (13 ∷ 10 ∷ []) rest)
    ∙ sym (print_request-append (get_head target) rest)

delete_bytes : (target rest : List ℕ) → message_bytes Delete target [] ++ rest ≡ print_request (delete_head target) ++ rest
unfolding front_lines host_field
delete_bytes target rest =
    ap (λ (behind : List ℕ). 68 ∷ 69 ∷ 76 ∷ 69 ∷ 84 ∷ 69 ∷ 32 ∷ behind) (two target host_line (13 ∷ 10 ∷ []) rest)
    ∙ sym (print_request-append (delete_head target) rest)

regroup : (t h c d body rest : List ℕ) → ((t ++ h) ++ ((c ++ (d ++ 13 ∷ 10 ∷ [])) ++ (13 ∷ 10 ∷ body))) ++ rest
    ≡ t ++ (h ++ (c ++ ((((d ++ 13 ∷ 10 ∷ []) ++ []) ++ 13 ∷ 10 ∷ []) ++ (body ++ rest))))
regroup t h c d body rest = simp (append_assoc, cons-append)

post_bytes : (target body rest : List ℕ) → message_bytes Post target body ++ rest ≡ print_request (post_head target (length body)) ++ (body ++ rest)
unfolding front_lines length_line host_field
post_bytes target body rest =
    ap (λ (behind : List ℕ). 80 ∷ 79 ∷ 83 ∷ 84 ∷ 32 ∷ behind)
    (regroup target host_line (codes "Content-Length: ") (decimal (length body)) body rest)
    ∙ sym (print_request-append (post_head target (length body)) (body ++ rest))

three : (t a b : List ℕ) → length ((t ++ a) ++ b) ≡ (length t + length a) + length b
three t a b = simp length-append

get_short : (target : List ℕ) → length target ≤ longest_target → length (print_request (get_head target)) ≤ 8192
unfolding front_lines
get_short target h =
    let same = ap length (get_bytes target []) in
    omega (
      arith,
      h,
      same,
      length-append (message_bytes Get target []) [],
      length-append (print_request (get_head target)) [],
      three target host_line (13 ∷ 10 ∷ []),
    )

delete_short : (target : List ℕ) → length target ≤ longest_target → length (print_request (delete_head target)) ≤ 8192
unfolding front_lines
delete_short target h =
    let same = ap length (delete_bytes target []) in
    omega (
      arith,
      h,
      same,
      length-append (message_bytes Delete target []) [],
      length-append (print_request (delete_head target)) [],
      three target host_line (13 ∷ 10 ∷ []),
    )

line_len : (n : ℕ) → n ≤ longest_body → length (length_line n) ≤ 25
unfolding length_line
line_len n h = omega (arith, length-append (decimal n) (13 ∷ 10 ∷ []), length-decimal-le 7 n (omega arith) (omega (arith, h)) (omega (arith, h)))

post_short : (target body : List ℕ) → length target ≤ longest_target → length body ≤ longest_body
    → length (print_request (post_head target (length body))) ≤ 8192
unfolding front_lines
post_short target body h k =
    let same = ap length (post_bytes target body []) in
    omega (
      arith,
      h,
      k,
      same,
      line_len (length body) k,
      length-append body [],
      length-append (message_bytes Post target body) [],
      length-append (print_request (post_head target (length body))) (body ++ []),
      three target host_line (length_line (length body) ++ (13 ∷ 10 ∷ body)),
      length-append (length_line (length body)) (13 ∷ 10 ∷ body),
    )

-- ---- their framing

get_framed : (target : List ℕ) → framing_of (get_head target) ≡ Ok (record { method = Get; body = 0; closes = false; expects = false })
unfolding framing trim_ows host_field eq_ignore_case
get_framed target = refl

delete_framed : (target : List ℕ) → framing_of (delete_head target) ≡ Ok (record { method = Delete; body = 0; closes = false; expects = false })
unfolding framing trim_ows host_field eq_ignore_case
delete_framed target = refl

-- what the head of a message with such a body says, where it expects an interim reply or none
abbrev post_says : ℕ → Bool → Result Framing MessageFault
post_says n expects = Ok (record { method = Post; body = n; closes = false; expects = expects })

nothing_more : (b : Bool) → (b && false) ≡ false
nothing_more true = refl
nothing_more false = refl

-- by the value of the field that tells the length
framed : (v : List ℕ) (n : ℕ) → length_of v ≡ Ok n
    → framing (codes "POST") 1 ((codes "Host", codes "desk") ∷ (codes "Content-Length", v) ∷ []) ≡ post_says n false
unfolding framing eq_ignore_case
framed v n e =
    ap (λ (r : Result ℕ MessageFault). r >>= (λ body. post_says body (nat_lt 0 body && false))) e
    ∙ ap (post_says n) (nothing_more (nat_lt 0 n))

post_framed : (target : List ℕ) (n : ℕ) → n ≤ longest_body → framing_of (post_head target n) ≡ post_says n false
unfolding trim_ows host_field
post_framed target n h =
    ap (λ v. framing (codes "POST") 1 ((codes "Host", codes "desk") ∷ (codes "Content-Length", v) ∷ [])) (trimmed n h)
    ∙ framed (decimal n) n (length_again n h)

-- ---- messages

begins : (method : Method) (target body rest : List ℕ) → Visible target → path_of target ≡ target → HasBodyOf method body
    → BeginsMessage (message_bytes method target body ++ rest)
    (record { method = method; target = target; body = body; closes = false; expects = false }) rest
begins Get target body rest seen path none =
    subst (λ b. BeginsMessage (message_bytes Get target b ++ rest) (record { method = Get; target = target; body = b; closes = false; expects = false })
    rest) (sym none) (record {
      head = get_head target;
      begins = record {
        reads = (get_is target seen, get_bytes target rest);
        fields = omega arith;
        bytes = get_short target seen.1;
      };
      target = path;
      framed = get_framed target;
    })
begins Head target body rest seen path none = absurd none
begins Delete target body rest seen path none =
    subst (λ b. BeginsMessage (message_bytes Delete target b ++ rest) (record { method = Delete; target = target; body = b; closes = false; expects = false })
    rest) (sym none) (record {
      head = delete_head target;
      begins = record {
        reads = (delete_is target seen, delete_bytes target rest);
        fields = omega arith;
        bytes = delete_short target seen.1;
      };
      target = path;
      framed = delete_framed target;
    })
begins Post target body rest seen path h = record {
  head = post_head target (length body);
  begins = record {
    reads = (post_is target (length body) seen h, post_bytes target body rest);
    fields = omega arith;
    bytes = post_short target body seen.1 h;
  };
  target = path;
  framed = post_framed target (length body) h;
}

-- a desk reads the bytes of a message that can be sent as this message
pub is_message : (m : Message) (rest : List ℕ) → IsSendable m → BeginsMessage (message_bytes m.method m.target m.body ++ rest) m rest
is_message m rest sendable =
    subst₂ (λ (closes expects : Bool). BeginsMessage (message_bytes m.method m.target m.body ++ rest)
    (record { method = m.method; target = m.target; body = m.body; closes = closes; expects = expects }) rest)
    (sym sendable.goes_on) (sym sendable.needs_none)
    (begins m.method m.target m.body rest (sendable.some, sendable.short, sendable.text, sendable.visible) sendable.path sendable.body)
