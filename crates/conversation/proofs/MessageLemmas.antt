-- What stands at the front of an input, from its head.
use Rattle.std.proofs.Common.{◌≡◌, ◌≢◌, ℕ, zero, suc, get_or, ◌+◌, ◌<◌, ◌≤◌, Bool, true, false, cond, List, [], ◌∷◌, ◌++◌, length, map, take, drop, Result, Ok, Err, refl, ap, sym, subst, ◌∙◌, arith, append_assoc, lit<, lit≤}
use Rattle.std.specs.Prelude.{nat_le, bytes_eq, codes}
use Rattle.std.specs.Str.Parse.{digits_value}
use Rattle.std.proofs.lemmas.List.{length-append, append-nil, drop-drop, length-take-le, take-append-drop}
use Rattle.std.proofs.lemmas.List.Elements.{All-cons, All-nil}
use Rattle.std.proofs.lemmas.Bool.Decides.{nat_tests}
use Rattle.std.proofs.lemmas.Str.{IsUtf8-from_ascii}
use Rattle.std.specs.Prelude.{All, IsTrue}
use Rattle.httparse.specs.Grammar.{IsField, is_token_byte, is_uri_byte, RequestHead, IsRequestHead, lf, print_request}
use Rattle.httparse.specs.Spans.{name_and_value, span_bytes}
use Rattle.httparse.specs.declared.spans.HeaderSpan.{HeaderSpan}
use Rattle.httparse.specs.declared.spans.RequestSpans.{RequestSpans}
use Rattle.httparse.proofs.GrammarLemmas.{ReadsRequest-append}
use Rattle.conversation.specs.declared.message.framing.Framing.{Framing}
use Rattle.conversation.specs.declared.message.message_fault.MessageFault.{MessageFault}
use Rattle.conversation.specs.declared.message.message_fault.MessageFault.TheVariants.{Head, Host, Coding, Length, Body}
use Rattle.conversation.specs.message.Fields.{fields_at, values_of}
use Rattle.conversation.specs.message.Framing.{◌>>=◌, body_len, expects_interim, framing, framing_of, is_number, is_last, is_uncoded, length_of, longest_body, method_of, names_its_host, unless}
use Rattle.conversation.specs.declared.message.message_fault.MessageFault.TheVariants as faults
use Rattle.conversation.specs.declared.message.method.Method.TheVariants.{Get, Post}
use Rattle.conversation.specs.declared.message.method.Method.TheVariants as methods
use Rattle.conversation.specs.declared.message.method.Method.{Method}
use Rattle.conversation.specs.message.Front.{IsHeadAt}
use Rattle.conversation.specs.message.Heads.{BeginsWithHead, NeverHasHead}
use Rattle.conversation.specs.message.Messages.{Stop, ended, failed, BeginsMessage, BeginsFaulty, IsMessageRefused}
use Rattle.conversation.specs.message.Next.{IsRefusedEver}
use Rattle.conversation.specs.message.Target.{path_of}

-- a head stands at the front whatever follows
pub BeginsWith-append : (input : List ℕ) (head : RequestHead) (rest more : List ℕ) → BeginsWithHead input head rest
    → BeginsWithHead (input ++ more) head (rest ++ more)
BeginsWith-append input head rest more begins = record {
  reads = ReadsRequest-append input head rest more begins.reads;
  fields = begins.fields;
  bytes = begins.bytes;
}

-- what the parts of a head say is what the head says
pub framing_at : (input : List ℕ) (fields : List HeaderSpan) (spans : RequestSpans) (method : List ℕ)
    → (at : IsHeadAt input fields spans) → method ≡ span_bytes input spans.method
    → framing method spans.version (fields_at input (take spans.headers fields)) ≡ framing_of at.head
framing_at input fields spans method at same =
    let pairs = fields_at input (take spans.headers fields) in
    ap (λ m. framing m spans.version pairs) (same ∙ at.parts.method)
    ∙ ap (λ v. framing at.head.method v pairs) at.parts.version
    ∙ ap (framing at.head.method at.head.minor) at.parts.fields

-- a fault that a head has is never that there is none
abbrev IsOfHead : {A : Type 0} → Result A MessageFault → Type 0
IsOfHead {A} r = r ≢ Err Head

-- what a head says, by what its parts say
abbrev parts : Result Method MessageFault → Bool → Bool → Result ℕ MessageFault → Bool → (ℕ → Bool) → Result Framing MessageFault
parts method host coded body last expects =
    method >>= λ name. unless host faults.Host >>= λ _. unless coded faults.Coding >>= λ _. body >>= λ len.
    Ok (record { method = name; body = len; closes = last; expects = expects len })

of_method : (name : List ℕ) → IsOfHead (method_of name)
of_method name =
    by_tests (bytes_eq name (codes "GET")) (bytes_eq name (codes "POST")) (bytes_eq name (codes "HEAD")) (bytes_eq name (codes "DELETE"))
  where
    by_tests : (a b c d : Bool)
        → IsOfHead (cond a (Ok Get) (cond b (Ok Post) (cond c (Ok methods.Head) (cond d (Ok methods.Delete) (Err faults.Method)))))
    by_tests true b c d e = absurd (cc)
    by_tests false true c d e = absurd (cc)
    by_tests false false true d e = absurd (cc)
    by_tests false false false true e = absurd (cc)
    by_tests false false false false e = absurd (cc)

of_length : (value : List ℕ) → IsOfHead (length_of value)
of_length value = by_tests (is_number value) (nat_le (digits_value 10 value) longest_body)
  where
    by_tests : (a b : Bool) → IsOfHead (cond a (cond b (Ok (digits_value 10 value)) (Err faults.Body)) (Err faults.Length))
    by_tests true true e = absurd (cc)
    by_tests true false e = absurd (cc)
    by_tests false b e = absurd (cc)

of_body : (values : List (List ℕ)) → IsOfHead (body_len values)
of_body [] e = absurd (cc)
of_body (value ∷ []) e = of_length value e
of_body (value ∷ other ∷ values) e = absurd (cc)

of_parts : (method : Result Method MessageFault) (host coded last : Bool) (expects : ℕ → Bool) (body : Result ℕ MessageFault)
    → IsOfHead method → IsOfHead body → IsOfHead (parts method host coded body last expects)
of_parts (Err fault) host coded last expects body first then e = first (cc)
of_parts (Ok method) false coded last expects body first then e = absurd (cc)
of_parts (Ok method) true false last expects body first then e = absurd (cc)
of_parts (Ok method) true true last expects (Err fault) first then e = then (cc)
of_parts (Ok method) true true last expects (Ok body) first then e = absurd (cc)

not_head : (head : RequestHead) → framing_of head ≢ Err Head
unfolding framing
not_head head =
    let fields = map name_and_value head.fields in
    of_parts (method_of head.method) (names_its_host head.minor fields) (is_uncoded fields) (is_last head.minor fields)
    (λ len. expects_interim head.minor len fields) (body_len (values_of (codes "content-length") fields)) (of_method head.method) (of_body (values_of (codes "content-length") fields))

-- a length that a value writes is one that a body may have
len_fits : (value : List ℕ) (n : ℕ) → length_of value ≡ Ok n → n ≤ longest_body
len_fits value n = by_tests (is_number value) (nat_le (digits_value 10 value) longest_body) refl
  where
    by_tests : (a b : Bool) → nat_le (digits_value 10 value) longest_body ≡ b
        → cond a (cond b (Ok (digits_value 10 value)) (Err faults.Body)) (Err faults.Length) ≡ Ok n → n ≤ longest_body
    by_tests true true t e = let same : digits_value 10 value ≡ n = cc in grind (arith, nat_tests)
    by_tests true false t e = absurd (cc)
    by_tests false b t e = absurd (cc)

body_fits : (values : List (List ℕ)) (n : ℕ) → body_len values ≡ Ok n → n ≤ longest_body
body_fits [] n e = let same : 0 ≡ n = cc in omega (arith, same)
body_fits (value ∷ []) n e = len_fits value n e
body_fits (value ∷ other ∷ values) n e = absurd (cc)

parts_fit : (method : Result Method MessageFault) (host coded last : Bool) (expects : ℕ → Bool) (body : Result ℕ MessageFault) (f : Framing)
    → ((n : ℕ) → body ≡ Ok n → n ≤ longest_body) → parts method host coded body last expects ≡ Ok f → f.body ≤ longest_body
parts_fit (Err fault) host coded last expects body f fits e = absurd (cc)
parts_fit (Ok method) false coded last expects body f fits e = absurd (cc)
parts_fit (Ok method) true false last expects body f fits e = absurd (cc)
parts_fit (Ok method) true true last expects (Err fault) f fits e = absurd (cc)
parts_fit (Ok method) true true last expects (Ok body) f fits e =
    let framing : Framing = record { method = method; body = body; closes = last; expects = expects body } in
    let both : Ok framing ≡ Ok f = e in
    let same : framing ≡ f = cc in
    subst (λ (g : Framing). g.body ≤ longest_body) same (fits body refl)

-- a head says no longer body than one may be
pub framed_fits : (head : RequestHead) (f : Framing) → framing_of head ≡ Ok f → f.body ≤ longest_body
unfolding framing
framed_fits head f =
    let fields = map name_and_value head.fields in
    parts_fit (method_of head.method) (names_its_host head.minor fields) (is_uncoded fields) (is_last head.minor fields)
    (λ len. expects_interim head.minor len fields) (body_len (values_of (codes "content-length") fields)) f (body_fits (values_of (codes "content-length") fields))

refused_for : (stop : Stop) (input : List ℕ) (fault : MessageFault) → fault ≢ Head → BeginsFaulty input fault
    → IsMessageRefused stop input fault
refused_for stop input Head other faulty = absurd (other refl)
refused_for stop input faults.Method other faulty = faulty
refused_for stop input Host other faulty = faulty
refused_for stop input Coding other faulty = faulty
refused_for stop input Length other faulty = faulty
refused_for stop input Body other faulty = faulty

-- a head with a fault is refused whatever follows
pub refused_ever : (input : List ℕ) (head : RequestHead) (rest : List ℕ) (fault : MessageFault) → BeginsWithHead input head rest
    → framing_of head ≡ Err fault → IsRefusedEver input fault
refused_ever input head rest fault begins e stop more =
    refused_for stop (input ++ more) fault (λ is. not_head head (e ∙ ap Err is)) (record {
      head = head;
      rest = rest ++ more;
      begins = BeginsWith-append input head rest more begins;
      faulty = e;
    })

-- `G / HTTP/1.0`
pub some_head : RequestHead
some_head = record { blank = []; method = 71 ∷ []; target = 47 ∷ []; minor = 0; line_end = lf; fields = []; last = lf }

-- `G / HTTP/1.0` is the head of a request
pub some_head_is : IsRequestHead some_head
unfolding some_head is_token_byte
some_head_is =
    let none : All IsField [] = All-nil IsField in
    record {
      method = (lit< tt, All-cons (λ b. IsTrue (is_token_byte b)) 71 [] refl (All-nil _));
      target = (lit< tt, All-cons (λ b. IsTrue (is_uri_byte b)) 47 [] refl (All-nil _));
      target_text = IsUtf8-from_ascii (47 ∷ []) (λ i. slash i);
      minor = omega arith;
      fields = none;
    }
  where
    slash : (i : ℕ) → get_or (47 ∷ []) i 0 < 128
    slash zero = lit< tt
    slash (suc i) = lit< tt

some_head_begins : BeginsWithHead (print_request some_head) some_head []
unfolding some_head print_request
some_head_begins = record { reads = (some_head_is, sym (append-nil (print_request some_head))); fields = lit≤ tt; bytes = lit≤ tt }

-- some bytes begin with a head, so an input that never does has some
some_bytes : (input : List ℕ) → NeverHasHead input → 0 < length input
some_bytes [] never = absurd (never (print_request some_head) some_head [] some_head_begins)
some_bytes (b ∷ input) never = omega arith

NeverHasHead-append : (input more : List ℕ) → NeverHasHead input → NeverHasHead (input ++ more)
NeverHasHead-append input more never further = rw append_assoc (never (more ++ further))

-- a message that is there whole, from its parts
pub whole_at : (input : List ℕ) (fields : List HeaderSpan) (spans : RequestSpans) (f : Framing) (after target : List ℕ)
    → (at : IsHeadAt input fields spans) → framing_of at.head ≡ Ok f → after ≡ drop spans.len input → f.body ≤ length after
    → target ≡ path_of (span_bytes input spans.path)
    → BeginsMessage input (record { method = f.method; target = target; body = take f.body after; closes = f.closes; expects = f.expects })
    (drop (spans.len + f.body) input)
whole_at input fields spans f after target at framed is fits same =
    let e : take f.body after ++ drop (spans.len + f.body) input ≡ drop spans.len input =
    ap (λ bytes. take f.body bytes ++ drop (spans.len + f.body) input) is
    ∙ ap (λ bytes. take f.body (drop spans.len input) ++ bytes) (sym (drop-drop f.body spans.len input))
    ∙ take-append-drop f.body (drop spans.len input) in
    let body : length (take f.body after) ≡ f.body = length-take-le f.body after fits in
    record {
      head = at.head;
      begins = rw e at.begins;
      target = sym (ap path_of at.parts.path) ∙ sym same;
      framed = framed ∙ ap (λ n. Ok (record f { body = n })) (sym body);
    }

-- an input that never begins with a head is refused whatever follows
pub never_refused : (input : List ℕ) → NeverHasHead input → IsRefusedEver input Head
never_refused input never ended more = (omega (arith, length-append input more, some_bytes input never), never more)
never_refused input never failed more = NeverHasHead-append input more never
