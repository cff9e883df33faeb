-- An input is read in one way only.
use Rattle.std.proofs.Common.{◌≡◌, ℕ, ◌<◌, ◌≤◌, ◌⊎◌, inl, inr, Bool, true, false, List, [], ◌∷◌, ◌++◌, length, take, drop, Result, Ok, refl, ap, sym, subst, subst₂, ◌∙◌, arith, append-nil}
use Rattle.std.specs.Prelude.{MatchBool}
use Rattle.std.proofs.Math.Seq.{take-append_seam, drop-append_seam}
use Rattle.std.proofs.lemmas.List.{length-append, length-drop}
use Rattle.httparse.specs.Grammar.{RequestHead, print_request}
use Rattle.httparse.proofs.GrammarLemmas.{request_unique}
use Rattle.conversation.specs.declared.message.framing.Framing.{Framing}
use Rattle.conversation.specs.declared.message.message_fault.MessageFault.{MessageFault}
use Rattle.conversation.specs.declared.message.message_fault.MessageFault.TheVariants.{Head, Method, Host, Coding, Length, Body}
use Rattle.conversation.specs.message.Target.{path_of}
use Rattle.conversation.specs.message.Framing.{framing_of}
use Rattle.conversation.specs.message.Heads.{BeginsWithHead, HasNoHead, NeverHasHead}
use Rattle.conversation.specs.declared.message.next.Next.{Next}
use Rattle.conversation.specs.declared.message.next.Next.TheVariants.{Whole, Refused, NeedHead, NeedBody}
use Rattle.conversation.specs.message.Next.{message_of, IsRefusedEver, BeginsAs, FindsNext}
use Rattle.conversation.specs.message.Messages.{Stop, ended, failed, Message, BeginsMessage, BeginsFaulty, BeginsNoHead, LacksBody, IsCutMessage, IsMessageRefused, Ending, finished, closing, broken, refused, EndsAs, Messages, IsEither, AgreeBy}

-- two fronts of one length
fronts_same : (a b r q : List ℕ) → a ++ r ≡ b ++ q → length a ≡ length b → (a ≡ b) × (r ≡ q)
fronts_same a b r q e n = (
  sym (take-append_seam a r) ∙ ap (λ k. take k (a ++ r)) n ∙ ap (take (length b)) e ∙ take-append_seam b q,
  sym (drop-append_seam a r) ∙ ap (λ k. drop k (a ++ r)) n ∙ ap (drop (length b)) e ∙ drop-append_seam b q,
)

-- an input begins with one head only, and one rest follows it
pub head_unique : (input : List ℕ) (h k : RequestHead) (r q : List ℕ) → BeginsWithHead input h r → BeginsWithHead input k q
    → (h ≡ k) × (r ≡ q)
head_unique input h k r q x y = request_unique input h k r q x.reads y.reads

-- what two heads of one input say is one
pub said_once : (input : List ℕ) (h k : RequestHead) (r q : List ℕ) (a b : Result Framing MessageFault) → BeginsWithHead input h r
    → BeginsWithHead input k q → framing_of h ≡ a → framing_of k ≡ b → a ≡ b
said_once input h k r q a b x y p s = sym p ∙ ap framing_of (head_unique input h k r q x y).0 ∙ s

-- a framing, as the result that says it and no fault
abbrev pub ok : Framing → Result Framing MessageFault
ok a = Ok a

-- two heads that say something say one thing where that is the same
pub ok_same : (a b : Framing) → ok a ≡ ok b → a ≡ b
ok_same a b e = cc

-- a head has bytes
head_some : (h : RequestHead) → 0 < length (print_request h)
unfolding print_request
head_some h = simp length-append (omega arith)

-- an empty input begins with no head
pub no_empty_head : (h : RequestHead) (rest : List ℕ) → ¬ (BeginsWithHead [] h rest)
no_empty_head h rest begins = omega (arith, head_some h, length-append (print_request h) rest, ap length begins.reads.1)

-- an input begins with one message only, and one rest follows it
pub message_unique : (input : List ℕ) (m n : Message) (r q : List ℕ) → BeginsMessage input m r → BeginsMessage input n q
    → (m ≡ n) × (r ≡ q)
message_unique input m n r q x y =
    let heads = head_unique input x.head y.head _ _ x.begins y.begins in
    let said = said_once input x.head y.head _ _ _ _ x.begins y.begins x.framed y.framed in
    let framed = ok_same _ _ said in
    let method : m.method ≡ n.method = ap (λ (f : Framing). f.method) framed in
    let closes : m.closes ≡ n.closes = ap (λ (f : Framing). f.closes) framed in
    let expects : m.expects ≡ n.expects = ap (λ (f : Framing). f.expects) framed in
    let long : length m.body ≡ length n.body = ap (λ (f : Framing). f.body) framed in
    let bodies = fronts_same m.body n.body r q heads.1 long in
    let target : m.target ≡ n.target = sym x.target ∙ ap (λ h. path_of h.target) heads.0 ∙ y.target in
    (λ i. record { method = method i; target = target i; body = bodies.0 i; closes = closes i; expects = expects i }, bodies.1)

-- what stands at the front is one thing: a message, a fault, a message that is cut, or no head

message_no_fault : (input : List ℕ) (m : Message) (rest : List ℕ) (fault : MessageFault) → BeginsMessage input m rest
    → ¬ (BeginsFaulty input fault)
message_no_fault input m rest fault x y =
    let said = said_once input x.head y.head _ _ _ _ x.begins y.begins x.framed y.faulty in cc

message_no_cut : (input : List ℕ) (m : Message) (rest : List ℕ) (expects : Bool) → BeginsMessage input m rest → ¬ (IsCutMessage input expects)
message_no_cut input m rest expects x (missing, y) =
    let heads = head_unique input x.head y.head _ _ x.begins y.begins in
    let said = said_once input x.head y.head _ _ _ _ x.begins y.begins x.framed y.framed in
    let long : length m.body ≡ y.framing.body = ap (λ (f : Framing). f.body) (ok_same _ _ said) in
    omega (arith, ap length heads.1, length-append m.body rest, long, y.lacks, y.some)

cut_no_fault : (input : List ℕ) (fault : MessageFault) (expects : Bool) → IsCutMessage input expects → ¬ (BeginsFaulty input fault)
cut_no_fault input fault expects (missing, x) y =
    let said = said_once input x.head y.head _ _ _ _ x.begins y.begins x.framed y.faulty in cc

one_fault : (input : List ℕ) (f g : MessageFault) → BeginsFaulty input f → BeginsFaulty input g → f ≡ g
one_fault input f g x y =
    let said = said_once input x.head y.head _ _ _ _ x.begins y.begins x.faulty y.faulty in cc

-- a front that is refused has a fault, or there is none
pub record NoHead (stop : Stop) (input : List ℕ) (fault : MessageFault) : Type 0 where
  pub word : fault ≡ Head
  pub none : HasNoHead input
  pub some : stop ≡ ended → 0 < length input

never_none : (input : List ℕ) → NeverHasHead input → HasNoHead input
never_none input never = subst HasNoHead (append-nil input) (never [])

no_head : (stop : Stop) (input : List ℕ) → BeginsNoHead stop input → NoHead stop input Head
no_head ended input x = record { word = refl; none = x.1; some = λ _. x.0 }
no_head failed input x = record { word = refl; none = never_none input x; some = λ e. absurd (cc) }

refused_cases : (stop : Stop) (input : List ℕ) (fault : MessageFault) → IsMessageRefused stop input fault
    → BeginsFaulty input fault ⊎ NoHead stop input fault
refused_cases stop input Head x = inr (no_head stop input x)
refused_cases stop input Method x = inl x
refused_cases stop input Host x = inl x
refused_cases stop input Coding x = inl x
refused_cases stop input Length x = inl x
refused_cases stop input Body x = inl x

message_not_refused : (stop : Stop) (input : List ℕ) (m : Message) (rest : List ℕ) (fault : MessageFault)
    → BeginsMessage input m rest → BeginsFaulty input fault ⊎ NoHead stop input fault → ⊥
message_not_refused stop input m rest fault x (inl y) = message_no_fault input m rest fault x y
message_not_refused stop input m rest fault x (inr y) = y.none x.head _ x.begins

message_not_end : (stop : Stop) (input : List ℕ) (m : Message) (rest : List ℕ) (e : Ending) → BeginsMessage input m rest
    → ¬ (EndsAs stop input e)
message_not_end ended input m rest (finished expects) x (inl none) =
    no_empty_head x.head _ (subst (λ bytes. BeginsWithHead bytes x.head (m.body ++ rest)) none.0 x.begins)
message_not_end ended input m rest (finished expects) x (inr cut) = message_no_cut input m rest expects x cut
message_not_end failed input m rest (finished expects) x y = y
message_not_end ended input m rest (broken expects) x y = y
message_not_end failed input m rest (broken expects) x (inl none) = none.0 x.head _ x.begins
message_not_end failed input m rest (broken expects) x (inr cut) = message_no_cut input m rest expects x cut
message_not_end ended input m rest (refused fault) x y =
    message_not_refused ended input m rest fault x (refused_cases ended input fault y)
message_not_end failed input m rest (refused fault) x y =
    message_not_refused failed input m rest fault x (refused_cases failed input fault y)
message_not_end ended input m rest closing x y = y
message_not_end failed input m rest closing x y = y

same_refusal : (stop : Stop) (input : List ℕ) (f g : MessageFault) → BeginsFaulty input f ⊎ NoHead stop input f
    → BeginsFaulty input g ⊎ NoHead stop input g → f ≡ g
same_refusal stop input f g (inl x) (inl y) = one_fault input f g x y
same_refusal stop input f g (inl x) (inr y) = absurd (y.none x.head _ x.begins)
same_refusal stop input f g (inr x) (inl y) = absurd (x.none y.head _ y.begins)
same_refusal stop input f g (inr x) (inr y) = x.word ∙ sym y.word

-- an input that ended within its messages is not refused
finished_not_refused : (input : List ℕ) (f : MessageFault) (expects : Bool) → ((input ≡ []) × (expects ≡ false)) ⊎ IsCutMessage input expects
    → BeginsFaulty input f ⊎ NoHead ended input f → ⊥
finished_not_refused input f expects (inl none) (inl y) =
    no_empty_head y.head _ (subst (λ bytes. BeginsWithHead bytes y.head y.rest) none.0 y.begins)
finished_not_refused input f expects (inl none) (inr y) = omega (arith, ap length none.0, y.some refl)
finished_not_refused input f expects (inr cut) (inl y) = cut_no_fault input f expects cut y
finished_not_refused input f expects (inr cut) (inr y) = y.none cut.1.head _ cut.1.begins

-- where the reader failed, only the want of a head may be told in two ways
broken_or_refused : (input : List ℕ) (f : MessageFault) (expects : Bool)
    → (HasNoHead input × (length input < 8192) × (expects ≡ false)) ⊎ IsCutMessage input expects
    → BeginsFaulty input f ⊎ NoHead failed input f → IsEither (broken expects) × IsEither (refused f)
broken_or_refused input f expects (inl none) (inl y) = absurd (none.0 y.head _ y.begins)
broken_or_refused input f expects (inl none) (inr y) =
    (subst (λ b. IsEither (broken b)) (sym none.2) tt, subst (λ g. IsEither (refused g)) (sym y.word) tt)
broken_or_refused input f expects (inr cut) (inl y) = absurd (cut_no_fault input f expects cut y)
broken_or_refused input f expects (inr cut) (inr y) = absurd (y.none cut.1.head _ cut.1.begins)

-- two cuts of one input lack as many bytes, and expect alike
cut_once : (input : List ℕ) (a b : ℕ) (p q : Bool) → LacksBody input a p → LacksBody input b q → (a ≡ b) × (p ≡ q)
cut_once input a b p q x y =
    let heads = head_unique input x.head y.head _ _ x.begins y.begins in
    let said = said_once input x.head y.head _ _ _ _ x.begins y.begins x.framed y.framed in
    let long : x.framing.body ≡ y.framing.body = ap (λ (f : Framing). f.body) (ok_same _ _ said) in
    let expects : x.framing.expects ≡ y.framing.expects = ap (λ (f : Framing). f.expects) (ok_same _ _ said) in
    (omega (arith, ap length heads.1, long, x.lacks, y.lacks), sym x.expects_so ∙ expects ∙ y.expects_so)

-- an end within the messages of an input expects one thing
one_finish : (input : List ℕ) (a b : Bool) → ((input ≡ []) × (a ≡ false)) ⊎ IsCutMessage input a
    → ((input ≡ []) × (b ≡ false)) ⊎ IsCutMessage input b → a ≡ b
one_finish input a b (inl x) (inl y) = x.1 ∙ sym y.1
one_finish input a b (inl x) (inr y) =
    absurd (no_empty_head y.1.head _ (subst (λ bytes. BeginsWithHead bytes y.1.head y.1.body) x.0 y.1.begins))
one_finish input a b (inr x) (inl y) =
    absurd (no_empty_head x.1.head _ (subst (λ bytes. BeginsWithHead bytes x.1.head x.1.body) y.0 x.1.begins))
one_finish input a b (inr x) (inr y) = (cut_once input x.0 y.0 a b x.1 y.1).1

one_break : (input : List ℕ) (a b : Bool) → (HasNoHead input × (length input < 8192) × (a ≡ false)) ⊎ IsCutMessage input a
    → (HasNoHead input × (length input < 8192) × (b ≡ false)) ⊎ IsCutMessage input b → a ≡ b
one_break input a b (inl x) (inl y) = x.2 ∙ sym y.2
one_break input a b (inl x) (inr y) = absurd (x.0 y.1.head _ y.1.begins)
one_break input a b (inr x) (inl y) = absurd (y.0 x.1.head _ x.1.begins)
one_break input a b (inr x) (inr y) = (cut_once input x.0 y.0 a b x.1 y.1).1

ends_agree : (stop : Stop) (input : List ℕ) (e f : Ending) → EndsAs stop input e → EndsAs stop input f → AgreeBy stop e f
ends_agree ended input (finished a) (finished b) x y = ap finished (one_finish input a b x y)
ends_agree ended input (finished a) (refused g) x y = absurd (finished_not_refused input g a x (refused_cases ended input g y))
ends_agree ended input (refused f) (finished b) x y = absurd (finished_not_refused input f b y (refused_cases ended input f x))
ends_agree ended input (refused f) (refused g) x y =
    ap refused (same_refusal ended input f g (refused_cases ended input f x) (refused_cases ended input g y))
ends_agree ended input (broken a) f x y = absurd x
ends_agree ended input closing f x y = absurd x
ends_agree ended input (finished a) (broken b) x y = absurd y
ends_agree ended input (finished a) closing x y = absurd y
ends_agree ended input (refused f) (broken b) x y = absurd y
ends_agree ended input (refused f) closing x y = absurd y
ends_agree failed input (broken a) (broken b) x y = inl (ap broken (one_break input a b x y))
ends_agree failed input (broken a) (refused g) x y = inr (broken_or_refused input g a x (refused_cases failed input g y))
ends_agree failed input (refused f) (broken b) x y =
    let both = broken_or_refused input f b y (refused_cases failed input f x) in inr (both.1, both.0)
ends_agree failed input (refused f) (refused g) x y =
    inl (ap refused (same_refusal failed input f g (refused_cases failed input f x) (refused_cases failed input g y)))
ends_agree failed input (finished a) f x y = absurd x
ends_agree failed input closing f x y = absurd x
ends_agree failed input (broken a) (finished b) x y = absurd y
ends_agree failed input (broken a) closing x y = absurd y
ends_agree failed input (refused f) (finished b) x y = absurd y
ends_agree failed input (refused f) closing x y = absurd y

agree_same : (stop : Stop) (e f : Ending) → e ≡ f → AgreeBy stop e f
agree_same ended e f same = same
agree_same failed e f same = inl same

after_one : (stop : Stop) (closes : Bool) (rest : List ℕ) (ms ns : List Message) (e f : Ending)
    → (Messages stop rest ms e → Messages stop rest ns f → (ms ≡ ns) × AgreeBy stop e f)
    → MatchBool closes ((ms ≡ []) × (e ≡ closing)) (Messages stop rest ms e)
    → MatchBool closes ((ns ≡ []) × (f ≡ closing)) (Messages stop rest ns f)
    → (ms ≡ ns) × AgreeBy stop e f
after_one stop true rest ms ns e f later x y = (x.0 ∙ sym y.0, agree_same stop e f (x.1 ∙ sym y.1))
after_one stop false rest ms ns e f later x y = later x y

-- two readings of one input
pub one_reading : (stop : Stop) (input : List ℕ) (ms ns : List Message) (e f : Ending) → Messages stop input ms e
    → Messages stop input ns f → (ms ≡ ns) × AgreeBy stop e f
one_reading stop input [] [] e f x y = (refl, ends_agree stop input e f x y)
one_reading stop input [] (n ∷ ns) e f x y = absurd (message_not_end stop input n y.0 e y.1 x)
one_reading stop input (m ∷ ms) [] e f x y = absurd (message_not_end stop input m x.0 f x.1 y)
one_reading stop input (m ∷ ms) (n ∷ ns) e f x y =
    let same = message_unique input m n x.0 y.0 x.1 y.1 in
    let again = subst₂ (λ (c : Bool) (bytes : List ℕ). MatchBool c ((ns ≡ []) × (f ≡ closing)) (Messages stop bytes ns f))
    (sym (ap (λ (m : Message). m.closes) same.0)) (sym same.1) y.2 in
    let later = after_one stop m.closes x.0 ms ns e f (one_reading stop x.0 ms ns e f) x.2 again in
    (λ i. same.0 i ∷ later.0 i, later.1)

-- ---- what `next_of` answers is what stands there

-- a front that is refused whatever follows is refused where nothing does
pub refused_now : (input : List ℕ) (fault : MessageFault) → IsRefusedEver input fault
    → BeginsFaulty input fault ⊎ NoHead ended input fault
refused_now input fault ever =
    refused_cases ended input fault (subst (λ bytes. IsMessageRefused ended bytes fault) (append-nil input) (ever ended []))

faulty_or_headless : (input : List ℕ) (fault : MessageFault) → HasNoHead input
    → BeginsFaulty input fault ⊎ NoHead ended input fault → fault ≡ Head
faulty_or_headless input fault none (inl x) = absurd (none x.head _ x.begins)
faulty_or_headless input fault none (inr x) = x.word

-- an answer that holds is the one for what stands at the front of the input
pub finds_next : (input : List ℕ) (next : Next) → BeginsAs input next → FindsNext input next
finds_next input (Whole r) is = record {
  whole = λ m rest x. message_unique input (message_of r) m _ rest is.begins x;
  faulty = λ fault x. absurd (message_no_fault input _ _ fault is.begins x);
  cut = λ missing expects x. absurd (message_no_cut input _ _ expects is.begins (missing, x));
  headless = λ none. none is.begins.head _ is.begins.begins;
}
finds_next input (Refused fault) is =
    let now = refused_now input fault is in
    record {
      whole = λ m rest x. message_not_refused ended input m rest fault x now;
      faulty = λ other x. ap Refused (same_refusal ended input fault other now (inl x));
      cut = λ missing expects x. absurd (finished_not_refused input fault expects (inr (missing, x)) now);
      headless = λ none. faulty_or_headless input fault none now;
    }
finds_next input NeedHead is = record {
  whole = λ m rest x. is.none x.head _ x.begins;
  faulty = λ fault x. absurd (is.none x.head _ x.begins);
  cut = λ missing expects x. absurd (is.none x.head _ x.begins);
  headless = λ none. tt;
}
finds_next input (NeedBody missing expects) is = record {
  whole = λ m rest x. message_no_cut input m rest expects x (missing, is);
  faulty = λ fault x. absurd (cut_no_fault input fault expects (missing, is) x);
  cut = λ other others x.
      let once = cut_once input missing other expects others is x in
      ap (λ n. NeedBody n expects) once.0 ∙ ap (λ b. NeedBody other b) once.1;
  headless = λ none. none is.head _ is.begins;
}

-- a message takes some bytes
pub message_takes : (input : List ℕ) (m : Message) (n : ℕ) → BeginsMessage input m (drop n input) → n ≤ length input → 0 < n
message_takes input m n x h =
    let all = ap length x.begins.reads.1 in
    omega (
      arith,
      head_some x.head,
      length-append (print_request x.head) (m.body ++ drop n input),
      length-append m.body (drop n input),
      length-drop n input,
      all,
    )
