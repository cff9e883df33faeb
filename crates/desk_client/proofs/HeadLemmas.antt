-- Heads of replies, and that a text begins with one of them.
use Rattle.std.proofs.Common.{◌≡◌, ◌≢◌, ◌∙◌, ◌⊎◌, ◌↔◌, inl, inr, ⊎_elim, Bool, false, true≢false, ℕ, ◌+◌, ◌*◌, ◌^◌, ◌<◌, ◌≤◌, List, [], ◌∷◌, ◌++◌, length, get_or, drop, codes, Option, None, Some, refl, ap, sym, subst, append_assoc, length-append, arith}
use Rattle.std.specs.Prelude.{IsTrue, MatchOption, decimal, if◌then◌else◌, is_some, ◌==◌}
use Rattle.std.proofs.lemmas.Fmt.{length-decimal-le}
use Rattle.std.proofs.lemmas.List.{append-nil, append_cancel_left, nil_from_length}
use Rattle.conversation.proofs.HeadLemmas.{front_within}
use Rattle.office_rules.specs.Decision.Refusals.{refusal_category}
use Rattle.office_rules.specs.declared.decision.category.Category.{Category}
use Rattle.office_rules.specs.declared.decision.category.Category.TheVariants as categories
use Rattle.desk_client.specs.Reply.{HasNoHead, IsRefusing, IsReply, MayBegin, head_bytes, longest_reply_body, longest_reply_head}
use Rattle.desk_client.specs.Start.{BeginsAs, IsDated, category_start, date_end, head_end, start_text}
use Rattle.desk_client.specs.Told.{IsGrantOf, IsStart, IsTellable, granted_start, start_of, told_start, told_text}
use Rattle.desk_client.specs.declared.start.Start.{Start}
use Rattle.desk_client.specs.declared.start.Start.TheVariants.{Json, Paper, Missing, Forbidden, Unfit, Unable}
use Rattle.desk_client.specs.declared.told.Granted.{Granted}
use Rattle.desk_client.specs.declared.told.Granted.TheVariants as granted
use Rattle.desk_client.specs.declared.told.Told.{Told}
use Rattle.desk_client.specs.declared.told.Told.TheVariants as told
use Rattle.asks.specs.declared.endpoint.Grants.{Grants}
use Rattle.asks.specs.declared.endpoint.Grants.TheVariants as wanted
use Rattle.desk_client.proofs.DateLemmas.{date_long, same_front}
use Rattle.desk_client.proofs.NumberLemmas.{same_number}
use Rattle.desk_client.proofs.PlainLemmas.{plain_number}
use Rattle.desk_client.proofs.WovenLemmas.{cut}

-- what tells starts apart: two bytes of the status, and one behind it
abbrev mark : List ℕ → ℕ
mark text = 1000000 * get_or text 9 0 + 1000 * get_or text 11 0 + get_or text 31 0

abbrev mark_of : Start → ℕ
mark_of Json = 50048097
mark_of Paper = 50048116
mark_of Missing = 52052045
mark_of Forbidden = 52057084
mark_of Unfit = 52050116
mark_of Unable = 53051101

marked : (s : Start) (rest : List ℕ) → mark (start_text s ++ rest) ≡ mark_of s
marked Json rest = refl
marked Paper rest = refl
marked Missing rest = refl
marked Forbidden rest = refl
marked Unfit rest = refl
marked Unable rest = refl

abbrev of_mark : ℕ → Start
of_mark n = if n == 50048097 then Json else (if n == 50048116 then Paper else
    (if n == 52052045 then Missing else (if n == 52057084 then Forbidden else (if n == 52050116 then Unfit else (Unable)))))

back : (s : Start) → of_mark (mark_of s) ≡ s
back Json = refl
back Paper = refl
back Missing = refl
back Forbidden = refl
back Unfit = refl
back Unable = refl

-- a text begins with one start
one_start : (s t : Start) (r q : List ℕ) → start_text s ++ r ≡ start_text t ++ q → s ≡ t
one_start s t r q e = sym (back s) ∙ ap of_mark (sym (marked s r) ∙ ap mark e ∙ marked t q) ∙ back t

behind_end : (date end r : List ℕ) → (date ++ end) ++ r ≡ date ++ (end ++ r)
behind_end date end r = append_assoc date end r

-- what follows a date, if there is one, and an empty line
one_end : (d f : Option (List ℕ)) (r q : List ℕ) → IsDated d → IsDated f → date_end d ++ r ≡ date_end f ++ q → r ≡ q
one_end None None r q is are e = append_cancel_left (13 ∷ 10 ∷ []) r q e
one_end None (Some b) r q is are e = absurd (cc)
one_end (Some a) None r q is are e = absurd (cc)
one_end (Some a) (Some b) r q is are e =
    let end : List ℕ = 13 ∷ 10 ∷ 13 ∷ 10 ∷ [] in
    let behind : (a ++ end) ++ r ≡ (b ++ end) ++ q = append_cancel_left (codes "Date: ") _ _ e in
    append_cancel_left end r q
    (same_front a b (end ++ r) (end ++ q) (date_long a is ∙ sym (date_long b are)) (sym (behind_end a end r) ∙ behind ∙ behind_end b end q)).1

-- and with one head
pub one_head : (s t : Start) (n m : ℕ) (d f : Option (List ℕ)) (r q : List ℕ) → n < 2 ^ 64 → m < 2 ^ 64 → IsDated d → IsDated f
    → head_bytes s n d r ≡ head_bytes t m f q → (s ≡ t) × (n ≡ m) × (r ≡ q)
one_head s t n m d f r q small few is are e =
    let starts = one_start s t (decimal n ++ (head_end d ++ r)) (decimal m ++ (head_end f ++ q)) e in
    let behind : decimal n ++ (head_end d ++ r) ≡ decimal m ++ (head_end f ++ q) =
    append_cancel_left (start_text t) _ _ (ap (λ (x : Start). start_text x ++ (decimal n ++ (head_end d ++ r))) (sym starts) ∙ e) in
    let same = cut (decimal n) (decimal m) (head_end d ++ r) (head_end f ++ q) (plain_number n small) (plain_number m few) refl refl behind in (
      starts,
      same_number (decimal n) n m small few refl same.0,
      one_end d f r q is are (append_cancel_left (13 ∷ 10 ∷ []) (date_end d ++ r) (date_end f ++ q) same.1),
    )

regroup : (s d e r more : List ℕ) → (s ++ (d ++ (e ++ r))) ++ more ≡ s ++ (d ++ (e ++ (r ++ more)))
regroup s d e r more = simp append_assoc

-- what a whole reply says of a head that was found, and what follows it
pub reply_behind : (asked : Grants) (s : Start) (n : ℕ) (d : Option (List ℕ)) (r more : List ℕ) (t : Told) → n < 2 ^ 64 → IsDated d
    → IsReply asked (head_bytes s n d r ++ more) t → (s ≡ told_start t) × (n ≡ length (told_text t)) × (r ++ more ≡ told_text t)
reply_behind asked s n d r more t small is reply =
    one_head s (told_start t) n (length (told_text t)) d reply.dated (r ++ more) (told_text t) small (omega (arith, reply.short)) is reply.is_dated
    (sym (regroup (start_text s) (decimal n) (head_end d) r more) ∙ reply.is_text)

-- the body of a whole reply is no longer than its head says, and that no longer than any
pub reply_lengths : (asked : Grants) (s : Start) (n : ℕ) (d : Option (List ℕ)) (r more : List ℕ) (t : Told) → n < 2 ^ 64 → IsDated d
    → IsReply asked (head_bytes s n d r ++ more) t → (n ≤ longest_reply_body) × (length r + length more ≡ n)
reply_lengths asked s n d r more t small dated reply =
    let is = reply_behind asked s n d r more t small dated reply in
    (omega (arith, is.1, reply.short), omega (arith, is.1, ap length is.2, length-append r more))

-- where nothing follows, the body is what is told
pub reply_now : (asked : Grants) (s : Start) (n : ℕ) (d : Option (List ℕ)) (r more : List ℕ) (t : Told) → n < 2 ^ 64 → IsDated d → length r ≡ n
    → IsReply asked (head_bytes s n d r ++ more) t → (told_start t ≡ s) × (r ≡ told_text t)
reply_now asked s n d r more t small dated all reply =
    let is = reply_behind asked s n d r more t small dated reply in
    let none : more ≡ [] = nil_from_length more (omega (arith, all, (reply_lengths asked s n d r more t small dated reply).1)) in
    (sym is.0, sym (append-nil r) ∙ ap (λ (m : List ℕ). r ++ m) (sym none) ∙ is.2)

-- what is granted begins as a grant of what is wanted
pub grant_start : (asked : Grants) (g : Granted) → IsGrantOf asked g → start_of g ≡ granted_start asked
grant_start wanted.Done granted.Done is = refl
grant_start wanted.Imported (granted.Imported n) is = refl
grant_start wanted.Withdrawn (granted.Withdrawn n) is = refl
grant_start wanted.Shift (granted.Shift n) is = refl
grant_start wanted.Sale (granted.Sale s) is = refl
grant_start wanted.Meter (granted.Meter m) is = refl
grant_start wanted.Quote (granted.Quote q) is = refl
grant_start wanted.Totals (granted.Totals n t) is = refl
grant_start wanted.Paper (granted.Paper text) is = refl
grant_start wanted.Tariffs (granted.Page text) is = refl
grant_start wanted.Meters (granted.Page text) is = refl
grant_start wanted.Shifts (granted.Page text) is = refl
grant_start wanted.Sales (granted.Page text) is = refl
grant_start asked g is = absurd is

-- and that is a start where it is wanted
granted_is : (asked : Grants) → IsStart asked (granted_start asked)
granted_is wanted.Paper = refl
granted_is asked = refl

refused_is : (asked : Grants) (category : Category) → IsStart asked (category_start category)
refused_is asked categories.Missing = tt
refused_is asked categories.Forbidden = tt
refused_is asked categories.Unfit = tt
refused_is asked (categories.UnfitRow row cause) = tt
refused_is asked categories.Unable = tt

-- the reply to what was wanted begins as a grant of that, as a refusal or as a fault
pub start_is : (asked : Grants) (t : Told) → IsTellable asked t → IsStart asked (told_start t)
start_is asked (told.Granted g) h = subst (IsStart asked) (sym (grant_start asked g h.1)) (granted_is asked)
start_is asked (told.Refused refusal) h = refused_is asked (refusal_category refusal)
start_is asked told.NoMoment h = tt

-- no reply begins another
pub alone : (asked : Grants) (text more : List ℕ) (t u : Told) → IsReply asked text t → IsReply asked (text ++ more) u → more ≡ []
alone asked text more t u one other =
    let n = length (told_text t) in
    let read : IsReply asked (head_bytes (told_start t) n one.dated (told_text t) ++ more) u =
    subst (λ (bytes : List ℕ). IsReply asked (bytes ++ more) u) one.is_text other in
    let lengths = reply_lengths asked (told_start t) n one.dated (told_text t) more u (omega (arith, one.short)) one.is_dated read in
    nil_from_length more (omega (arith, lengths.1))

short_start : (s : Start) → length (start_text s) ≤ 83
short_start Json = omega arith
short_start Paper = omega arith
short_start Missing = omega arith
short_start Forbidden = omega arith
short_start Unfit = omega arith
short_start Unable = omega arith

-- the end of a head is short, with a date too
pub short_end : (d : Option (List ℕ)) → IsDated d → length (head_end d) ≤ 41
short_end None is = omega arith
short_end (Some date) is = omega (arith, date_long date is, length-append date (13 ∷ 10 ∷ 13 ∷ 10 ∷ []))

-- the bytes of a head without what follows
abbrev front : Start → ℕ → Option (List ℕ) → List ℕ
front s n d = start_text s ++ (decimal n ++ head_end d)

short_front : (s : Start) (n : ℕ) (d : Option (List ℕ)) → n ≤ longest_reply_body → IsDated d → length (front s n d) ≤ longest_reply_head
short_front s n d h is =
    omega (
      arith,
      length-append (start_text s) (decimal n ++ head_end d),
      length-append (decimal n) (head_end d),
      short_start s,
      short_end d is,
      length-decimal-le 8 n (omega arith) (omega (arith, h)) (omega (arith, h)),
    )

behind_front : (s d e r : List ℕ) → s ++ (d ++ (e ++ r)) ≡ (s ++ (d ++ e)) ++ r
behind_front s d e r = simp append_assoc

-- a head that tells a length of a body that may be read has fewer bytes than the longest head
pub head_within : (s : Start) (n : ℕ) (d : Option (List ℕ)) (r : List ℕ) → n ≤ longest_reply_body → IsDated d
    → length (head_bytes s n d r) ≤ longest_reply_head + length r
head_within s n d r few is =
    omega (
      arith,
      ap length (behind_front (start_text s) (decimal n) (head_end d) r),
      length-append (front s n d) r,
      short_front s n d few is,
    )

-- where no head is found in as many bytes as any has, no reply begins so
pub no_reply : (asked : Grants) (input : List ℕ) → longest_reply_head ≤ length input
    → ((s : Start) (n : ℕ) (d : Option (List ℕ)) (r : List ℕ) → IsStart asked s → n < 2 ^ 64 → IsDated d → input ≢ head_bytes s n d r)
    → (more : List ℕ) (t : Told) → ¬ IsReply asked (input ++ more) t
no_reply asked input long none more t reply =
    let s = told_start t in
    let n = length (told_text t) in
    let d = reply.dated in
    let whole : input ++ more ≡ front s n d ++ told_text t = reply.is_text ∙ behind_front (start_text s) (decimal n) (head_end d) (told_text t) in
    let short = short_front s n d reply.short reply.is_dated in
    let there = front_within input more (front s n d) (told_text t) whole (omega (arith, short, long)) in
    none s n d (drop (length (front s n d)) input) (start_is asked t reply.tellable) (omega (arith, reply.short)) reply.is_dated
    (there ∙ sym (behind_front (start_text s) (decimal n) (head_end d) (drop (length (front s n d)) input)))

-- where no head is found, there is no whole reply yet
pub needs_head : (asked : Grants) (input : List ℕ) → HasNoHead asked input → (t : Told) → ¬ IsReply asked input t
needs_head asked input none t reply =
    none (told_start t) (length (told_text t)) reply.dated (told_text t) (start_is asked t reply.tellable) (omega (arith, reply.short)) reply.is_dated
    reply.is_text

-- and what begins as no reply becomes none, whatever follows
pub begins_no_reply : (asked : Grants) (input : List ℕ) → ¬ MayBegin asked input → (more : List ℕ) (t : Told) → ¬ IsReply asked (input ++ more) t
begins_no_reply asked input not more t reply =
    not (told_start t, start_is asked t reply.tellable, (more, decimal (length (told_text t)) ++ (head_end reply.dated ++ told_text t), reply.is_text))

-- a text begins with another
abbrev pub HasFront : List ℕ → List ℕ → Type 0
HasFront text front = (rest : List ℕ) × (text ≡ front ++ rest)

-- which is told by whether anything was found behind it
pub front_told : {X : Type 0} (now : X → List ℕ) (text front : List ℕ) (found : Option X) (told : Bool)
    → MatchOption found ((rest : List ℕ) → text ≢ front ++ rest) (λ rest. text ≡ front ++ now rest)
    → told ≡ is_some found → (IsTrue told ↔ HasFront text front)
front_told now text front (Some rest) told is same = (λ t. (now rest, is), λ h. same)
front_told now text front None told not same = (λ t. absurd (cc), λ h. absurd (not h.0 h.1))

-- of two texts that go on to be the same, one begins with the other
pub goes_on : (a b more rest : List ℕ) → a ++ more ≡ b ++ rest → HasFront a b ⊎ HasFront b a
goes_on [] b more rest e = inr (b, refl)
goes_on (x ∷ a) [] more rest e = inl (x ∷ a, refl)
goes_on (x ∷ a) (y ∷ b) more rest e =
    let first : x ≡ y = ap (λ (text : List ℕ). get_or text 0 0) e in
    ⊎_elim
    (λ found. inl (found.0, ap (λ (n : ℕ). n ∷ a) first ∙ ap (λ (text : List ℕ). y ∷ text) found.1))
    (λ found. inr (found.0, ap (λ (n : ℕ). n ∷ b) (sym first) ∙ ap (λ (text : List ℕ). x ∷ text) found.1))
    (goes_on a b more rest (ap (drop 1) e))

-- an input begins as a reply where it begins with the start, or the start with it
pub begins_there : (start : Start) (input text : List ℕ) → text ≡ start_text start → HasFront input text → BeginsAs input start
begins_there start input text is (rest, there) = ([], rest, append-nil input ∙ there ∙ ap (λ (t : List ℕ). t ++ rest) is)

-- and so does one that the start begins with
pub begins_within : (start : Start) (input text : List ℕ) → text ≡ start_text start → HasFront text input → BeginsAs input start
begins_within start input text is (rest, there) = (rest, [], sym there ∙ is ∙ sym (append-nil (start_text start)))

-- and only there
pub begins_either : (start : Start) (input text : List ℕ) → text ≡ start_text start → BeginsAs input start → HasFront input text ⊎ HasFront text input
begins_either start input text is (more, rest, e) = goes_on input text more rest (e ∙ ap (λ (t : List ℕ). t ++ rest) (sym is))

-- a start of a reply is that of what is granted, or one of the refusals' four: the last, if it is none of the others
pub begins_last : (asked : Grants) (input : List ℕ) → ¬ BeginsAs input (granted_start asked) → ¬ BeginsAs input Missing
    → ¬ BeginsAs input Forbidden → ¬ BeginsAs input Unfit → MayBegin asked input → BeginsAs input Unable
begins_last asked input granted missing forbidden unfit (Json, is, begins) = absurd (granted (subst (BeginsAs input) (sym is) begins))
begins_last asked input granted missing forbidden unfit (Paper, is, begins) = absurd (granted (subst (BeginsAs input) (sym is) begins))
begins_last asked input granted missing forbidden unfit (Missing, is, begins) = absurd (missing begins)
begins_last asked input granted missing forbidden unfit (Forbidden, is, begins) = absurd (forbidden begins)
begins_last asked input granted missing forbidden unfit (Unfit, is, begins) = absurd (unfit begins)
begins_last asked input granted missing forbidden unfit (Unable, is, begins) = begins

-- what is told exactly, and was not told, is not so
pub untold : {P : Type 0} (told : Bool) → (IsTrue told ↔ P) → told ≡ false → ¬ P
untold told tells fails is = true≢false (sym (tells.1 is) ∙ fails)

-- a text does not begin with this start and a head behind it, whatever follows
abbrev pub BeginsNot : List ℕ → Start → Type 0
BeginsNot input s = (n : ℕ) (d : Option (List ℕ)) (r : List ℕ) → n < 2 ^ 64 → IsDated d → input ≢ head_bytes s n d r

-- a refusal begins with one of four
pub no_refusal : (input : List ℕ) → BeginsNot input Missing → BeginsNot input Forbidden → BeginsNot input Unfit → BeginsNot input Unable
    → (s : Start) (n : ℕ) (d : Option (List ℕ)) (r : List ℕ) → IsRefusing s → n < 2 ^ 64 → IsDated d → input ≢ head_bytes s n d r
no_refusal input a b c e Json n d r is small = absurd is
no_refusal input a b c e Paper n d r is small = absurd is
no_refusal input a b c e Missing n d r is small = a n d r small
no_refusal input a b c e Forbidden n d r is small = b n d r small
no_refusal input a b c e Unfit n d r is small = c n d r small
no_refusal input a b c e Unable n d r is small = e n d r small
