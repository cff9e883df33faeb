-- What an answer says of an identifier, and that an accepted one stays so until the meter is
-- cleared.
use Rattle.std.proofs.Common.{◌≡◌, ◌≢◌, ℕ, ◌<◌, ◌≤◌, Bool, true, false, cond, eqb, ltb, leb, ◌||◌, List, [], ◌∷◌, ◌++◌, map, Result, Ok, Err, count_by, ◌↔◌, ◌⊎◌, inl, inr, refl, sym, ◌∙◌, ap, subst, arith}
use Rattle.std.specs.List.{fold}
use Rattle.std.proofs.lemmas.Bool.{eqb-true, false≢true, or_cases}
use Rattle.std.proofs.lemmas.Bool.Decides.{nat_tests}
use Rattle.std.proofs.lemmas.List.{append_assoc, map-append}
use Rattle.std.proofs.lemmas.List.Sums.{fold-append}
use Rattle.sts_token.specs.Fields.{TokenFields}
use Rattle.sts_token.specs.declared.fault.TokenFault.{TokenFault}
use Rattle.sts_token.specs.Meter.{Accepts, Entry, Reader, Taken, TidAnswer, WasAccepted, accepted, after_entry, after_reading, answer_to, answered, entered, is_member, old, taken_over, used}

-- an identifier is accepted exactly if it is neither old nor 0 nor among those taken
pub record IsNew (taken : List ℕ) (t : ℕ) : Type 0 where
  pub few_greater : count_by (ltb t) taken < 50
  pub above_zero : t ≢ 0
  pub not_taken : is_member taken t ≡ false

choice_accepted : (o z m : Bool) → cond o old (cond (z || m) used accepted) ≡ accepted
    → (o ≡ false) × (z ≡ false) × (m ≡ false)
choice_accepted true z m e = cc
choice_accepted false true m e = cc
choice_accepted false false true e = cc
choice_accepted false false false e = (refl, refl, refl)

choice_used : (o z m : Bool) → cond o old (cond (z || m) used accepted) ≡ used → (z ≡ false) → m
    ≡ true
choice_used true z m e n = cc
choice_used false true m e n = cc
choice_used false false true e n = refl
choice_used false false false e n = cc

choice_old : (o z m : Bool) → cond o old (cond (z || m) used accepted) ≡ old → o ≡ true
choice_old true z m e = refl
choice_old false true m e = cc
choice_old false false true e = cc
choice_old false false false e = cc

-- an accepted identifier was new
pub new_from_accepted : (taken : List ℕ) (t : ℕ) → answer_to taken t ≡ accepted → IsNew taken t
new_from_accepted taken t e =
    let is = choice_accepted (leb 50 (count_by (ltb t) taken)) (eqb t 0) (is_member taken t) e in
    let few = is.0 in
    let above = is.1 in
    record { few_greater = grind (arith, nat_tests); above_zero = grind (arith, nat_tests); not_taken = is.2 }

-- a new identifier is accepted
pub accepted_from_new : (taken : List ℕ) (t : ℕ) → IsNew taken t → answer_to taken t ≡ accepted
accepted_from_new taken t new =
    let few : leb 50 (count_by (ltb t) taken) ≡ false =
    let f = new.few_greater in grind (arith, nat_tests) in
    let above : eqb t 0 ≡ false = let f = new.above_zero in grind (arith, nat_tests) in
    ap (λ (o : Bool). cond o old (cond (eqb t 0 || is_member taken t) used accepted)) few
    ∙ ap (λ (z : Bool). cond (z || is_member taken t) used accepted) above
    ∙ ap (λ (m : Bool). cond m used accepted) new.not_taken

-- a used identifier is among those taken, unless it is 0
pub among_from_used : (taken : List ℕ) (t : ℕ) → answer_to taken t ≡ used → 1 ≤ t → is_member taken t
    ≡ true
among_from_used taken t e above =
    choice_used (leb 50 (count_by (ltb t) taken)) (eqb t 0) (is_member taken t) e
    (grind (arith, nat_tests))

-- of those taken, at least fifty are greater than an old identifier
pub greater_from_old : (taken : List ℕ) (t : ℕ) → answer_to taken t ≡ old
    → 50 ≤ count_by (ltb t) taken
greater_from_old taken t e =
    let is = choice_old (leb 50 (count_by (ltb t) taken)) (eqb t 0) (is_member taken t) e in
    grind (arith, nat_tests)

-- ---- an identifier is among those taken
pub among_cons : (u : ℕ) (taken : List ℕ) (t : ℕ) → is_member taken t ≡ true → is_member (u ∷ taken) t
    ≡ true
among_cons u taken t h =
    elim (eqb t u) as (λ b. (b || is_member taken t) ≡ true) [ true ↦ refl | false ↦ h ]

-- the one that was taken last is among them
pub among_first : (t : ℕ) (taken : List ℕ) → is_member (t ∷ taken) t ≡ true
among_first t taken = let same : eqb t t
    ≡ true = grind (arith, nat_tests) in ap (λ (b : Bool). b || is_member taken t) same

-- whether an identifier is among them does not change as another one is taken
pub among_other : (u : ℕ) (taken : List ℕ) (t : ℕ) → t ≢ u → is_member (u ∷ taken) t
    ≡ is_member taken t
among_other u taken t other = let differ : eqb t u
    ≡ false = grind (arith, nat_tests) in ap (λ (b : Bool). b || is_member taken t) differ

among_answered : (taken : Taken) (f : TokenFields) (a : TidAnswer) (t : ℕ) → is_member taken.tids t
    ≡ true → is_member (answered taken f a).tids t ≡ true
among_answered taken f accepted t h = among_cons f.tid taken.tids t h
among_answered taken f used t h = h
among_answered taken f old t h = h

among_reading : (taken : Taken) (r : Result TokenFields TokenFault) (t : ℕ) → is_member taken.tids t
    ≡ true → is_member (after_reading taken r).tids t ≡ true
among_reading taken (Ok f) t h = among_answered taken f (answer_to taken.tids f.tid) t h
among_reading taken (Err fault) t h = h

among_later : (read : Reader) (taken : Taken) (later : List (List ℕ)) (t : ℕ)
    → is_member taken.tids t ≡ true
    → is_member (fold (after_entry read) taken (map entered later)).tids t ≡ true
among_later read taken [] t h = h
among_later read taken (text ∷ later) t h =
    among_later read (after_reading taken (read text)) later t (among_reading taken (read text) t h)

-- the entry of an accepted text
pub taken_from_accepts : (read : Reader) (history : List Entry) (text : List ℕ) (f : TokenFields)
    → Accepts read history text f
    → after_reading (taken_over read history) (read text)
    ≡ answered (taken_over read history) f accepted
taken_from_accepts read history text f a =
    ap (after_reading (taken_over read history)) a.reads
    ∙ ap (answered (taken_over read history) f) a.answer

-- no two accepted texts have one identifier, while the meter is not cleared
pub identifier_once : (read : Reader) (history : List Entry) (later : List (List ℕ))
    (first again : List ℕ) (f g : TokenFields)
    → Accepts read history first f
    → Accepts read (history ++ entered first ∷ map entered later) again g → f.tid ≢ g.tid
identifier_once read history later first again f g a b same =
    let here = taken_over read history in
    let gained : is_member (after_reading here (read first)).tids f.tid ≡ true =
    ap (λ (n : Taken). is_member n.tids f.tid) (taken_from_accepts read history first f a)
    ∙ among_first f.tid here.tids in
    let stays = among_later read (after_reading here (read first)) later f.tid gained in
    let whole = fold-append (after_entry read) (record { tids = []; amounts = [] }) history (entered first ∷ map entered later) in
    let among : is_member (taken_over read (history ++ entered first ∷ map entered later)).tids g.tid
    ≡ true =
    ap (λ (n : Taken). is_member n.tids g.tid) whole
    ∙ ap (is_member (fold (after_entry read) here (entered first ∷ map entered later)).tids)
    (sym same) ∙ stays in
    let new = new_from_accepted (taken_over read (history ++ entered first ∷ map entered later)).tids g.tid b.answer in
    false≢true (sym new.not_taken ∙ among)

-- no text is accepted twice, while the meter is not cleared
pub token_once : (read : Reader) (history : List Entry) (later : List (List ℕ)) (text : List ℕ)
    (f g : TokenFields)
    → Accepts read history text f
    → ¬ Accepts read (history ++ entered text ∷ map entered later) text g
token_once read history later text f g a b =
    let one : Ok f ≡ Ok g = sym a.reads ∙ b.reads in
    let fields : f ≡ g = cc in
    identifier_once read history later text text f g a b (ap (λ (h : TokenFields). h.tid) fields)

-- ---- the identifiers taken are those of the texts accepted
-- a token that is not accepted adds none
among_before : (taken : Taken) (f : TokenFields) (a : TidAnswer) (t : ℕ)
    → is_member (answered taken f a).tids t ≡ true
    → (is_member taken.tids t ≡ true) ⊎ ((a ≡ accepted) × (f.tid ≡ t))
among_before taken f accepted t h =
    elim (or_cases (eqb t f.tid) (is_member taken.tids t) h) [
      | inl same ↦ inr (refl, sym (eqb-true t f.tid same))
      | inr before ↦ inl before
    ]
among_before taken f used t h = inl h
among_before taken f old t h = inl h

-- after one more text
taken_more : (read : Reader) (done : List (List ℕ)) (text : List ℕ)
    → taken_over read (map entered (done ++ text ∷ []))
    ≡ after_reading (taken_over read (map entered done)) (read text)
taken_more read done text =
    ap (taken_over read) (map-append entered done (text ∷ []))
    ∙ fold-append (after_entry read) (record { tids = []; amounts = [] }) (map entered done) (entered text ∷ [])

accepted_last : (read : Reader) (done : List (List ℕ)) (text : List ℕ)
    (r : Result TokenFields TokenFault) (more : List (List ℕ)) (t : ℕ)
    → read text ≡ r → is_member (after_reading (taken_over read (map entered done)) r).tids t ≡ true
    → (is_member (taken_over read (map entered done)).tids t ≡ true) ⊎ WasAccepted read
    (done ++ text ∷ more) t
accepted_last read done text (Ok f) more t e h =
    let taken = taken_over read (map entered done) in
    elim (among_before taken f (answer_to taken.tids f.tid) t h) [
      | inl before ↦ inl before
      | inr (answer, same) ↦ inr (record {
        earlier = done;
        text = text;
        later = more;
        fields = f;
        one_of = refl;
        accepts = record { reads = e; answer = answer };
        identifier = same;
      })
    ]
accepted_last read done text (Err fault) more t e h = inl h

accepted_along : (read : Reader) (done rest : List (List ℕ)) (t : ℕ)
    → is_member (fold (after_entry read) (taken_over read (map entered done))
    (map entered rest)).tids t ≡ true
    → (is_member (taken_over read (map entered done)).tids t ≡ true) ⊎ WasAccepted read
    (done ++ rest) t
accepted_along read done [] t h = inl h
accepted_along read done (text ∷ rest) t h =
    let next = subst (λ (n : Taken). is_member (fold (after_entry read) n (map entered rest)).tids t ≡ true) (sym (taken_more read done text)) h in
    elim (accepted_along read (done ++ text ∷ []) rest t next) [
      | inl here ↦ accepted_last read done text (read text) rest t refl (subst (λ (n : Taken). is_member n.tids t ≡ true) (taken_more read done text) here)
      | inr was ↦ inr (subst (λ (texts : List (List ℕ)). WasAccepted read texts t) (append_assoc done (text ∷ []) rest) was)
    ]

-- an identifier is among those taken exactly if a text was accepted with it
pub taken_iff : (read : Reader) (texts : List (List ℕ)) (t : ℕ)
    → (is_member (taken_over read (map entered texts)).tids t ≡ true) ↔ WasAccepted read texts t
taken_iff read texts t = (
  λ among. elim (accepted_along read [] texts t among) [ inl none ↦ absurd (false≢true none) | inr was ↦ was ],
  λ was.
      let here = taken_over read (map entered was.earlier) in
      let gained : is_member (after_reading here (read was.text)).tids t ≡ true =
      ap (λ (n : Taken). is_member n.tids t)
      (taken_from_accepts read (map entered was.earlier) was.text was.fields was.accepts)
      ∙ ap (is_member (was.fields.tid ∷ here.tids)) (sym was.identifier)
      ∙ among_first was.fields.tid here.tids in
      let stays = among_later read (after_reading here (read was.text)) was.later t gained in
      let whole = ap (λ (ts : List (List ℕ)). taken_over read (map entered ts)) was.one_of
      ∙ ap (taken_over read) (map-append entered was.earlier (was.text ∷ was.later))
      ∙ fold-append (after_entry read) (record { tids = []; amounts = [] }) (map entered was.earlier) (entered was.text ∷ map entered was.later) in
      ap (λ (n : Taken). is_member n.tids t) whole ∙ stays,
)
