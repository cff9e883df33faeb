-- Each text has one reading, and `reading_of` computes it.
use Rattle.std.proofs.Common.{◌≡◌, ℕ, ◌/◌, ◌%◌, ◌<◌, ◌^◌, Bool, true, false, not, cond, eqb, leb, List, length, Result, Ok, Err, refl, sym, ◌∙◌, ap, subst, arith}
use Rattle.std.specs.List.{list_all}
use Rattle.std.specs.Char.{is_ascii_digit}
use Rattle.std.proofs.lemmas.Bool.{and_from, and_parts, eq-eqb, eqb-false, eqb-true, false_from_ne_true, false≢true, le-leb, leb-false, leb-true, lt-leb, ne_eqb}
use Rattle.std.proofs.lemmas.List.Sums.{AllPass-from_list_all, list_all-from_AllPass}
use Rattle.sts_token.specs.Block.{block_of, check_of_payload, number_of}
use Rattle.sts_token.specs.Fields.{AreFields, TokenFields}
use Rattle.sts_token.specs.Reading.{Carries, IsOfClassZero, Reads, block_numbered, block_reading, class_of, fields_in, is_twenty_digits, number_in, reading_of}
use Rattle.sts_token.specs.Token.{AreTwentyDigits, IsToken, token_of}
use Rattle.sts_token.specs.Transform.{IsTransform}
use Rattle.sts_token.specs.declared.fault.TokenFault.{TokenFault}
use Rattle.sts_token.specs.declared.fault.TokenFault.TheVariants.{NotTwentyDigits, TooLarge, WrongClass, BadCheck, WrongSubclass}
use Rattle.sts_token.proofs.NumberLemmas.{AmountLaw, block_from_check, block_has_bits, block_numbered-lt, fields_in_are, number_has_class_zero, number_of_block, number_once}
use Rattle.sts_token.proofs.TokenLemmas.{number_of-lt, one_token, written_token}

-- ---- twenty digits
pub digits_from_test : (text : List ℕ) → is_twenty_digits text ≡ true → AreTwentyDigits text
digits_from_test text e =
    let parts = and_parts (eqb (length text) 20) (list_all is_ascii_digit text) e in
    record { twenty = eqb-true (length text) 20 parts.0; digits = AllPass-from_list_all is_ascii_digit text parts.1 }

-- a text of twenty digits passes the test
pub test_from_digits : (text : List ℕ) → AreTwentyDigits text → is_twenty_digits text ≡ true
test_from_digits text are =
    and_from (eqb (length text) 20) (list_all is_ascii_digit text)
    (eq-eqb (length text) 20 are.twenty) (list_all-from_AllPass is_ascii_digit text are.digits)

-- ---- the tests before the block, in their order
abbrev tested : Bool → Bool → Bool → Result TokenFields TokenFault → Result TokenFields TokenFault
tested digits large class_zero rest =
    cond (not digits) (Err NotTwentyDigits)
    (cond large (Err TooLarge) (cond (not class_zero) (Err WrongClass) rest))

reading_is_tested : (inverse : ℕ → ℕ → ℕ) (key : ℕ) (text : List ℕ)
    → reading_of inverse key text
    ≡ tested (is_twenty_digits text) (leb (2 ^ 66) (number_in text))
    (eqb (class_of (number_in text)) 0)
    (block_reading (inverse key (block_numbered (number_in text))))
unfolding reading_of
reading_is_tested inverse key text = refl

reads_tested : (forward inverse : ℕ → ℕ → ℕ) (key : ℕ) (text : List ℕ)
    (rest : Result TokenFields TokenFault) (digits large class_zero : Bool)
    → is_twenty_digits text ≡ digits → leb (2 ^ 66) (number_in text) ≡ large
    → eqb (class_of (number_in text)) 0 ≡ class_zero
    → (IsOfClassZero text → Reads forward inverse key text rest)
    → Reads forward inverse key text (tested digits large class_zero rest)
reads_tested forward inverse key text rest false large class_zero d l z reads =
    λ are. false≢true (sym d ∙ test_from_digits text are)
reads_tested forward inverse key text rest true true class_zero d l z reads =
    (digits_from_test text d, leb-true (2 ^ 66) (number_in text) l)
reads_tested forward inverse key text rest true false false d l z reads = (
  digits_from_test text d,
  leb-false (2 ^ 66) (number_in text) l,
  eqb-false
      (class_of (number_in text)) 0 z,
)
reads_tested forward inverse key text rest true false true d l z reads =
    reads (record { digits = digits_from_test text d; within = leb-false (2 ^ 66) (number_in text) l; class_zero = eqb-true (class_of (number_in text)) 0 z })

-- the block that a text of class 0 has the number of
record IsSent (text : List ℕ) (sent : ℕ) : Type 0 where
  bits : sent < 2 ^ 64
  number : number_of sent ≡ number_in text

sent_of : (text : List ℕ) → IsOfClassZero text → IsSent text (block_numbered (number_in text))
sent_of text is =
    record { bits = block_numbered-lt (number_in text) is.within; number = number_of_block (number_in text) is.within is.class_zero }

-- what a text carries stands in the one block that it has the number of
carried_block : (inverse : ℕ → ℕ
    → ℕ) (key : ℕ) (text : List ℕ) (sent subclass : ℕ) (f : TokenFields)
    → IsSent text sent → Carries inverse key text subclass f
    → inverse key sent ≡ block_of subclass f
carried_block inverse key text sent subclass f is carries =
    ap (inverse key) (number_once sent carries.transformed is.bits carries.block_bits
    (is.number ∙ sym carries.number)) ∙ carries.inverted

-- ---- the tests of the block
abbrev block_tested : Bool → Bool → TokenFields → Result TokenFields TokenFault
block_tested good electricity f =
    cond (not good) (Err BadCheck) (cond (not electricity) (Err WrongSubclass) (Ok f))

reads_block : AmountLaw
    → (forward inverse : ℕ → ℕ → ℕ) (key : ℕ) (text : List ℕ) (sent : ℕ) (good electricity : Bool)
    → IsTransform forward inverse → key < 2 ^ 64 → IsOfClassZero text → IsSent text sent
    → eqb (inverse key sent % 2 ^ 16) (check_of_payload (inverse key sent / 2 ^ 16)) ≡ good
    → eqb (inverse key sent / 2 ^ 60) 0 ≡ electricity
    → Reads forward inverse key text (block_tested good electricity (fields_in (inverse key sent)))
reads_block amounts forward inverse key text sent false electricity transform small class_zero is g e = (
  class_zero,
  λ subclass f carries.
      let same = carried_block inverse key text sent subclass f is carries in
      let good = (block_has_bits amounts subclass f carries.subclass_bits carries.fields).check in
      let here =
      ap (λ (b : ℕ). b % 2 ^ 16) same ∙ good
      ∙ ap (λ (b : ℕ). check_of_payload (b / 2 ^ 16)) (sym same) in
      eqb-false _ _ g here,
)
reads_block amounts forward inverse key text sent true false transform small class_zero is g e =
    let block = inverse key sent in
    let bits : block < 2 ^ 64 = transform.inverse_range key sent small is.bits in
    let whole : block ≡ block_of (block / 2 ^ 60) (fields_in block) =
    block_from_check amounts block bits (eqb-true _ _ g) in (
      class_zero,
      block / 2 ^ 60,
      fields_in block,
      record { subclass_bits = omega arith; fields = fields_in_are block; transformed = sent; block_bits = is.bits; number = is.number; inverted = whole },
      eqb-false (block / 2 ^ 60) 0 e,
    )
reads_block amounts forward inverse key text sent true true transform small class_zero is g e =
    let block = inverse key sent in
    let bits : block < 2 ^ 64 = transform.inverse_range key sent small is.bits in
    let whole : block ≡ block_of (block / 2 ^ 60) (fields_in block) =
    block_from_check amounts block bits (eqb-true _ _ g) in
    let electricity : block ≡ block_of 0 (fields_in block) =
    whole ∙ ap (λ (s : ℕ). block_of s (fields_in block)) (eqb-true (block / 2 ^ 60) 0 e) in
    let forth : sent ≡ forward key (block_of 0 (fields_in block)) =
    sym (transform.forward_undoes key sent small is.bits) ∙ ap (forward key) electricity in
    (fields_in_are block, record { digits = class_zero.digits; number = sym is.number ∙ ap number_of forth })

-- what `reading_of` computes is a reading of the text
pub reads_reading_of : AmountLaw → (forward inverse : ℕ → ℕ → ℕ) (key : ℕ) (text : List ℕ)
    → IsTransform forward inverse → key < 2 ^ 64
    → Reads forward inverse key text (reading_of inverse key text)
reads_reading_of amounts forward inverse key text transform small =
    subst (Reads forward inverse key text) (sym (reading_is_tested inverse key text))
    (reads_tested forward inverse key text
    (block_reading (inverse key (block_numbered (number_in text)))) _ _ _ refl refl refl
    (λ is. reads_block amounts forward inverse key text
    (block_numbered (number_in text)) _ _ transform small is (sent_of text is) refl refl))

-- ---- the other way: a reading of a text is the computed one
-- a text of class 0 is read by its block
read_block : (inverse : ℕ → ℕ → ℕ) (key : ℕ) (text : List ℕ) → IsOfClassZero text
    → reading_of inverse key text ≡ block_reading (inverse key (block_numbered (number_in text)))
read_block inverse key text is =
    let rest = block_reading (inverse key (block_numbered (number_in text))) in
    reading_is_tested inverse key text
    ∙ ap (λ (d : Bool). tested d (leb (2 ^ 66) (number_in text))
    (eqb (class_of (number_in text)) 0) rest) (test_from_digits text is.digits)
    ∙ ap (λ (l : Bool). tested true l (eqb (class_of (number_in text)) 0) rest)
    (lt-leb (2 ^ 66) (number_in text) is.within)
    ∙ ap (λ (z : Bool). tested true false z rest)
    (eq-eqb (class_of (number_in text)) 0 is.class_zero)

-- the block of a subclass and fields passes the check, and its subclass decides
read_sent : AmountLaw → (subclass : ℕ) (f : TokenFields) → subclass < 2 ^ 4 → AreFields f
    → block_reading (block_of subclass f) ≡ cond (not (eqb subclass 0)) (Err WrongSubclass) (Ok f)
read_sent amounts subclass f small fields =
    let block = block_of subclass f in
    let has = block_has_bits amounts subclass f small fields in
    ap (λ (g : Bool). block_tested g (eqb (block / 2 ^ 60) 0) (fields_in block))
    (eq-eqb (block % 2 ^ 16) (check_of_payload (block / 2 ^ 16)) has.check)
    ∙ ap (λ (s : ℕ). cond (not (eqb s 0)) (Err WrongSubclass)
    (Ok (fields_in block))) has.subclass_bits
    ∙ ap (λ (g : TokenFields). cond (not (eqb subclass 0)) (Err WrongSubclass) (Ok g)) has.fields

read_carried : AmountLaw
    → (inverse : ℕ → ℕ → ℕ) (key : ℕ) (text : List ℕ) (subclass : ℕ) (f : TokenFields)
    → IsOfClassZero text → Carries inverse key text subclass f
    → reading_of inverse key text ≡ cond (not (eqb subclass 0)) (Err WrongSubclass) (Ok f)
read_carried amounts inverse key text subclass f is carries =
    read_block inverse key text is
    ∙ ap block_reading (carried_block inverse key text (block_numbered (number_in text)) subclass f
    (sent_of text is) carries)
    ∙ read_sent amounts subclass f carries.subclass_bits carries.fields

-- a token is of class 0
token_is_of_class_zero : AmountLaw
    → (forward inverse : ℕ → ℕ → ℕ) (key : ℕ) (text : List ℕ) (f : TokenFields)
    → IsTransform forward inverse → key < 2 ^ 64
    → AreFields f → IsToken forward key f text → IsOfClassZero text
token_is_of_class_zero amounts forward inverse key text f transform small fields token =
    let bits = (block_has_bits amounts 0 f (omega arith) fields).bits in
    let sent = transform.forward_range key (block_of 0 f) small bits in
    record {
      digits = token.digits;
      within = subst (λ (n : ℕ). n < 2 ^ 66) (sym token.number)
          (number_of-lt (forward key (block_of 0 f)) sent);
      class_zero = ap class_of token.number ∙ number_has_class_zero (forward key (block_of 0 f));
    }

-- a token carries its fields in subclass 0
token_carries : AmountLaw
    → (forward inverse : ℕ → ℕ → ℕ) (key : ℕ) (text : List ℕ) (f : TokenFields)
    → IsTransform forward inverse → key < 2 ^ 64
    → AreFields f → IsToken forward key f text → Carries inverse key text 0 f
token_carries amounts forward inverse key text f transform small fields token =
    let bits = (block_has_bits amounts 0 f (omega arith) fields).bits in
    record {
      subclass_bits = omega arith;
      fields = fields;
      transformed = forward key (block_of 0 f);
      block_bits = transform.forward_range key (block_of 0 f) small bits;
      number = sym token.number;
      inverted = transform.inverse_undoes key (block_of 0 f) small bits;
    }

bad_check : (good electricity : Bool) (f : TokenFields) → (good ≡ false)
    → block_tested good electricity f ≡ Err BadCheck
bad_check good electricity f e = ap (λ (g : Bool). block_tested g electricity f) e

-- each reading of the text is the computed one
pub reading_from_reads : AmountLaw
    → (forward inverse : ℕ → ℕ → ℕ) (key : ℕ) (text : List ℕ) (r : Result TokenFields TokenFault)
    → IsTransform forward inverse → key < 2 ^ 64
    → Reads forward inverse key text r → reading_of inverse key text ≡ r
reading_from_reads amounts forward inverse key text (Ok f) transform small (fields, token) =
    read_carried amounts inverse key text 0 f
    (token_is_of_class_zero amounts forward inverse key text f transform small fields token)
    (token_carries amounts forward inverse key text f transform small fields token)
reading_from_reads amounts forward inverse key text
    (Err NotTwentyDigits) transform small not_digits =
    reading_is_tested inverse key text
    ∙ ap (λ (d : Bool). tested d (leb (2 ^ 66) (number_in text)) (eqb (class_of (number_in text)) 0)
    (block_reading (inverse key (block_numbered (number_in text)))))
    (false_from_ne_true (is_twenty_digits text) (λ e. not_digits (digits_from_test text e)))
reading_from_reads amounts forward inverse key text (Err TooLarge) transform small (digits, large) =
    let rest = block_reading (inverse key (block_numbered (number_in text))) in
    reading_is_tested inverse key text
    ∙ ap (λ (d : Bool). tested d (leb (2 ^ 66) (number_in text))
    (eqb (class_of (number_in text)) 0) rest) (test_from_digits text digits)
    ∙ ap (λ (l : Bool). tested true l (eqb (class_of (number_in text)) 0) rest)
    (le-leb (2 ^ 66) (number_in text) large)
reading_from_reads amounts forward inverse key text (Err WrongClass) transform small
    (digits, within, other) =
    let rest = block_reading (inverse key (block_numbered (number_in text))) in
    reading_is_tested inverse key text
    ∙ ap (λ (d : Bool). tested d (leb (2 ^ 66) (number_in text))
    (eqb (class_of (number_in text)) 0) rest) (test_from_digits text digits)
    ∙ ap (λ (l : Bool). tested true l (eqb (class_of (number_in text)) 0) rest)
    (lt-leb (2 ^ 66) (number_in text) within)
    ∙ ap (λ (z : Bool). tested true false z rest) (ne_eqb (class_of (number_in text)) 0 other)
reading_from_reads amounts forward inverse key text (Err BadCheck) transform small (is, none) =
    let sent = block_numbered (number_in text) in
    let block = inverse key sent in
    let at = sent_of text is in
    let bits : block < 2 ^ 64 = transform.inverse_range key sent small at.bits in
    let bad : eqb (block % 2 ^ 16) (check_of_payload (block / 2 ^ 16)) ≡ false =
    ne_eqb _ _ (λ good.
    none (block / 2 ^ 60) (fields_in block)
    (record {
      subclass_bits = omega (arith, bits);
      fields = fields_in_are block;
      transformed = sent;
      block_bits = at.bits;
      number = at.number;
      inverted = block_from_check amounts block bits good;
    })) in
    read_block inverse key text is ∙ bad_check _ (eqb (block / 2 ^ 60) 0) (fields_in block) bad
reading_from_reads amounts forward inverse key text (Err WrongSubclass) transform small
    (is, subclass, f, carries, other) =
    read_carried amounts inverse key text subclass f is carries
    ∙ ap (λ (z : Bool). cond (not z) (Err WrongSubclass) (Ok f)) (ne_eqb subclass 0 other)

-- a text has one reading
pub one_reading : AmountLaw
    → (forward inverse : ℕ → ℕ → ℕ) (key : ℕ) (text : List ℕ) (r s : Result TokenFields TokenFault)
    → IsTransform forward inverse → key < 2 ^ 64
    → Reads forward inverse key text r → Reads forward inverse key text s → r ≡ s
one_reading amounts forward inverse key text r s transform small p q =
    sym (reading_from_reads amounts forward inverse key text r transform small p)
    ∙ reading_from_reads amounts forward inverse key text s transform small q

-- ---- a written token
pub token_reads : AmountLaw → (forward inverse : ℕ → ℕ → ℕ) (key : ℕ) (f : TokenFields)
    → IsTransform forward inverse → key < 2 ^ 64 → AreFields f
    → IsToken forward key f (token_of forward key f)
unfolding token_of
token_reads amounts forward inverse key f transform small fields =
    let bits = (block_has_bits amounts 0 f (omega arith) fields).bits in
    let sent = transform.forward_range key (block_of 0 f) small bits in
    written_token forward key f (omega (arith, number_of-lt (forward key (block_of 0 f)) sent))

-- a text that reads as some fields is the token written for them
pub one_text : AmountLaw → (forward inverse : ℕ → ℕ → ℕ) (key : ℕ) (f : TokenFields) (text : List ℕ)
    → IsTransform forward inverse → key < 2 ^ 64
    → Reads forward inverse key text (Ok f) → text ≡ token_of forward key f
one_text amounts forward inverse key f text transform small (fields, token) =
    one_token forward key f text (token_of forward key f) token
    (token_reads amounts forward inverse key f transform small fields)
