-- Numbers, steps and lists of steps have one text each, and each text is cut at its colons and
-- semicolons.
use Rattle.std.proofs.Common.{◌≡◌, ◌≢◌, ℕ, zero, suc, ◌^◌, ◌<◌, ◌≤◌, inl, inr, true, false, eqb, List, ◌∷◌, ◌++◌, Option, Some, None, Result, Ok, Err, length, get_or, sym, ◌∙◌, ap, refl, subst, arith}
use Rattle.std.specs.Prelude.{All, IfSome, MatchOption, decimal}
use Rattle.std.specs.List.{after_first, before_first, position_or_len}
use Rattle.std.specs.Result.{result_ok}
use Rattle.std.specs.Str.Parse.{AllDigits, ParsesUnsigned, digits_value}
use Rattle.std.proofs.lemmas.Fmt.{decimal-digits_value, decimal_digit, decimal_injective, decimal_is_IsNumeral, decimal_nonempty, first_decimal}
use Rattle.std.proofs.lemmas.Str.Parse.{IsNumeralModel, numerals_by_value, parse_plain, tells_digits, digit_at}
use Rattle.std.proofs.lemmas.Bool.Decides.{nat_tests}
use Rattle.std.proofs.lemmas.List.{drop-drop, drop_at, get_or_append_left, get_or_at, get_or_default, length-append, take_at}
use Rattle.std.proofs.lemmas.List.Elements.{All-append, All-cons, All-nil}
use Rattle.std.proofs.lemmas.List.Sums.{position_or_len_is}
use Rattle.tariff.specs.declared.step.Step.{Step}
use Rattle.tariff.specs.Pieces.{HasLead}
use Rattle.sts_fields.specs.Text.{colon}
use Rattle.tariff.specs.StepsText.{IsWritable, end_text, step_text}

-- each byte of a number is a digit
digit_in : (n i : ℕ) → n < 2 ^ 64 → i < length (decimal n)
    → (48 ≤ get_or (decimal n) i 0) × (get_or (decimal n) i 0 ≤ 57)
digit_in n i small there = digit_at (decimal n) i (decimal_is_IsNumeral n small).0.1 there

-- no sign and no leading zero
pub decimal_plain : (n : ℕ) → n < 2 ^ 64 → ¬ HasLead (decimal n)
decimal_plain n small (inl plus) =
    let first = digit_in n 0 small (decimal_nonempty n small) in omega arith
decimal_plain zero small (inr p) =
    let one = ap length (decimal_digit 0 (omega arith)) in let long = p.1 in omega arith
decimal_plain (suc n) small (inr p) =
    let first = first_decimal (suc n) (omega arith) small in let z = p.0 in omega arith

at_most_one : (ds : List ℕ) → 0 < length ds → ¬ (1 < length ds) → length ds ≡ 1
at_most_one ds some short = omega arith

own : IsNumeralModel (AllDigits 10) (digits_value 10)
own = numerals_by_value (AllDigits 10) tells_digits

-- what `parse` reads of digits that no plus and no leading zero stands before
pub number_from_parse : {E : Type 0} (ds : List ℕ) (r : Result ℕ E) → ParsesUnsigned 32 10 ds r
    → ¬ HasLead ds
    → MatchOption (result_ok r) ((n : ℕ) → n < 2 ^ 32 → ds ≢ decimal n) (λ n. ds ≡ decimal n)
number_from_parse {E} ds (Ok x) parsed plain =
    let ok = parse_plain own {E = E} 32 ds (Ok x) parsed (λ plus. plain (inl plus)) in
    let short : get_or ds 0 0 ≡ 48 → length ds ≡ 1 =
    λ z. at_most_one ds ok.0.1 (λ long. plain (inr (z, long))) in
    sym (decimal-digits_value own ds ok.0.0 ok.0.1 short (omega (arith, ok.0.2)))
    ∙ ap decimal (sym ok.1)
number_from_parse ds (Err e) parsed plain = λ n small is.
    let none = parse_plain own 32 ds (Err e) parsed (λ plus. plain (inl plus)) in
    let number = decimal_is_IsNumeral n (omega arith) in
    none (subst (λ (ds : List ℕ). AllDigits 10 ds × (0 < length ds) × (digits_value 10 ds < 2 ^ 32))
    (sym is) (number.0.1, number.0.0, omega (arith, number.1)))

-- no byte of the text is this one
abbrev pub Lacks : ℕ → List ℕ → Type 0
Lacks c text = All (λ b. eqb b c ≡ false) text

-- a byte passes the test for itself
pub eqb_self : (c : ℕ) → eqb c c ≡ true
eqb_self c = grind (arith, nat_tests)

lacks_byte : (b c : ℕ) → b ≢ c → eqb b c ≡ false
lacks_byte b c apart = grind (arith, nat_tests)

Lacks-decimal : (n c : ℕ) → n < 2 ^ 64 → 57 < c → Lacks c (decimal n)
Lacks-decimal n c small above = λ k d there.
    let digit = digit_in n k small there in
    rw (get_or_default (decimal n) k d 0 there)
    (lacks_byte (get_or (decimal n) k 0) c (omega (arith, digit)))

Lacks-end_text : (ends : Option ℕ) (c : ℕ) → IfSome ends (λ e. e < 2 ^ 32) → 57 < c
    → Lacks c (end_text ends)
Lacks-end_text None c small above = All-nil (λ b. eqb b c ≡ false)
Lacks-end_text (Some e) c small above = Lacks-decimal e c (omega arith) above

-- the text of a step has no byte above a colon, such as a semicolon
pub Lacks-step_text : (s : Step) (c : ℕ) → IsWritable s → 58 < c → Lacks c (step_text s)
Lacks-step_text s c w above =
    All-append (λ b. eqb b c ≡ false) (end_text s.ends) (colon ∷ decimal s.price)
    (Lacks-end_text s.ends c w.0 (omega arith))
    (All-cons (λ b. eqb b c ≡ false) colon (decimal s.price) (lacks_byte 58 c (omega arith))
    (Lacks-decimal s.price c (omega (arith, w.1)) (omega arith)))

-- the first place of a byte is after what lacks it
first_place : (c : ℕ) (xs ys : List ℕ) → Lacks c xs → position_or_len (λ b. eqb b c) (xs ++ c ∷ ys)
    ≡ length xs
first_place c xs ys lacks = position_or_len_is (λ b. eqb b c) (xs ++ c ∷ ys) (length xs) 0
    (omega (arith, length-append xs (c ∷ ys)))
    (λ k before. rw (get_or_append_left xs (c ∷ ys) 0 k before) (lacks k 0 before))
    (λ there. rw (get_or_at xs c ys 0 (length xs) refl) (eqb_self c))

before_cut : (c : ℕ) (xs ys : List ℕ) → Lacks c xs → before_first (λ b. eqb b c) (xs ++ c ∷ ys) ≡ xs
before_cut c xs ys lacks = rw (first_place c xs ys lacks) (take_at xs (c ∷ ys) (length xs) refl)

after_cut : (c : ℕ) (xs ys : List ℕ) → Lacks c xs → after_first (λ b. eqb b c) (xs ++ c ∷ ys) ≡ ys
after_cut c xs ys lacks =
    rw (
      first_place c xs ys lacks,
      ← drop-drop 1 (length xs) (xs
          ++ c ∷ ys),
      drop_at xs (c ∷ ys) (length xs) refl,
    ) refl

-- the text of a step has a colon, its end before it and its price after it
pub record IsCut (text : List ℕ) (s : Step) : Type 0 where
  pub colon : position_or_len (λ b. eqb b 58) text < length text
  pub ends : before_first (λ b. eqb b 58) text ≡ end_text s.ends
  pub price : after_first (λ b. eqb b 58) text ≡ decimal s.price

-- the text of a step is cut at its colon
pub is_cut : (text : List ℕ) (s : Step) → IsWritable s → text ≡ step_text s → IsCut text s
is_cut text s w is =
    let lacks = Lacks-end_text s.ends 58 w.0 (omega arith) in
    rw is (record {
      colon = omega (
        arith,
        first_place 58 (end_text s.ends) (decimal s.price) lacks,
        length-append
            (end_text s.ends) (58 ∷ decimal s.price),
      );
      ends = before_cut 58 (end_text s.ends) (decimal s.price) lacks;
      price = after_cut 58 (end_text s.ends) (decimal s.price) lacks;
    })

-- a text without a colon is no step's
pub no_colon : (text : List ℕ) → position_or_len (λ b. eqb b 58) text ≡ length text → (s : Step)
    → IsWritable s → text ≢ step_text s
no_colon text none s w is = omega (arith, none, (is_cut text s w is).colon)

-- nor is one where something stands before the colon that is no number
pub no_end : (text ends : List ℕ) → ends ≡ before_first (λ b. eqb b 58) text → 0 < length ends
    → ((n : ℕ) → n < 2 ^ 32 → ends ≢ decimal n) → (s : Step) → IsWritable s → text ≢ step_text s
no_end text ends before some none s w is = end_cases s.ends w.0 (before ∙ (is_cut text s w is).ends)
  where
    end_cases : (o : Option ℕ) → IfSome o (λ e. e < 2 ^ 32) → ends ≢ end_text o
    end_cases None small e = omega (arith, some, ap length e)
    end_cases (Some n) small e = none n small e

-- nor is one where no number stands after the colon
pub no_price : (text price : List ℕ) → price ≡ after_first (λ b. eqb b 58) text
    → ((n : ℕ) → n < 2 ^ 32 → price ≢ decimal n) → (s : Step) → IsWritable s → text ≢ step_text s
no_price text price after none s w is = none s.price w.1 (after ∙ (is_cut text s w is).price)

same_end : (o p : Option ℕ) → IfSome o (λ e. e < 2 ^ 32) → IfSome p (λ e. e < 2 ^ 32) → end_text o
    ≡ end_text p → o ≡ p
same_end None None small other e = refl
same_end None (Some f) small other e =
    absurd (omega (arith, ap length e, decimal_nonempty f (omega arith)))
same_end (Some e) None small other same =
    absurd (omega (arith, ap length same, decimal_nonempty e (omega arith)))
same_end (Some e) (Some f) small other same =
    ap Some (decimal_injective e f (omega arith) (omega arith) same)

same_fields : (s t : Step) → s.ends ≡ t.ends → s.price ≡ t.price → s ≡ t
same_fields s t ends price =
    ap (λ o. record { ends = o; price = s.price }) ends
    ∙ ap (λ p. record { ends = t.ends; price = p }) price

-- a text is that of one step
pub same_step : (text : List ℕ) (s t : Step) → IsWritable s → IsWritable t → text ≡ step_text s
    → text ≡ step_text t → s ≡ t
same_step text s t v w is other =
    let a = is_cut text s v is in
    let b = is_cut text t w other in
    same_fields s t (same_end s.ends t.ends v.0 w.0 (sym a.ends ∙ b.ends))
    (decimal_injective s.price t.price (omega (arith, v.1)) (omega (arith, w.1))
    (sym a.price ∙ b.price))
