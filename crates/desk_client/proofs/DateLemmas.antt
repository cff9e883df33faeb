-- The dates of heads.
use Rattle.std.proofs.Common.{◌≡◌, ◌≢◌, ◌∙◌, ℕ, zero, suc, ◌<◌, ◌≤◌, Bool, true, false, true≢false, eqb, List, [], ◌∷◌, ◌++◌, length, take, drop, codes, Option, None, Some, inl, refl, ap, sym, arith, append_assoc, length-append}
use Rattle.std.specs.Prelude.{◌↔◌, IsTrue}
use Rattle.std.specs.Cmp.Lexicographic.{pointwise}
use Rattle.std.proofs.lemmas.List.{append_cancel_left, length-take-le, take-append-drop}
use Rattle.httpdate.specs.declared.date.HttpDate.{HttpDate}
use Rattle.httpdate.specs.declared.parts.Parts.{Parts}
use Rattle.httpdate.specs.Date.{IsDateText, date_text}
use Rattle.httpdate.specs.Text.{day_name, four_digits, imf_fixdate, month_name, time_of_day, two_digits}
use Rattle.httpdate.proofs.Theorems.{IsDateText_unique}
use Rattle.desk_client.specs.Start.{IsDated, IsHttpDate, date_end}
use Rattle.desk_client.proofs.NumberLemmas.{alike, unlike}

-- the text is three characters
abbrev AreThree : List ℕ → Type 0
AreThree text = (a : ℕ) × (b : ℕ) × (c : ℕ) × (text ≡ a ∷ b ∷ c ∷ [])

day_three : (n : ℕ) → 1 ≤ n → n ≤ 7 → AreThree (day_name n)
day_three zero low high = absurd (omega arith)
day_three (suc zero) low high = (_, _, _, refl)
day_three (suc (suc zero)) low high = (_, _, _, refl)
day_three (suc (suc (suc zero))) low high = (_, _, _, refl)
day_three (suc (suc (suc (suc zero)))) low high = (_, _, _, refl)
day_three (suc (suc (suc (suc (suc zero))))) low high = (_, _, _, refl)
day_three (suc (suc (suc (suc (suc (suc zero)))))) low high = (_, _, _, refl)
day_three (suc (suc (suc (suc (suc (suc (suc zero))))))) low high = (_, _, _, refl)
day_three (suc (suc (suc (suc (suc (suc (suc (suc n)))))))) low high = absurd (omega arith)

month_three : (n : ℕ) → 1 ≤ n → n ≤ 12 → AreThree (month_name n)
month_three zero low high = absurd (omega arith)
month_three (suc zero) low high = (_, _, _, refl)
month_three (suc (suc zero)) low high = (_, _, _, refl)
month_three (suc (suc (suc zero))) low high = (_, _, _, refl)
month_three (suc (suc (suc (suc zero)))) low high = (_, _, _, refl)
month_three (suc (suc (suc (suc (suc zero))))) low high = (_, _, _, refl)
month_three (suc (suc (suc (suc (suc (suc zero)))))) low high = (_, _, _, refl)
month_three (suc (suc (suc (suc (suc (suc (suc zero))))))) low high = (_, _, _, refl)
month_three (suc (suc (suc (suc (suc (suc (suc (suc zero)))))))) low high = (_, _, _, refl)
month_three (suc (suc (suc (suc (suc (suc (suc (suc (suc zero))))))))) low high = (_, _, _, refl)
month_three (suc (suc (suc (suc (suc (suc (suc (suc (suc (suc zero)))))))))) low high = (_, _, _, refl)
month_three (suc (suc (suc (suc (suc (suc (suc (suc (suc (suc (suc zero))))))))))) low high = (_, _, _, refl)
month_three (suc (suc (suc (suc (suc (suc (suc (suc (suc (suc (suc (suc zero)))))))))))) low high = (_, _, _, refl)
month_three (suc (suc (suc (suc (suc (suc (suc (suc (suc (suc (suc (suc (suc n))))))))))))) low high = absurd (omega arith)

-- a date by the names of its day and its month
abbrev with_names : List ℕ → List ℕ → Parts → List ℕ
with_names day month p =
    day ++ codes ", " ++ two_digits p.day ++ codes " " ++ month ++ codes " " ++ four_digits p.year ++ codes " " ++ time_of_day p ++ codes " GMT"

text_long : (date : HttpDate) → length (date_text date) ≡ 29
text_long date =
    let p = date.parts in
    let right = date.right_day in
    let months = date.civil.1 in
    let day = day_three p.wday (omega (arith, right)) (omega (arith, right)) in
    let month = month_three p.mon months.0 months.1 in
    ap (λ (x : List ℕ). length (with_names x (month_name p.mon) p)) day.3
    ∙ ap (λ (x : List ℕ). length (with_names (day.0 ∷ day.1 ∷ day.2 ∷ []) x p)) month.3

-- a date has 29 characters
pub date_long : (text : List ℕ) → IsHttpDate text → length text ≡ 29
date_long text is = ap length is.1 ∙ text_long is.0

-- the date that a text shows is the only one
pub one_date : (text : List ℕ) (date : HttpDate) → IsDateText text date → IsHttpDate text → text ≡ date_text date
one_date text date shown is = is.1 ∙ ap imf_fixdate (IsDateText_unique text is.0 date (inl is.1) shown)

-- a text that shows no date is none
pub no_date : (text : List ℕ) → ((date : HttpDate) → ¬ IsDateText text date) → ¬ IsHttpDate text
no_date text none is = none is.0 (inl is.1)

-- what was compared with the date that a text shows tells whether it is a date
pub is_date_when : (text shown : List ℕ) (date : HttpDate) (b : Bool) → IsDateText text date → shown ≡ date_text date
    → b ≡ pointwise eqb shown text → IsTrue b ↔ IsHttpDate text
is_date_when text shown date true is shows e = (λ t. (date, sym (alike shown text e) ∙ shows), λ h. refl)
is_date_when text shown date false is shows e =
    (λ t. absurd (true≢false (sym t)), λ h. absurd (unlike shown text e (shows ∙ sym (one_date text date is h))))

-- a text that shows no date
pub not_date : (text : List ℕ) → ((date : HttpDate) → ¬ IsDateText text date) → IsTrue false ↔ IsHttpDate text
not_date text none = (λ t. absurd (true≢false (sym t)), λ h. absurd (no_date text none h))

-- ---- a date at the front

-- fronts of one length, and what follows them
pub same_front : (a b x y : List ℕ) → length a ≡ length b → a ++ x ≡ b ++ y → (a ≡ b) × (x ≡ y)
same_front [] [] x y long e = (refl, e)
same_front [] (d ∷ b) x y long e = absurd (omega (arith, long))
same_front (c ∷ a) [] x y long e = absurd (omega (arith, long))
same_front (c ∷ a) (d ∷ b) x y long e =
    let first : c ≡ d = cc in
    let rest : a ++ x ≡ b ++ y = cc in
    let more = same_front a b x y (omega (arith, long)) rest in
    (cc, more.1)

-- a text that is too short begins with none
pub too_short : (text date behind : List ℕ) → length text < 29 → IsHttpDate date → text ≢ date ++ behind
too_short text date behind short is same = omega (arith, short, ap length same, length-append date behind, date_long date is)

-- the two pieces are the text
pub cut_whole : (text front back : List ℕ) → front ≡ take 29 text → back ≡ drop 29 text → front ++ back ≡ text
cut_whole text front back fronts backs =
    ap (λ (x : List ℕ). x ++ back) fronts ∙ ap (λ (x : List ℕ). take 29 text ++ x) backs ∙ take-append-drop 29 text

-- what a text is cut into behind as many bytes as a date has
pub cut_date : (text front back date behind : List ℕ) → 29 ≤ length text → front ≡ take 29 text → back ≡ drop 29 text → IsHttpDate date
    → text ≡ date ++ behind → (front ≡ date) × (back ≡ behind)
cut_date text front back date behind long fronts backs is same =
    same_front front date back behind
    (omega (arith, ap length fronts, length-take-le 29 text long, date_long date is))
    (cut_whole text front back fronts backs ∙ same)

-- ---- the end of a head

-- where neither an empty line stands nor the name of a date
pub no_end : (text : List ℕ) → ((rest : List ℕ) → text ≢ 13 ∷ 10 ∷ rest) → ((rest : List ℕ) → text ≢ codes "Date: " ++ rest)
    → (dated : Option (List ℕ)) (rest : List ℕ) → IsDated dated → text ≢ date_end dated ++ rest
no_end text bare named None rest is same = bare rest same
no_end text bare named (Some date) rest is same = named ((date ++ 13 ∷ 10 ∷ 13 ∷ 10 ∷ []) ++ rest) same

-- where what stands behind that name is no date and an empty line
pub no_dated_end : (text value : List ℕ) → ((rest : List ℕ) → text ≢ 13 ∷ 10 ∷ rest) → text ≡ codes "Date: " ++ value
    → ((date rest : List ℕ) → IsHttpDate date → value ≢ date ++ (13 ∷ 10 ∷ 13 ∷ 10 ∷ rest))
    → (dated : Option (List ℕ)) (rest : List ℕ) → IsDated dated → text ≢ date_end dated ++ rest
no_dated_end text value bare named none None rest is same = bare rest same
no_dated_end text value bare named none (Some date) rest is same =
    let end : List ℕ = 13 ∷ 10 ∷ 13 ∷ 10 ∷ [] in
    none date rest is (append_cancel_left (codes "Date: ") value ((date ++ end) ++ rest) (sym named ∙ same) ∙ append_assoc date end rest)

-- where it is one
pub dated_end : (text value date rest : List ℕ) → text ≡ codes "Date: " ++ value → value ≡ date ++ (13 ∷ 10 ∷ 13 ∷ 10 ∷ rest)
    → text ≡ date_end (Some date) ++ rest
dated_end text value date rest named is =
    let end : List ℕ = 13 ∷ 10 ∷ 13 ∷ 10 ∷ [] in
    named ∙ ap (λ (x : List ℕ). codes "Date: " ++ x) (is ∙ sym (append_assoc date end rest))
