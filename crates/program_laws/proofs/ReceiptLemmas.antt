-- What is told of a sale names it.
use Rattle.std.proofs.Common.{◌≡◌, ◌≢◌, ◌∙◌, ℕ, ◌+◌, List, [], ◌∷◌, ◌++◌, true, false, slice_get, Some, refl, sym, ap, append_assoc, arith}
use Rattle.std.specs.Prelude.{All, Contains, codes, decimal, drop}
use Rattle.std.specs.List.{AllByRecursion}
use Rattle.std.proofs.lemmas.Fmt.{decimal_injective}
use Rattle.std.proofs.lemmas.List.{append_cancel_left}
use Rattle.std.proofs.lemmas.List.Elements.{All-weaker, recursion_from_All}
use Rattle.std.proofs.lemmas.Option.{slice_get-get_or}
use Rattle.desk_messages.specs.reply.Records.{sale_cells, sale_names, sale_text}
use Rattle.records.specs.Record.{members_text}
use Rattle.sts_fields.specs.Base.{year_of}
use Rattle.papers.specs.Export.{IsPlainField, export_fields}
use Rattle.papers.specs.Receipt.{receipt_of}
use Rattle.papers.specs.Text.{change_of, grouped, kwh_text, line, time_text}
use Rattle.office_rules.specs.Name.{is_name_byte}
use Rattle.office_rules.specs.Office.{IsOffice, Office}
use Rattle.office_rules.specs.declared.office.sale.Sale.{Sale}

-- ---- what stands before a sign

-- the sign does not stand in the text
abbrev IsFree : ℕ → List ℕ → Type 0
IsFree sign text = AllByRecursion (λ b. b ≢ sign) text

-- where two texts go on behind the first such sign and are one, so are both parts
before_sign : (sign : ℕ) (a b x y : List ℕ) → IsFree sign a → IsFree sign b → a ++ sign ∷ x ≡ b ++ sign ∷ y → a ≡ b
before_sign sign [] [] x y p q same = refl
before_sign sign [] (d ∷ b) x y p q same = absurd (q.0 (cc))
before_sign sign (c ∷ a) [] x y p q same = absurd (p.0 (cc))
before_sign sign (c ∷ a) (d ∷ b) x y p q same =
    let first : c ≡ d = cc in
    let rest : a ++ sign ∷ x ≡ b ++ sign ∷ y = cc in
    let more = before_sign sign a b x y p.1 q.1 rest in
    cc

behind_sign : (sign : ℕ) (a b x y : List ℕ) → IsFree sign a → IsFree sign b → a ++ sign ∷ x ≡ b ++ sign ∷ y → x ≡ y
behind_sign sign a b x y p q same =
    let front = before_sign sign a b x y p q same in
    let left : a ++ sign ∷ x ≡ a ++ sign ∷ y = same ∙ ap (λ (t : List ℕ). t ++ sign ∷ y) (sym front) in
    let rest : sign ∷ x ≡ sign ∷ y = append_cancel_left a (sign ∷ x) (sign ∷ y) left in
    cc

-- a sign that no name has
abbrev IsNoNameByte : ℕ → Type 0
IsNoNameByte sign = is_name_byte sign ≡ false

other_byte : (sign : ℕ) → IsNoNameByte sign → (b : ℕ) → is_name_byte b ≡ true → b ≢ sign
other_byte sign none b is same = let both : is_name_byte sign ≡ true = sym (ap is_name_byte same) ∙ is in cc

plain_free : (sign : ℕ) → IsNoNameByte sign → (text : List ℕ) → IsPlainField text → IsFree sign text
plain_free sign none text plain =
    recursion_from_All (λ b. b ≢ sign) text (All-weaker (λ b. is_name_byte b ≡ true) (λ b. b ≢ sign) (other_byte sign none) text plain)

-- ---- a sale of an office

-- it has its place as its number
numbered : (o : Office) (s : Sale) → IsOffice o → (there : Contains o.sales s) → (s.number ≡ there.0 + 1) × (slice_get o.sales there.0 ≡ Some s)
numbered o s is there =
    let found : slice_get o.sales there.0 ≡ Some s = slice_get-get_or o.sales there.0 s there.1 ∙ ap Some there.2 in
    (is.sale_numbers there.0 s found, found)

-- so it is known by that
same_number : (o : Office) (s t : Sale) → IsOffice o → Contains o.sales s → Contains o.sales t → decimal s.number ≡ decimal t.number → s ≡ t
same_number o s t is here there same =
    let mine = numbered o s is here in
    let yours = numbered o t is there in
    let count = is.sale_count in
    let number = decimal_injective s.number t.number (omega (arith, mine.0, here.1)) (omega (arith, yours.0, there.1)) same in
    let place : here.0 ≡ there.0 = omega (arith, mine.0, yours.0, number) in
    let found : Some s ≡ Some t = sym mine.1 ∙ (ap (λ (k : ℕ). slice_get o.sales k) place ∙ yours.1) in
    cc

-- ---- its receipt

-- eight texts, one behind another
eight : (a b c d e f g h : List ℕ) → ((((((a ++ b) ++ c) ++ d) ++ e) ++ f) ++ g) ++ h ≡ a ++ (b ++ (c ++ (d ++ (e ++ (f ++ (g ++ h))))))
eight a b c d e f g h = simp append_assoc

-- what a receipt has behind the line of the number
behind_number : Sale → List ℕ
behind_number s =
    line (codes "METER") s.meter ++ (line (codes "TIME") (time_text s.moment) ++ (line (codes "KWH") (kwh_text s.tenths)
    ++ (line (codes "PRICE") (decimal s.price) ++ (line (codes "TENDER") (decimal s.tender)
    ++ (line (codes "CHANGE") (decimal (change_of s)) ++ line (codes "TOKEN") (grouped s.digits))))))

begins : (s : Sale) → receipt_of s ≡ line (codes "SALE") (decimal s.number) ++ behind_number s
unfolding receipt_of behind_number
begins s = eight (line (codes "SALE") (decimal s.number)) (line (codes "METER") s.meter) (line (codes "TIME") (time_text s.moment))
    (line (codes "KWH") (kwh_text s.tenths)) (line (codes "PRICE") (decimal s.price)) (line (codes "TENDER") (decimal s.tender))
    (line (codes "CHANGE") (decimal (change_of s))) (line (codes "TOKEN") (grouped s.digits))

number_line : (value rest : List ℕ) → line (codes "SALE") value ++ rest ≡ codes "SALE " ++ (value ++ 10 ∷ rest)
unfolding line
number_line value rest = ap (λ (t : List ℕ). codes "SALE " ++ t) (append_assoc value (10 ∷ []) rest)

-- ---- its text in JSON

-- five values before a comma or a quote, behind their names
fifth : (base base' change change' meter meter' moment moment' number number' rest rest' : List ℕ)
    → IsFree 44 base → IsFree 44 base' → IsFree 44 change → IsFree 44 change' → IsFree 34 meter → IsFree 34 meter' → IsFree 44 moment
    → IsFree 44 moment' → IsFree 44 number → IsFree 44 number'
    → codes "{\"base\":" ++ (base ++ (codes ",\"change\":"
    ++ (change ++ (codes ",\"meter\":\"" ++ (meter ++ (codes "\",\"moment\":" ++ (moment ++ (codes ",\"number\":" ++ (number ++ 44 ∷ rest)))))))))
    ≡ codes "{\"base\":" ++ (base' ++ (codes ",\"change\":"
    ++ (change' ++ (codes ",\"meter\":\"" ++ (meter' ++ (codes "\",\"moment\":" ++ (moment' ++ (codes ",\"number\":" ++ (number' ++ 44 ∷ rest')))))))))
    → number ≡ number'
fifth base base' change change' meter meter' moment moment' number number' rest rest' b b' c c' m m' o o' n n' same =
    let at_base = append_cancel_left (codes "{\"base\":") _ _ same in
    let at_change = append_cancel_left (codes "\"change\":") _ _ (behind_sign 44 base base' _ _ b b' at_base) in
    let at_meter = append_cancel_left (codes "\"meter\":\"") _ _ (behind_sign 44 change change' _ _ c c' at_change) in
    let at_moment = append_cancel_left (codes ",\"moment\":") _ _ (behind_sign 34 meter meter' _ _ m m' at_meter) in
    let at_number = append_cancel_left (codes "\"number\":") _ _ (behind_sign 44 moment moment' _ _ o o' at_moment) in
    before_sign 44 number number' rest rest' n n' at_number

-- what stands behind the meter in the text of a sale, and behind the number
abbrev behind_digits : Sale → List ℕ
behind_digits s = members_text true (drop 5 sale_names) (drop 5 (sale_cells s))

abbrev behind_meter : Sale → List ℕ
behind_meter s = codes ",\"moment\":" ++ (decimal s.moment ++ (codes ",\"number\":" ++ (decimal s.number ++ behind_digits s)))

front_text : (s : Sale) → sale_text s ≡ codes "{\"base\":" ++ (decimal (year_of s.base) ++ (codes ",\"change\":" ++ (decimal (change_of s)
    ++ (codes ",\"meter\":\"" ++ (s.meter ++ (34 ∷ behind_meter s))))))
front_text s = ap (λ (t : List ℕ). codes "{\"base\":" ++ (decimal (year_of s.base) ++ (codes ",\"change\":" ++ (decimal (change_of s)
    ++ (codes ",\"meter\":\"" ++ t))))) (append_assoc s.meter (34 ∷ []) (behind_meter s))

module _ (plain : (o : Office) (s : Sale) → IsOffice o → Contains o.sales s → All IsPlainField (export_fields s)) (o : Office) (s t : Sale)
    (is : IsOffice o) (here : Contains o.sales s) (there : Contains o.sales t) where
  mine : AllByRecursion IsPlainField (export_fields s)
  mine = recursion_from_All IsPlainField (export_fields s) (plain o s is here)

  yours : AllByRecursion IsPlainField (export_fields t)
  yours = recursion_from_All IsPlainField (export_fields t) (plain o t is there)

  -- two sales of an office that have one receipt are one
  pub receipt_names : receipt_of s ≡ receipt_of t → s ≡ t
  receipt_names same =
      let first = begins s ∙ number_line (decimal s.number) (behind_number s) in
      let second = begins t ∙ number_line (decimal t.number) (behind_number t) in
      let lines = append_cancel_left (codes "SALE ") (decimal s.number ++ 10 ∷ behind_number s) (decimal t.number ++ 10 ∷ behind_number t)
      (sym first ∙ (same ∙ second)) in
      same_number o s t is here there (before_sign 10 (decimal s.number) (decimal t.number) (behind_number s) (behind_number t)
      (plain_free 10 refl (decimal s.number) mine.0) (plain_free 10 refl (decimal t.number) yours.0) lines)

  -- so are two that have one text in JSON
  pub json_names : sale_text s ≡ sale_text t → s ≡ t
  json_names same = same_number o s t is here there (fifth _ _ _ _ _ _ _ _ (decimal s.number) (decimal t.number) _ _
      (plain_free 44 refl _ mine.1.1.1.1.1.1.0) (plain_free 44 refl _ yours.1.1.1.1.1.1.0)
      (plain_free 44 refl _ mine.1.1.1.1.1.1.1.1.1.1.1.0) (plain_free 44 refl _ yours.1.1.1.1.1.1.1.1.1.1.1.0)
      (plain_free 34 refl _ mine.1.1.1.1.1.0) (plain_free 34 refl _ yours.1.1.1.1.1.0)
      (plain_free 44 refl _ mine.1.0) (plain_free 44 refl _ yours.1.0)
      (plain_free 44 refl _ mine.0) (plain_free 44 refl _ yours.0) (sym (front_text s) ∙ (same ∙ front_text t)))
