-- Numbers at the right of columns, and the line of a sale, which has six.
use Rattle.std.proofs.Common.{◌≡◌, ◌≢◌, ◌∙◌, ℕ, zero, suc, ◌+◌, ◌-◌, ◌^◌, ◌<◌, ◌≤◌, List, [], ◌∷◌, ◌++◌, length, get_or, drop, take, refl, ap, sym, subst, append_assoc, arith, length-drop, length-take}
use Rattle.std.specs.Prelude.{All, decimal, replicate, slice_index}
use Rattle.std.specs.List.{AllByRecursion, join_with_byte}
use Rattle.std.proofs.lemmas.Fmt.{decimal_injective, decimal_is_IsNumeral, decimal_nonempty, length-decimal-le}
use Rattle.std.proofs.lemmas.List.{append_cancel_left, length-append, length-replicate, take-append-drop, take_all}
use Rattle.std.proofs.lemmas.List.Elements.{recursion_from_All}
use Rattle.std.proofs.lemmas.Str.Parse.{digit_at}
use Rattle.office_rules.specs.declared.office.sale.Sale.{Sale}
use Rattle.papers.specs.Report.{sale_line}
use Rattle.papers.specs.Text.{change_of, right}
use Rattle.sts_fields.specs.Amount.{IsRepresentable, greatest_amount}
use Rattle.desk_client.specs.Report.{AreOfSale, FitColumns, HasLine, IsInColumn, IsToldLine, columns_text}
use Rattle.desk_client.specs.declared.report_line.Columns.{Columns}

-- two texts that begin with as many bytes each, and are the same, have the same beginning and rest
pub same_start : (a b x y : List ℕ) → length a ≡ length b → a ++ x ≡ b ++ y → (a ≡ b) × (x ≡ y)
same_start [] [] x y len e = (refl, e)
same_start [] (d ∷ b) x y len e = absurd (omega (arith, len))
same_start (c ∷ a) [] x y len e = absurd (omega (arith, len))
same_start (c ∷ a) (d ∷ b) x y len e =
    let first : c ≡ d = cc in
    let rest : a ++ x ≡ b ++ y = cc in
    let same = same_start a b x y (omega (arith, len)) rest in
    (cc, same.1)

-- ---- spaces and digits

spaces : (text : List ℕ) → AllByRecursion (λ byte. byte ≡ 32) text → text ≡ replicate (length text) 32
spaces [] all = refl
spaces (b ∷ text) all =
    let rest = spaces text all.1 in
    let first = all.0 in
    cc

-- a text that begins with no space
abbrev NoSpace : List ℕ → Type 0
NoSpace [] = ⊥
NoSpace (b ∷ text) = b ≢ 32

digits_first : (text : List ℕ) → 0 < length text → (48 ≤ get_or text 0 0) → NoSpace text
digits_first [] some low = absurd (omega (arith, some))
digits_first (b ∷ text) some low = λ e. absurd (omega (arith, low, e))

-- a number begins with none
number_first : (n : ℕ) → n < 2 ^ 64 → NoSpace (decimal n)
number_first n small =
    let some = decimal_nonempty n small in
    digits_first (decimal n) some (digit_at (decimal n) 0 (decimal_is_IsNumeral n small).0.1 some).0

-- what stands behind the spaces of a text that has so many and then no space
behind_spaces : (j k : ℕ) (text : List ℕ) → NoSpace text → AllByRecursion (λ byte. byte ≡ 32) (take k (replicate j 32 ++ text))
    → (k < length (replicate j 32 ++ text) → get_or (replicate j 32 ++ text) k 0 ≢ 32) → drop k (replicate j 32 ++ text) ≡ text
behind_spaces zero zero text first all found = refl
behind_spaces zero (suc k) [] first all found = absurd first
behind_spaces zero (suc k) (b ∷ text) first all found = absurd (first all.0)
behind_spaces (suc j) zero text first all found = absurd (found (omega arith) refl)
behind_spaces (suc j) (suc k) text first all found = behind_spaces j k text first all.1 (λ inside. found (omega (arith, inside)))

-- a number behind spaces fills its column
pub fills : (value : List ℕ) (places k n : ℕ) → length value ≡ places → k ≤ length value → All (λ byte. byte ≡ 32) (take k value)
    → drop k value ≡ decimal n → (length (decimal n) ≤ places) × (value ≡ right places (decimal n))
unfolding right
fills value places k n len within before is =
    let front = spaces (take k value) (recursion_from_All (λ byte. byte ≡ 32) (take k value) before) in
    let few : length (decimal n) ≡ places - k = sym (ap length is) ∙ length-drop k value ∙ ap (λ (m : ℕ). m - k) len in
    let count : length (take k value) ≡ places - length (decimal n) = omega (arith, length-take k value, few, within, len) in (
      omega (arith, few),
      sym (take-append-drop k value) ∙ ap (λ (t : List ℕ). t ++ drop k value) (front ∙ ap (λ (m : ℕ). replicate m 32) count)
          ∙ ap (λ (t : List ℕ). replicate (places - length (decimal n)) 32 ++ t) is,
    )

-- a slice from a place on is all that stands there
pub all_behind : (k : ℕ) (value : List ℕ) → take (length value - k) (drop k value) ≡ drop k value
all_behind k value = take_all (length value - k) (drop k value) (omega (arith, length-drop k value))

-- what stands behind the spaces of a column is the number in it
pub in_column : (value : List ℕ) (places k n : ℕ) → n < 2 ^ 64 → value ≡ right places (decimal n) → All (λ byte. byte ≡ 32) (take k value)
    → (k < length value → slice_index value k ≢ 32) → drop k value ≡ decimal n
unfolding right
in_column value places k n small is before found =
    let j = places - length (decimal n) in
    let Spaces : List ℕ → Type 0 = AllByRecursion (λ byte. byte ≡ 32) in
    ap (drop k) is
    ∙ behind_spaces j k (decimal n) (number_first n small)
    (subst (λ (t : List ℕ). Spaces (take k t)) is (recursion_from_All (λ byte. byte ≡ 32) (take k value) before))
    (subst (λ (t : List ℕ). k < length t → get_or t k 0 ≢ 32) is found)

-- a column has all of its places
pub right-length : (places n : ℕ) → length (decimal n) ≤ places → length (right places (decimal n)) ≡ places
unfolding right
right-length places n few =
    omega (arith, length-append (replicate (places - length (decimal n)) 32) (decimal n), length-replicate {A = ℕ} (places - length (decimal n)) 32, few)

right_same : (places m n : ℕ) → IsInColumn places m → IsInColumn places n → right places (decimal m) ≡ right places (decimal n) → m ≡ n
unfolding right
right_same places m n a b e =
    let i = places - length (decimal m) in
    let j = places - length (decimal n) in
    decimal_injective m n a.0 b.0 (same_digits i j (decimal m) (decimal n) (number_first m a.0) (number_first n b.0) e)
  where
    same_digits : (i j : ℕ) (x y : List ℕ) → NoSpace x → NoSpace y → replicate i 32 ++ x ≡ replicate j 32 ++ y → x ≡ y
    same_digits zero zero x y fx fy e = e
    same_digits zero (suc j) [] y fx fy e = absurd fx
    same_digits zero (suc j) (b ∷ x) y fx fy e = absurd (fx cc)
    same_digits (suc i) zero x [] fx fy e = absurd fy
    same_digits (suc i) zero x (b ∷ y) fx fy e = absurd (fy cc)
    same_digits (suc i) (suc j) x y fx fy e = same_digits i j x y fx fy cc

-- a column is read in one way
pub one_number : (places m n end : ℕ) (r q : List ℕ) → IsInColumn places m → IsInColumn places n
    → right places (decimal m) ++ end ∷ r ≡ right places (decimal n) ++ end ∷ q → (m ≡ n) × (r ≡ q)
one_number places m n end r q a b e =
    let cut =
    same_start (right places (decimal m)) (right places (decimal n)) (end ∷ r) (end ∷ q)
    (right-length places m a.1 ∙ sym (right-length places n b.1)) e in
    let behind = cut.1 in
    (right_same places m n a b cut.0, cc)

-- ---- a line

-- the columns of a sale
abbrev pub columns_of : Sale → Columns
columns_of s =
    record {
      number = s.number;
      meter = record { ref_ptr = (0, 0); now = s.meter };
      tenths = s.tenths;
      price = s.price;
      tender = s.tender;
      change = change_of s;
    }

short : (places n : ℕ) → 0 < places → places ≤ 19 → n < 10 ^ places → n < 2 ^ 64 → IsInColumn places n
short places n some few small within = (within, length-decimal-le places n some small within)

-- they fit
pub sale_fits : ((t : ℕ) → IsRepresentable t → t ≤ greatest_amount) → (s : Sale) → IsToldLine s → FitColumns (columns_of s)
sale_fits greatest s told =
    record {
      number = short 10 s.number (omega arith) (omega arith) (omega (arith, told.number.most)) (omega (arith, told.number.most));
      meter = told.meter.eleven;
      tenths = short 8 s.tenths (omega arith) (omega arith) (omega (arith, greatest s.tenths told.tenths)) (omega (arith, greatest s.tenths told.tenths));
      price = short 9 s.price (omega arith) (omega arith) (omega (arith, told.price, told.tender)) (omega (arith, told.price, told.tender));
      tender = short 9 s.tender (omega arith) (omega arith) (omega (arith, told.tender)) (omega (arith, told.tender));
      change = short 9 (change_of s) (omega arith) (omega arith) (omega (arith, told.tender)) (omega (arith, told.tender));
    }

-- so do columns that are those of a sale
pub of_sale_fit : ((t : ℕ) → IsRepresentable t → t ≤ greatest_amount) → (c : Columns) (s : Sale) → IsToldLine s → AreOfSale c s → FitColumns c
of_sale_fit greatest c s told are =
    let fits = sale_fits greatest s told in
    record {
      number = subst (IsInColumn 10) (sym are.number) fits.number;
      meter = ap length are.meter ∙ fits.meter;
      tenths = subst (IsInColumn 8) (sym are.tenths) fits.tenths;
      price = subst (IsInColumn 9) (sym are.price) fits.price;
      tender = subst (IsInColumn 9) (sym are.tender) fits.tender;
      change = subst (IsInColumn 9) (sym are.change) fits.change;
    }

-- what follows a line is shorter than both
pub shorter : (s : Sale) (rest : List ℕ) → length rest < length (sale_line s ++ rest)
unfolding sale_line
shorter s rest =
    let joined =
    join_with_byte 32 (right 10 (decimal s.number) ∷ s.meter ∷ right 8 (decimal s.tenths) ∷ right 9 (decimal s.price) ∷ right 9 (decimal s.tender)
    ∷ right 9 (decimal (change_of s)) ∷ []) in
    omega (arith, length-append (joined ++ 10 ∷ []) rest, length-append joined (10 ∷ []))

-- the line of a sale has them
pub line-columns : (s : Sale) (rest : List ℕ) → sale_line s ++ rest ≡ columns_text (columns_of s) rest
unfolding sale_line
line-columns s rest = simp append_assoc

-- what was read of two lines that are the same
pub record AreSame (c d : Columns) : Type 0 where
  pub number : c.number ≡ d.number
  pub meter : c.meter.now ≡ d.meter.now
  pub tenths : c.tenths ≡ d.tenths
  pub price : c.price ≡ d.price
  pub tender : c.tender ≡ d.tender
  pub change : c.change ≡ d.change

-- a line is read in one way, and what follows it
pub one_line : (c d : Columns) (r q : List ℕ) → FitColumns c → FitColumns d → columns_text c r ≡ columns_text d q → AreSame c d × (r ≡ q)
one_line c d r q a b e =
    let number = one_number 10 c.number d.number 32 _ _ a.number b.number e in
    let meter = same_start c.meter.now d.meter.now _ _ (a.meter ∙ sym b.meter) number.1 in
    let tenths = one_number 8 c.tenths d.tenths 32 _ _ a.tenths b.tenths (tail meter.1) in
    let price = one_number 9 c.price d.price 32 _ _ a.price b.price tenths.1 in
    let tender = one_number 9 c.tender d.tender 32 _ _ a.tender b.tender price.1 in
    let change = one_number 9 c.change d.change 10 r q a.change b.change tender.1 in (
      record { number = number.0; meter = meter.0; tenths = tenths.0; price = price.0; tender = tender.0; change = change.0 },
      change.1,
    )
  where
    tail : {x y : ℕ} {xs ys : List ℕ} → x ∷ xs ≡ y ∷ ys → xs ≡ ys
    tail e = cc

-- a line that columns fill is that of the sale whose they are
pub line_of_sale : (c : Columns) (s : Sale) (rest : List ℕ) → AreOfSale c s → columns_text c rest ≡ sale_line s ++ rest
line_of_sale c s rest are =
    rw (are.number, are.meter, are.tenths, are.price, are.tender, are.change) refl ∙ sym (line-columns s rest)

-- those that were read in front of a sale's line are the sale's
pub read_of_sale : ((t : ℕ) → IsRepresentable t → t ≤ greatest_amount) → (c : Columns) (s : Sale) (r q : List ℕ) → FitColumns c → IsToldLine s
    → columns_text c r ≡ sale_line s ++ q → AreOfSale c s × (r ≡ q)
read_of_sale greatest c s r q fit told e =
    let one = one_line c (columns_of s) r q fit (sale_fits greatest s told) (e ∙ line-columns s q) in
    let same = one.0 in (
      record { number = same.number; meter = same.meter; tenths = same.tenths; price = same.price; tender = same.tender; change = same.change },
      one.1,
    )

-- a text that begins with a byte before the letters
abbrev Low : List ℕ → Type 0
Low [] = ⊥
Low (b ∷ text) = b < 58

-- a line begins with a space or a digit, so with no letter
pub no_letter : (s : Sale) (rest : List ℕ) (letter : ℕ) (more : List ℕ) → s.number < 2 ^ 64 → 58 ≤ letter → sale_line s ++ rest ≢ letter ∷ more
unfolding right
no_letter s rest letter more small high e = by_spaces (10 - length (decimal s.number)) (decimal s.number) _ (number_low s.number small) (sym (line-columns s rest) ∙ e)
  where
    low_first : (text : List ℕ) → 0 < length text → (get_or text 0 0 < 58) → Low text
    low_first [] some low = absurd (omega (arith, some))
    low_first (b ∷ text) some low = low

    number_low : (n : ℕ) → n < 2 ^ 64 → Low (decimal n)
    number_low n fits =
        let some = decimal_nonempty n fits in
        low_first (decimal n) some (omega (arith, (digit_at (decimal n) 0 (decimal_is_IsNumeral n fits).0.1 some).1))

    by_spaces : (k : ℕ) (digits text : List ℕ) → Low digits → (replicate k 32 ++ digits) ++ text ≢ letter ∷ more
    by_spaces zero [] text low e = low
    by_spaces zero (b ∷ digits) text low e =
        let same : b ≡ letter = cc in
        absurd (omega (arith, low, same, high))
    by_spaces (suc k) digits text low e =
        let same : 32 ≡ letter = cc in
        absurd (omega (arith, same, high))
