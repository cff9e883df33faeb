-- The text of a sale in JSON, piece by piece.
use Rattle.std.proofs.Common.{◌≡◌, ◌∙◌, ℕ, List, [], ◌∷◌, ◌++◌, codes, refl, ap, append_assoc}
use Rattle.std.specs.Fmt.{decimal}
use Rattle.records.specs.Cell as cell
use Rattle.records.specs.Record.{record_text}
use Rattle.papers.specs.Text.{change_of}
use Rattle.sts_fields.specs.Base.{year_of}
use Rattle.office_rules.specs.declared.office.sale.Sale.{Sale}
use Rattle.desk_messages.specs.reply.Records.{sale_names, sale_text}

-- a piece of a text, and what stands behind it
pub onto : (t u p rest whole : List ℕ) → u ≡ t ++ p → whole ≡ u ++ rest → whole ≡ t ++ (p ++ rest)
onto t u p rest whole e f = f ∙ ap (λ front. front ++ rest) e ∙ append_assoc t p rest

-- nothing stands in front
pub behind_nothing : (t rest whole : List ℕ) → t ≡ [] → whole ≡ t ++ rest → whole ≡ rest
behind_nothing t rest whole e f = f ∙ ap (λ front. front ++ rest) e

-- a text in quotes, before what follows
pub closed : (text rest : List ℕ) → (34 ∷ (text ++ 34 ∷ [])) ++ rest ≡ 34 ∷ (text ++ 34 ∷ rest)
closed text rest = ap (λ (all : List ℕ). 34 ∷ all) (append_assoc text (34 ∷ []) rest)

-- the members of a sale, between fixed words
abbrev pub sale_text_of : (base change moment number price shift tender tenths tid : ℕ)
    → (meter operator order_ref token : List ℕ) → List ℕ
sale_text_of
    base change moment number price shift tender tenths tid meter operator order_ref token =
    codes "{\"base\":" ++ (decimal base
    ++ (codes ",\"change\":" ++ (decimal change
    ++ (codes ",\"meter\":\"" ++ (meter
    ++ (codes "\",\"moment\":" ++ (decimal moment
    ++ (codes ",\"number\":" ++ (decimal number
    ++ (codes ",\"operator\":\"" ++ (operator
    ++ (codes "\",\"price\":" ++ (decimal price
    ++ (codes ",\"ref\":\"" ++ (order_ref
    ++ (codes "\",\"shift\":" ++ (decimal shift
    ++ (codes ",\"tender\":" ++ (decimal tender
    ++ (codes ",\"tenths\":" ++ (decimal tenths
    ++ (codes ",\"tid\":" ++ (decimal tid
    ++ (codes ",\"token\":\"" ++ (token
    ++ codes "\"}")))))))))))))))))))))))))

-- its record is that
pub sale_text-is : (base change moment own price shift tender tenths tid : ℕ) (meter operator order_ref token : List ℕ)
    → record_text sale_names (cell.number base ∷ cell.number change ∷ cell.text meter ∷ cell.number moment ∷ cell.number own ∷ cell.text operator
    ∷ cell.number price ∷ cell.text order_ref ∷ cell.number shift ∷ cell.number tender ∷ cell.number tenths ∷ cell.number tid ∷ cell.text token ∷ [])
    ≡ sale_text_of base change moment own price shift tender tenths tid meter operator order_ref token
sale_text-is base change moment own price shift tender tenths tid meter operator order_ref token =
    rw (closed meter, closed operator, closed order_ref, closed token) refl

-- the text of a sale by its pieces
pub sale_text-pieces : (s : Sale) (base change moment number price shift tender tenths tid : ℕ) (meter operator order_ref token : List ℕ)
    → base ≡ year_of s.base → change ≡ change_of s → meter ≡ s.meter → moment ≡ s.moment → number ≡ s.number
    → operator ≡ s.operator → price ≡ s.price → order_ref ≡ s.order_ref → shift ≡ s.shift
    → tender ≡ s.tender → tenths ≡ s.tenths → tid ≡ s.tid → token ≡ s.digits
    → sale_text s ≡ sale_text_of base change moment number price shift tender tenths tid meter operator order_ref token
sale_text-pieces s base change moment number price shift tender tenths tid meter operator order_ref token e1 e2 e3 e4 e5 e6 e7 e8 e9 e10 e11 e12 e13 =
    rw (e1, e2, e3, e4, e5, e6, e7, e8, e9, e10, e11, e12, e13)
    (sale_text-is (year_of s.base) (change_of s) s.moment s.number s.price s.shift s.tender s.tenths s.tid s.meter s.operator s.order_ref s.digits)

-- the text that the pieces make, each behind those before it
pub sale_text-made : (base change moment number price shift tender tenths tid : ℕ) (meter operator order_ref token : List ℕ)
    (t0 t1 t2 t3 t4 t5 t6 t7 t8 t9 t10 t11 t12 t13 t14 t15 t16 t17 t18 t19 t20 t21 t22 t23 t24 t25 t26 t27 : List ℕ) → t0 ≡ []
    → t1 ≡ t0 ++ codes "{\"base\":"
    → t2 ≡ t1 ++ decimal base
    → t3 ≡ t2 ++ codes ",\"change\":"
    → t4 ≡ t3 ++ decimal change
    → t5 ≡ t4 ++ codes ",\"meter\":\""
    → t6 ≡ t5 ++ meter
    → t7 ≡ t6 ++ codes "\",\"moment\":"
    → t8 ≡ t7 ++ decimal moment
    → t9 ≡ t8 ++ codes ",\"number\":"
    → t10 ≡ t9 ++ decimal number
    → t11 ≡ t10 ++ codes ",\"operator\":\""
    → t12 ≡ t11 ++ operator
    → t13 ≡ t12 ++ codes "\",\"price\":"
    → t14 ≡ t13 ++ decimal price
    → t15 ≡ t14 ++ codes ",\"ref\":\""
    → t16 ≡ t15 ++ order_ref
    → t17 ≡ t16 ++ codes "\",\"shift\":"
    → t18 ≡ t17 ++ decimal shift
    → t19 ≡ t18 ++ codes ",\"tender\":"
    → t20 ≡ t19 ++ decimal tender
    → t21 ≡ t20 ++ codes ",\"tenths\":"
    → t22 ≡ t21 ++ decimal tenths
    → t23 ≡ t22 ++ codes ",\"tid\":"
    → t24 ≡ t23 ++ decimal tid
    → t25 ≡ t24 ++ codes ",\"token\":\""
    → t26 ≡ t25 ++ token
    → t27 ≡ t26 ++ codes "\"}"
    → t27 ≡ sale_text_of base change moment number price shift tender tenths tid meter operator order_ref token
sale_text-made base change moment number price shift tender tenths tid meter operator order_ref token
    t0 t1 t2 t3 t4 t5 t6 t7 t8 t9 t10 t11 t12 t13 t14 t15 t16 t17 t18 t19 t20 t21 t22 t23 t24 t25 t26 t27
    e0 e1 e2 e3 e4 e5 e6 e7 e8 e9 e10 e11 e12 e13 e14 e15 e16 e17 e18 e19 e20 e21 e22 e23 e24 e25 e26 e27 =
    behind_nothing t0 _ t27 e0 (
    onto t0 t1 (codes "{\"base\":") _ t27 e1 (
    onto t1 t2 (decimal base) _ t27 e2 (
    onto t2 t3 (codes ",\"change\":") _ t27 e3 (
    onto t3 t4 (decimal change) _ t27 e4 (
    onto t4 t5 (codes ",\"meter\":\"") _ t27 e5 (
    onto t5 t6 (meter) _ t27 e6 (
    onto t6 t7 (codes "\",\"moment\":") _ t27 e7 (
    onto t7 t8 (decimal moment) _ t27 e8 (
    onto t8 t9 (codes ",\"number\":") _ t27 e9 (
    onto t9 t10 (decimal number) _ t27 e10 (
    onto t10 t11 (codes ",\"operator\":\"") _ t27 e11 (
    onto t11 t12 (operator) _ t27 e12 (
    onto t12 t13 (codes "\",\"price\":") _ t27 e13 (
    onto t13 t14 (decimal price) _ t27 e14 (
    onto t14 t15 (codes ",\"ref\":\"") _ t27 e15 (
    onto t15 t16 (order_ref) _ t27 e16 (
    onto t16 t17 (codes "\",\"shift\":") _ t27 e17 (
    onto t17 t18 (decimal shift) _ t27 e18 (
    onto t18 t19 (codes ",\"tender\":") _ t27 e19 (
    onto t19 t20 (decimal tender) _ t27 e20 (
    onto t20 t21 (codes ",\"tenths\":") _ t27 e21 (
    onto t21 t22 (decimal tenths) _ t27 e22 (
    onto t22 t23 (codes ",\"tid\":") _ t27 e23 (
    onto t23 t24 (decimal tid) _ t27 e24 (
    onto t24 t25 (codes ",\"token\":\"") _ t27 e25 (
    onto t25 t26 (token) _ t27 e26 (
    e27)))))))))))))))))))))))))))
