-- The texts of refusals.
use Rattle.std.proofs.Common.{◌≡◌, ◌∙◌, ℕ, ◌^◌, ◌<◌, ◌≤◌, true, List, [], ◌∷◌, ◌++◌, codes, length, Option, Some, None, refl, sym, arith}
use Rattle.std.specs.Prelude.{decimal}
use Rattle.std.specs.List.{list_all}
use Rattle.std.proofs.lemmas.Fmt.{length-decimal-le}
use Rattle.std.proofs.lemmas.List.{append_cancel_left, length-append}
use Rattle.std.proofs.lemmas.List.Elements.{recursion_from_All}
use Rattle.std.proofs.lemmas.List.Sums.{AllPass-from_list_all}
use Rattle.records.specs.Cell.{Held, IsPlain, is_plain, number, text}
use Rattle.records.specs.Front.{IsFound}
use Rattle.records.specs.Record.{Fits}
use Rattle.desk_messages.specs.reply.Body.{plain_text, refusal_text}
use Rattle.desk_messages.specs.reply.Records.{refusal_cells, refusal_names, row_cells, row_names}
use Rattle.desk_messages.proofs.PlainLemmas.{plain-append, plain-decimal}
use Rattle.office_rules.specs.Decision.Refusals.{IsOfNoRow, refusal_name, refusal_number}
use Rattle.office_rules.specs.Decision.RowCauses.{cause_text}
use Rattle.office_rules.specs.declared.decision.refusal.Refusal.{Refusal}
use Rattle.office_rules.specs.declared.decision.refusal.Refusal.TheVariants.{ImportRow}
use Rattle.office_rules.specs.declared.decision.row_cause.RowCause.{RowCause}
use Rattle.office_rules.specs.declared.decision.row_cause.RowCause.TheVariants as causes
use Rattle.desk_client.specs.Refusal.{IsCause, IsRowCause, IsWord}
use Rattle.desk_client.specs.Told.{IsTellableRefusal}
use Rattle.desk_client.specs.Columns.{RefusalColumns, RowRefusalColumns, refusal_columns, row_columns}
use Rattle.desk_client.proofs.NumberLemmas.{same_number}
use Rattle.desk_client.proofs.RecordLemmas.{AreRead}

-- ---- by their names and numbers, of whatever refusal

plain_by : (bytes : List ℕ) → list_all is_plain bytes ≡ true → IsPlain bytes
plain_by bytes e = recursion_from_All (λ byte. is_plain byte ≡ true) bytes (λ i d inside. AllPass-from_list_all is_plain bytes e i d inside)

named_plainly : (r : Refusal) → list_all is_plain (refusal_name r) ≡ true
named_plainly (ImportRow row cause) = refl
named_plainly r = refl

-- names are short, as those of a column
pub short_name : (r : Refusal) → length (refusal_name r) ≤ 32
short_name (ImportRow row cause) = omega arith
short_name r = omega arith

-- and numbers are small
pub few_refusals : (r : Refusal) → refusal_number r < 2 ^ 32
few_refusals (ImportRow row cause) = omega arith
few_refusals r = omega arith

-- a plain name
pub plain_name_of : (r : Refusal) → IsPlain (refusal_name r)
plain_name_of r = plain_by (refusal_name r) (named_plainly r)

-- so each can be told by them
pub plain_fits : (r : Refusal) → Fits refusal_names (refusal_cells (refusal_name r) (refusal_number r))
plain_fits r = record { named = refl; tellable = (plain_name_of r, (omega (arith, few_refusals r), tt)) }

-- the refusal of no row is told so
pub text_of_plain : (r : Refusal) → IsOfNoRow r → plain_text r ≡ refusal_text r
text_of_plain (ImportRow row cause) plain = absurd (plain row cause refl)
text_of_plain r plain = refl

tellable_plain : (r : Refusal) → IsOfNoRow r → IsTellableRefusal r
tellable_plain (ImportRow row cause) plain = absurd (plain row cause refl)
tellable_plain r plain = tt

-- ---- of rows

-- a cause is plain
pub plain_cause : (cause : RowCause) → IsCause cause → IsPlain (cause_text cause)
plain_cause (causes.Field n) is =
    plain-append (codes "Field ") (decimal n) (refl, (refl, (refl, (refl, (refl, (refl, tt)))))) (plain-decimal n (omega (arith, is)))
plain_cause cause is = plain_by (cause_text cause) refl

-- the refusal of a row by its rules can be told
pub row_fits : (row : ℕ) (cause : RowCause) → IsRowCause row cause → Fits row_names (row_cells (codes "ImportRow") 14 row (cause_text cause))
row_fits row cause is = record {
  named = refl;
  tellable = (plain_cause cause is.1, (plain_by (codes "ImportRow") refl, (omega arith, (omega (arith, is.0), tt))));
}

-- a field's number that has more than 8 bits is no cause's
pub no_field : (value digits : List ℕ) (own : ℕ) → value ≡ codes "Field " ++ digits → digits ≡ decimal own → own < 2 ^ 32 → 255 < own
    → (cause : RowCause) → ¬ (IsCause cause × (¬ IsWord cause) × (value ≡ cause_text cause))
no_field value digits own is written small long causes.Header h = h.1 tt
no_field value digits own is written small long causes.Columns h = h.1 tt
no_field value digits own is written small long causes.TooManyRows h = h.1 tt
no_field value digits own is written small long causes.Differs h = h.1 tt
no_field value digits own is written small long causes.NoTariff h = h.1 tt
no_field value digits own is written small long causes.DayPast h = h.1 tt
no_field value digits own is written small long (causes.Field n) h =
    let digits_are : digits ≡ decimal n = append_cancel_left (codes "Field ") digits (decimal n) (sym is ∙ h.2) in
    let same = same_number digits own n (omega (arith, small)) (omega (arith, h.0)) written digits_are in
    omega (arith, same, h.0, long)

-- ---- the columns of both

-- the rules of the columns of a refusal of no row,
abbrev pub refusal_keep : RefusalColumns → Type 0
refusal_keep v =
    (IsPlain v.0.items × (length v.0.items ≤ 32)) × ((v.1.0 < 2 ^ 32) × Unit {0})

-- and what its cells hold
abbrev pub refusal_held : RefusalColumns → List Held
refusal_held v = text v.0.items ∷ number v.1.0 ∷ []

-- a refusal of no row
pub refusal_read : AreRead refusal_keep refusal_held refusal_names IsOfNoRow IsOfNoRow (λ r. refusal_cells (refusal_name r) (refusal_number r)) refusal_columns
refusal_read = record {
  fits = λ r is. ((plain_name_of r, short_name r), (few_refusals r, tt));
  whole = λ r is. is;
  told = λ r kept is. is;
  same = λ r. refl;
  named = λ r. refl;
}

-- the same of that of a row: the rules of its columns,
abbrev pub row_refusal_keep : RowRefusalColumns → Type 0
row_refusal_keep v =
    (IsPlain v.0.items × (length v.0.items ≤ 32)) × ((IsPlain v.1.0.items × (length v.1.0.items ≤ 32)) × ((v.1.1.0 < 2 ^ 32) × ((v.1.1.1.0 < 2 ^ 32) ×
    Unit {0})))

-- and what its cells hold
abbrev pub row_refusal_held : RowRefusalColumns → List Held
row_refusal_held v = text v.0.items ∷ text v.1.0.items ∷ number v.1.1.0 ∷ number v.1.1.1.0 ∷ []

short_cause : (cause : RowCause) → IsCause cause → length (cause_text cause) ≤ 32
short_cause (causes.Field n) is =
    omega (arith, length-append (codes "Field ") (decimal n), length-decimal-le 3 n (omega arith) (omega (arith, is)) (omega (arith, is)))
short_cause cause is = omega arith

-- that of a row, by the row and the cause
pub row_read : AreRead row_refusal_keep row_refusal_held row_names (λ (found : ℕ × RowCause). IsRowCause found.0 found.1) (λ found. IsCause found.1)
    (λ found. row_cells (codes "ImportRow") 14 found.0 (cause_text found.1)) row_columns
row_read = record {
  fits = λ found is. ((plain_cause found.1 is.1, short_cause found.1 is.1), ((plain_by (codes "ImportRow") refl, omega arith), (omega arith, (is.0, tt))));
  whole = λ found is. is.1;
  told = λ found kept is. (kept.1.1.1.0, is);
  same = λ found. refl;
  named = λ found. refl;
}

-- ---- either

-- what tells the refusal of no row, nor that of one, tells none
neither_tells : (said : List ℕ) → ((found : ℕ × RowCause) → ¬ (IsRowCause found.0 found.1 × (said ≡ refusal_text (ImportRow found.0 found.1))))
    → ((refusal : Refusal) → ¬ (IsOfNoRow refusal × (said ≡ plain_text refusal)))
    → (refusal : Refusal) → ¬ (IsTellableRefusal refusal × (said ≡ refusal_text refusal))
neither_tells said rows plain (ImportRow row cause) h = rows (row, cause) h
neither_tells said rows plain refusal h = plain refusal ((λ row cause e. cc), h.1)

-- where a text tells no row, what was read of it as another refusal is all that it tells
pub read_of_either : (said : List ℕ) (r : Option Refusal) → ((found : ℕ × RowCause) → ¬ (IsRowCause found.0 found.1 × (said ≡ refusal_text (ImportRow found.0 found.1))))
    → IsFound (λ refusal. IsOfNoRow refusal × (said ≡ plain_text refusal)) r
    → IsFound (λ refusal. IsTellableRefusal refusal × (said ≡ refusal_text refusal)) r
read_of_either said (Some refusal) rows found =
    (tellable_plain refusal found.0, found.1 ∙ text_of_plain refusal found.0)
read_of_either said None rows none = neither_tells said rows none
