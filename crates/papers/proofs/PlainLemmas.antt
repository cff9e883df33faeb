-- Fields of letters, digits and hyphens, which a record of CSV has as they are.
use Rattle.std.proofs.Common.{◌≡◌, ◌∙◌, ◌+◌, ◌^◌, ◌<◌, ◌≤◌, ℕ, [], ◌∷◌, ◌++◌, Bool, true, false, List, Option, None, slice_get, Some, refl, ap, arith}
use Rattle.std.specs.Prelude.{All, Contains, ◌%◌, IsSome, if◌then◌else◌}
use Rattle.std.specs.Char.{is_ascii_alphanumeric, is_ascii_digit}
use Rattle.std.specs.Fmt.{decimal}
use Rattle.std.specs.List.{AllByRecursion, AllPass, list_any}
use Rattle.std.proofs.lemmas.Bool.Decides.{nat_tests}
use Rattle.std.proofs.lemmas.Fmt.{decimal_by_steps}
use Rattle.std.proofs.lemmas.List.Elements.{All-append, All-cons, All-contains, All-from_recursion, All-nil, All-weaker}
use Rattle.std.proofs.lemmas.List.Folds.{list_any_none}
use Rattle.std.proofs.lemmas.Option.{slice_get-get_or}
use Rattle.csv.specs.Writing.{default_writer, field_text, fields_text, is_blank, needs_byte, quoted}
use Rattle.papers.specs.Export.{IsPlainField, behind_commas, export_fields, plain_record, record_text, sale_record}
use Rattle.papers.specs.Text.{change_of}
use Rattle.sts_fields.specs.Amount.{IsRepresentable, greatest_amount}
use Rattle.sts_fields.specs.Base.{year_of}
use Rattle.sts_fields.specs.declared.base.Base.{Base}
use Rattle.sts_fields.specs.declared.base.Base.TheVariants.{Y1993, Y2014, Y2035}
use Rattle.office_rules.specs.Name.{is_name_byte}
use Rattle.office_rules.specs.Office.{IsOffice, IsSaleRow, Office}
use Rattle.office_rules.specs.declared.office.meter.Meter.{Meter}
use Rattle.office_rules.specs.declared.office.sale.Sale.{Sale}

-- such a byte calls for no quotes
plain_byte : (b : ℕ) → is_name_byte b ≡ true → needs_byte default_writer b ≡ false
plain_byte b e = grind (arith, nat_tests)

plain_bytes : (text : List ℕ) → IsPlainField text → list_any (needs_byte default_writer) text ≡ false
plain_bytes text plain =
    list_any_none (needs_byte default_writer) text (All-weaker (λ b. is_name_byte b ≡ true) (λ b. needs_byte default_writer b ≡ false) plain_byte text plain)

plain_field : (field : List ℕ) → IsPlainField field → field_text default_writer field ≡ field
plain_field field plain = ap (λ (b : Bool). if b then quoted default_writer field else field) (plain_bytes field plain)

plain_fields : (fields : List (List ℕ)) → AllByRecursion IsPlainField fields → fields_text default_writer fields ≡ behind_commas fields
unfolding fields_text behind_commas
plain_fields [] plain = refl
plain_fields (field ∷ rest) plain =
    ap (λ (text : List ℕ). 44 ∷ (text ++ fields_text default_writer rest)) (plain_field field plain.0)
    ∙ ap (λ (text : List ℕ). 44 ∷ (field ++ text)) (plain_fields rest plain.1)

-- a record of two fields or more
pub plain-record : (first second : List ℕ) (rest : List (List ℕ)) → AllByRecursion IsPlainField (first ∷ second ∷ rest)
    → record_text (first ∷ second ∷ rest) ≡ plain_record (first ∷ second ∷ rest)
unfolding record_text is_blank
plain-record first second rest plain =
    ap (λ (text : List ℕ). (text ++ fields_text default_writer (second ∷ rest)) ++ 10 ∷ []) (plain_field first plain.0)
    ∙ ap (λ (text : List ℕ). (first ++ text) ++ 10 ∷ []) (plain_fields (second ∷ rest) plain.1)

-- digits and letters are plain, and so is a number
digit_name : (b : ℕ) → is_ascii_digit b ≡ true → is_name_byte b ≡ true
digit_name b e = grind (arith, nat_tests)

letter_name : (b : ℕ) → is_ascii_alphanumeric b ≡ true → is_name_byte b ≡ true
letter_name b e = grind (arith, nat_tests)

one_digit : (n : ℕ) → n < 10 → is_name_byte (48 + n) ≡ true
one_digit n h = grind (arith, nat_tests)

last_digit : (n : ℕ) → is_name_byte (48 + n % 10) ≡ true
last_digit n = one_digit (n % 10) (omega arith)

alone : (b : ℕ) → is_name_byte b ≡ true → IsPlainField (b ∷ [])
alone b e = All-cons (λ x. is_name_byte x ≡ true) b [] e (All-nil (λ x. is_name_byte x ≡ true))

plain_number : (n : ℕ) → n < 2 ^ 64 → IsPlainField (decimal n)
plain_number =
    decimal_by_steps (λ n text. IsPlainField text) (λ n h. alone (48 + n) (one_digit n h))
    (λ n text h so_far. All-append (λ x. is_name_byte x ≡ true) text ((48 + n % 10) ∷ []) so_far (alone (48 + n % 10) (last_digit n)))

plain_digits : (text : List ℕ) → AllPass is_ascii_digit text → IsPlainField text
plain_digits text digits = All-weaker (λ b. is_ascii_digit b ≡ true) (λ b. is_name_byte b ≡ true) digit_name text digits

plain_letters : (text : List ℕ) → AllPass is_ascii_alphanumeric text → IsPlainField text
plain_letters text letters = All-weaker (λ b. is_ascii_alphanumeric b ≡ true) (λ b. is_name_byte b ≡ true) letter_name text letters

small_year : (base : Base) → year_of base < 2 ^ 64
small_year Y1993 = omega arith
small_year Y2014 = omega arith
small_year Y2035 = omega arith

meter_of : (found : Option Meter) → IsSome found → (m : Meter) × (found ≡ Some m)
meter_of (Some m) some = (m, refl)
meter_of None some = cc

-- the number of an office's sale is at most the count of its sales
small_sale_number : (o : Office) (s : Sale) → IsOffice o → Contains o.sales s → s.number < 2 ^ 64
small_sale_number o s office has =
    let there : slice_get o.sales has.0 ≡ Some s = slice_get-get_or o.sales has.0 s has.1 ∙ ap Some has.2 in
    let number : s.number ≡ has.0 + 1 = office.sale_numbers has.0 s there in
    omega (arith, number, has.1, office.sale_count)

module _ (most : (t : ℕ) → IsRepresentable t → t ≤ greatest_amount) (o : Office) (s : Sale) (office : IsOffice o) (has : Contains o.sales s) where
  sale_plain : AllByRecursion IsPlainField (export_fields s)
  sale_plain =
      let row : IsSaleRow o s = All-contains (IsSaleRow o) o.sales s office.sales has in
      let there = meter_of (o.meters s.meter) row.meter in
      let meter = office.meters s.meter there.0 there.1 in
      let small : s.price < 2 ^ 64 = omega (arith, row.price, row.tender.1) in (
        plain_number s.number (small_sale_number o s office has),
        (
          plain_number s.moment (omega (arith, row.moment.1)),
          (
            plain_number s.shift (omega (arith, row.shift.1, office.shift_count)),
            (
              plain_letters s.operator row.operator.bytes,
              (
                row.order_ref.bytes,
                (
                  plain_digits s.meter meter.numbered.digits,
                  (
                    plain_number (year_of s.base) (small_year s.base),
                    (
                      plain_number s.tid (omega (arith, row.tid)),
                      (
                        plain_number s.tenths (omega (arith, most s.tenths row.tenths)),
                        (
                          plain_number s.price small,
                          (
                            plain_number s.tender (omega (arith, row.tender.1)),
                            (plain_number (change_of s) (omega (arith, row.tender.1)), (plain_digits s.digits row.digits.digits, tt)),
                          ),
                        ),
                      ),
                    ),
                  ),
                ),
              ),
            ),
          ),
        ),
      )

  -- each field of an exported sale is plain
  pub sale-fields : All IsPlainField (export_fields s)
  sale-fields = All-from_recursion IsPlainField (export_fields s) sale_plain

  -- so its record has the fields as they are, without quotes
  pub sale-unquoted : sale_record s ≡ plain_record (export_fields s)
  sale-unquoted = plain-record _ _ _ sale_plain
