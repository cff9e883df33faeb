-- The export of sales as CSV.
use Rattle.std.specs.Prelude.{◌≡◌, ℕ, Bool, false, Some, List, [], ◌∷◌, ◌++◌, codes, decimal}
use Rattle.std.specs.Prelude.{if◌then◌else◌}
use Rattle.std.specs.List.{AllPass, flat_map}
use Rattle.std.specs.declared.vec.Vec.{Vec}
use Rattle.std.specs.declared.alloc.Global.{Global}
use Rattle.csv.specs.Writing.{default_writer, fields_written, has_written, row_text, text_written}
use Rattle.csv.specs.Writing.{writer_setup}
use Rattle.csv.specs.declared.writer.Writer.{Writer}
use Rattle.papers.specs.Text.{change_of}
use Rattle.sts_fields.specs.Base.{year_of}
use Rattle.office_rules.specs.Name.{is_name_byte}
use Rattle.office_rules.specs.declared.office.sale.Sale.{Sale}

-- the names of the fields
abbrev pub export_header : List (List ℕ)
export_header =
    codes "number" ∷ codes "moment" ∷ codes "shift" ∷ codes "operator" ∷ codes "ref"
    ∷ codes "meter" ∷ codes "base" ∷ codes "tid" ∷ codes "tenths" ∷ codes "price"
    ∷ codes "tender" ∷ codes "change" ∷ codes "token" ∷ []

-- the fields of a sale
abbrev pub export_fields : Sale → List (List ℕ)
export_fields s =
    decimal s.number ∷ decimal s.moment ∷ decimal s.shift ∷ s.operator ∷ s.order_ref
    ∷ s.meter ∷ decimal (year_of s.base) ∷ decimal s.tid ∷ decimal s.tenths ∷ decimal s.price
    ∷ decimal s.tender ∷ decimal (change_of s) ∷ s.digits ∷ []

-- a record of CSV, ended by a line feed
unfoldable pub record_text : List (List ℕ) → List ℕ
record_text fields = row_text default_writer fields

-- the record of the names, where a header is asked for
abbrev pub header_text : Bool → List ℕ
header_text header = if header then record_text export_header else []

-- the record of a sale
abbrev pub sale_record : Sale → List ℕ
sale_record s = record_text (export_fields s)

-- a field that needs no quotes: letters, digits and hyphens
abbrev pub IsPlainField : List ℕ → Type 0
IsPlainField = AllPass is_name_byte

-- fields as they are, each behind a comma
unfoldable pub behind_commas : List (List ℕ) → List ℕ
behind_commas [] = []
behind_commas (field ∷ rest) = 44 ∷ (field ++ behind_commas rest)

-- fields as they are, with commas between and a line feed behind
abbrev pub plain_record : List (List ℕ) → List ℕ
plain_record [] = 10 ∷ []
plain_record (field ∷ rest) = (field ++ behind_commas rest) ++ 10 ∷ []

-- the header, where it is asked for, and a record for each sale
unfoldable pub export_of : Bool → List Sale → List ℕ
export_of header sales = header_text header ++ flat_map sale_record sales

-- a writer of CSV stands between two records and holds this text, in memory
pub record HasRecords (writer : Writer (Vec ℕ Global)) (text : List ℕ) : Type 0 where
  pub setup : writer_setup writer ≡ default_writer
  pub fields : fields_written writer ≡ 0
  pub started : has_written writer ≡ false
  pub held : text_written (λ v. Some v.items) writer ≡ Some text
