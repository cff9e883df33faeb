-- One text tells one thing, value for value.
use Rattle.std.proofs.Common.{◌≡◌, ◌≢◌, ◌∙◌, ℕ, ◌⊎◌, inl, inr, true, List, [], ◌∷◌, ◌++◌, codes, length, get_or, refl, ap, sym, subst, arith}
use Rattle.std.specs.Prelude.{decimal}
use Rattle.std.proofs.lemmas.Fmt.{decimal_injective}
use Rattle.std.proofs.lemmas.List.{append_cancel_left}
use Rattle.records.specs.Cell as cells
use Rattle.records.specs.Column.{AreColumns}
use Rattle.records.specs.Record.{members_text}
use Rattle.records.proofs.FrontLemmas.{one_cell}
use Rattle.records.proofs.MemberLemmas.{one_record}
use Rattle.desk_messages.specs.reply.Body.{plain_text, refusal_text}
use Rattle.desk_messages.specs.reply.Records.{fault_text, refusal_cells, refusal_names, row_cells, row_names}
use Rattle.office_rules.specs.Decision.Refusals.{IsOfNoRow, refusal_category, refusal_name, refusal_number}
use Rattle.office_rules.specs.Decision.RowCauses.{cause_text}
use Rattle.office_rules.specs.declared.decision.category.Category.{Category}
use Rattle.office_rules.specs.declared.decision.category.Category.TheVariants as categories
use Rattle.office_rules.specs.declared.decision.refusal.Refusal.{Refusal}
use Rattle.office_rules.specs.declared.decision.refusal.Refusal.TheVariants.{ImportRow}
use Rattle.office_rules.specs.declared.decision.row_cause.RowCause.{RowCause}
use Rattle.office_rules.specs.declared.decision.row_cause.RowCause.TheVariants as causes
use Rattle.office_rules.proofs.RefusalLemmas.{same_refusal}
use Rattle.desk_client.specs.Alike.{GrantAlike, TellAlike}
use Rattle.desk_client.specs.Refusal.{IsCause, IsRowCause}
use Rattle.desk_client.specs.Reply.{IsRefusing, IsReply}
use Rattle.desk_client.specs.Start.{category_start}
use Rattle.desk_client.specs.Told.{IsAnswer, IsGrantOf, IsTellable, IsTellableRefusal, granted_text, start_of, told_start, told_text}
use Rattle.desk_client.specs.declared.told.Granted.{Granted}
use Rattle.desk_client.specs.declared.told.Granted.TheVariants as granted
use Rattle.desk_client.specs.declared.told.Told.{Told}
use Rattle.desk_client.specs.declared.told.Told.TheVariants as told
use Rattle.asks.specs.declared.endpoint.Grants.{Grants}
use Rattle.asks.specs.declared.endpoint.Grants.TheVariants as wanted
use Rattle.desk_client.proofs.CellLemmas.{same_count}
use Rattle.desk_client.proofs.HeadLemmas.{one_head}
use Rattle.desk_client.proofs.RecordLemmas.{meter_held, meter_keep, quote_held, quote_keep, sale_held, sale_keep, totals_held, totals_keep}
use Rattle.desk_client.proofs.RecordLemmas.{same_meter, same_quote, same_sale, same_totals}
use Rattle.desk_client.proofs.RefusalLemmas.{plain_fits, row_fits, text_of_plain}

-- ---- what is granted

-- no two values have the same columns
pub record ColumnLaws : Type 0 where
  pub sale : AreColumns sale_keep sale_held
  pub meter : AreColumns meter_keep meter_held
  pub quote : AreColumns quote_keep quote_held
  pub totals : AreColumns totals_keep totals_held

-- which of its cases something granted is
abbrev case_of : Granted → ℕ
case_of granted.Done = 0
case_of (granted.Imported count) = 1
case_of (granted.Withdrawn count) = 2
case_of (granted.Shift number) = 3
case_of (granted.Sale sale) = 4
case_of (granted.Meter meter) = 5
case_of (granted.Quote quote) = 6
case_of (granted.Totals number totals) = 7
case_of (granted.Paper text) = 8
case_of (granted.Page text) = 9

-- and which it is where this is wanted
abbrev case_wanted : Grants → ℕ
case_wanted wanted.Done = 0
case_wanted wanted.Imported = 1
case_wanted wanted.Withdrawn = 2
case_wanted wanted.Shift = 3
case_wanted wanted.Sale = 4
case_wanted wanted.Meter = 5
case_wanted wanted.Quote = 6
case_wanted wanted.Totals = 7
case_wanted wanted.Paper = 8
case_wanted asked = 9

of_case : (asked : Grants) (g : Granted) → IsGrantOf asked g → case_of g ≡ case_wanted asked
of_case wanted.Done granted.Done is = refl
of_case wanted.Imported (granted.Imported n) is = refl
of_case wanted.Withdrawn (granted.Withdrawn n) is = refl
of_case wanted.Shift (granted.Shift n) is = refl
of_case wanted.Sale (granted.Sale s) is = refl
of_case wanted.Meter (granted.Meter m) is = refl
of_case wanted.Quote (granted.Quote q) is = refl
of_case wanted.Totals (granted.Totals n t) is = refl
of_case wanted.Paper (granted.Paper text) is = refl
of_case wanted.Tariffs (granted.Page text) is = refl
of_case wanted.Meters (granted.Page text) is = refl
of_case wanted.Shifts (granted.Page text) is = refl
of_case wanted.Sales (granted.Page text) is = refl
of_case asked g is = absurd is

same_in_case : ColumnLaws → (g h : Granted) → IsAnswer g → IsAnswer h → case_of g ≡ case_of h → granted_text g ≡ granted_text h → GrantAlike g h
same_in_case laws granted.Done granted.Done is are one e = tt
same_in_case laws (granted.Imported m) (granted.Imported n) is are one e =
    same_count (codes "added") m n (omega (arith, is)) (omega (arith, are)) e
same_in_case laws (granted.Withdrawn m) (granted.Withdrawn n) is are one e =
    same_count (codes "withdrawn") m n (omega (arith, is)) (omega (arith, are)) e
same_in_case laws (granted.Shift m) (granted.Shift n) is are one e =
    same_count (codes "shift") m n (omega (arith, is.most)) (omega (arith, are.most)) e
same_in_case laws (granted.Sale s) (granted.Sale t) is are one e = same_sale laws.sale s t is are e
same_in_case laws (granted.Meter m) (granted.Meter n) is are one e = same_meter laws.meter m n is are e
same_in_case laws (granted.Quote p) (granted.Quote q) is are one e = same_quote laws.quote p q is are e
same_in_case laws (granted.Totals m t) (granted.Totals n u) is are one e = same_totals laws.totals m n t u is are e
same_in_case laws (granted.Paper text) (granted.Paper paper) is are one e = e
same_in_case laws (granted.Page text) (granted.Page page) is are one e = e
same_in_case laws g h is are one e = absurd (omega (arith, one))

-- two things that are granted where one thing is wanted, and told by one text, are the same
same_granted : ColumnLaws → (asked : Grants) (g h : Granted) → IsAnswer g → IsAnswer h → IsGrantOf asked g → IsGrantOf asked h
    → granted_text g ≡ granted_text h → GrantAlike g h
same_granted laws asked g h is are one other e =
    same_in_case laws g h is are (of_case asked g one ∙ sym (of_case asked h other)) e

-- ---- what is refused

same_cause : (a b : RowCause) → IsCause a → IsCause b → cause_text a ≡ cause_text b → a ≡ b
same_cause causes.Header causes.Header is are e = refl
same_cause causes.Columns causes.Columns is are e = refl
same_cause (causes.Field m) (causes.Field n) is are e =
    ap causes.Field (decimal_injective m n (omega (arith, is)) (omega (arith, are)) (append_cancel_left (codes "Field ") (decimal m) (decimal n) e))
same_cause causes.TooManyRows causes.TooManyRows is are e = refl
same_cause causes.Differs causes.Differs is are e = refl
same_cause causes.NoTariff causes.NoTariff is are e = refl
same_cause causes.DayPast causes.DayPast is are e = refl
same_cause a b is are e =
    absurd (omega (arith, ap (λ (text : List ℕ). get_or text 0 0) e, ap (λ (text : List ℕ). get_or text 1 0) e))

same_row : (m n : ℕ) (a b : RowCause) → IsRowCause m a → IsRowCause n b → refusal_text (ImportRow m a) ≡ refusal_text (ImportRow n b)
    → ImportRow m a ≡ ImportRow n b
same_row m n a b is are e =
    let cells_of = λ (row : ℕ) (cause : RowCause). row_cells (codes "ImportRow") 14 row (cause_text cause) in
    let same : cells_of m a ≡ cells_of n b =
    (one_record row_names (cells_of m a) (cells_of n b) [] [] (row_fits m a is) (row_fits n b are) (ap (λ (t : List ℕ). t ++ []) e)).0 in
    let said : cause_text a ≡ cause_text b = cc in
    let row : m ≡ n = cc in
    let cause : a ≡ b = same_cause a b is.1 are.1 said in
    λ i. ImportRow (row i) (cause i)

same_plain : (r s : Refusal) → IsOfNoRow r → IsOfNoRow s → plain_text r ≡ plain_text s → r ≡ s
same_plain r s plain other e =
    let same : refusal_cells (refusal_name r) (refusal_number r) ≡ refusal_cells (refusal_name s) (refusal_number s) =
    (one_record refusal_names (refusal_cells (refusal_name r) (refusal_number r)) (refusal_cells (refusal_name s) (refusal_number s)) [] []
    (plain_fits r) (plain_fits s) (ap (λ (t : List ℕ). t ++ []) e)).0 in
    let numbers : refusal_number r ≡ refusal_number s = cc in
    same_refusal r s plain other numbers

-- the refusal of a row begins otherwise than that of none
not_row : (r : Refusal) (row : ℕ) (cause : RowCause) → plain_text r ≢ refusal_text (ImportRow row cause)
not_row r row cause e = omega (arith, ap (λ (text : List ℕ). get_or text 2 0) e)

-- a refusal is that of no row, or that of one
abbrev IsOfRow : Refusal → Type 0
IsOfRow r = (row : ℕ) × (cause : RowCause) × (r ≡ ImportRow row cause)

kind_of : (r : Refusal) → IsOfNoRow r ⊎ IsOfRow r
kind_of (ImportRow row cause) = inr (row, cause, refl)
kind_of r = inl (λ row cause e. cc)

by_kinds : (r s : Refusal) → IsOfNoRow r ⊎ IsOfRow r → IsOfNoRow s ⊎ IsOfRow s → IsTellableRefusal r → IsTellableRefusal s → refusal_text r ≡ refusal_text s → r ≡ s
by_kinds r s (inl plain) (inl other) is are e =
    same_plain r s plain other (text_of_plain r plain ∙ e ∙ sym (text_of_plain s other))
by_kinds r s (inl plain) (inr row) is are e =
    absurd (not_row r row.0 row.1 (text_of_plain r plain ∙ e ∙ ap refusal_text row.2))
by_kinds r s (inr row) (inl plain) is are e =
    absurd (not_row s row.0 row.1 (text_of_plain s plain ∙ sym e ∙ ap refusal_text row.2))
by_kinds r s (inr row) (inr other) is are e =
    row.2
    ∙ same_row row.0 other.0 row.1 other.1 (subst IsTellableRefusal row.2 is) (subst IsTellableRefusal other.2 are)
    (sym (ap refusal_text row.2) ∙ e ∙ ap refusal_text other.2)
    ∙ sym other.2

-- one text tells one refusal
same_refused : (r s : Refusal) → IsTellableRefusal r → IsTellableRefusal s → refusal_text r ≡ refusal_text s → r ≡ s
same_refused r s is are e = by_kinds r s (kind_of r) (kind_of s) is are e

clock_is_no_kind : (r : Refusal) → IsOfNoRow r ⊎ IsOfRow r → refusal_text r ≢ fault_text (codes "Clock")
clock_is_no_kind r (inl plain) e =
    let behind : List ℕ = members_text true (codes "refusal" ∷ []) (cells.number (refusal_number r) ∷ []) in
    let ends = one_cell (cells.text (refusal_name r)) (cells.text (codes "Clock")) behind (codes "}") (plain_fits r).tellable.0
    (refl, (refl, (refl, (refl, (refl, tt))))) refl refl
    (append_cancel_left (codes "{\"error\":") _ _ (text_of_plain r plain ∙ e)) in
    omega (arith, ap (λ (text : List ℕ). get_or text 0 0) ends.1)
clock_is_no_kind r (inr row) e =
    omega (arith, ap (λ (text : List ℕ). get_or text 2 0) (sym (ap refusal_text row.2) ∙ e))

-- and none is told by the text that there is no moment
not_clock : (r : Refusal) → refusal_text r ≢ fault_text (codes "Clock")
not_clock r = clock_is_no_kind r (kind_of r)

-- ---- what is told

grant_refuses_not : (g : Granted) → ¬ IsRefusing (start_of g)
grant_refuses_not (granted.Paper text) h = h
grant_refuses_not g h = h

refusal_refuses : (c : Category) → IsRefusing (category_start c)
refusal_refuses (categories.UnfitRow row cause) = tt
refusal_refuses c = tt

alike_by_text : ColumnLaws → (asked : Grants) (t u : Told) → IsTellable asked t → IsTellable asked u
    → told_start t ≡ told_start u → told_text t ≡ told_text u → TellAlike t u
alike_by_text laws asked (told.Granted g) (told.Granted h) is are start text = same_granted laws asked g h is.0 are.0 is.1 are.1 text
alike_by_text laws asked (told.Granted g) (told.Refused r) is are start text =
    grant_refuses_not g (subst IsRefusing (sym start) (refusal_refuses (refusal_category r)))
alike_by_text laws asked (told.Granted g) told.NoMoment is are start text = grant_refuses_not g (subst IsRefusing (sym start) tt)
alike_by_text laws asked (told.Refused r) (told.Granted g) is are start text =
    grant_refuses_not g (subst IsRefusing start (refusal_refuses (refusal_category r)))
alike_by_text laws asked (told.Refused r) (told.Refused s) is are start text = same_refused r s is are text
alike_by_text laws asked (told.Refused r) told.NoMoment is are start text = not_clock r text
alike_by_text laws asked told.NoMoment (told.Granted g) is are start text = grant_refuses_not g (subst IsRefusing start tt)
alike_by_text laws asked told.NoMoment (told.Refused r) is are start text = not_clock r (sym text)
alike_by_text laws asked told.NoMoment told.NoMoment is are start text = tt

-- what one text tells is one thing
pub alike : ColumnLaws → (asked : Grants) (text : List ℕ) (t u : Told) → IsReply asked text t → IsReply asked text u
    → TellAlike t u
alike laws asked text t u h k =
    let same = one_head (told_start t) (told_start u) (length (told_text t)) (length (told_text u)) h.dated k.dated (told_text t) (told_text u)
    (omega (arith, h.short)) (omega (arith, k.short)) h.is_dated k.is_dated (sym h.is_text ∙ k.is_text) in
    alike_by_text laws asked t u h.tellable k.tellable same.0 same.2
