-- The rows of an office in plain lists, after a meter is set or rows are added: what is looked up,
-- and that each meter's tariff is there.
use Rattle.std.proofs.Common.{◌≡◌, ℕ, inl, inr, Bool, true, false, cond, List, [], ◌∷◌, ◌++◌, append_assoc, Option, Some, None, IsSome, map, refl, sym, ◌∙◌, ap, subst, bytes_eq, if◌then◌else◌, not, option_map, ◌&&◌, ◌==◌}
use Rattle.std.proofs.lemmas.List.{append-nil, map-append}
use Rattle.std.proofs.lemmas.Option.{same_Some, none-some}
use Rattle.std.proofs.lemmas.Bool.Decides.{Decides-eqb}
use Rattle.std.proofs.lemmas.Slice.Eq.{bytes_eq-Decides}
use Rattle.sts_fields.specs.declared.base.Base.{Base}
use Rattle.tariff.specs.declared.step.Step.{Step}
use Rattle.office_rules.specs.Decision.Edits.{RowsFit, set_meter, with_rows}
use Rattle.vend_core.specs.Lists.PlainRows.{HaveTariffs, base_row, bases_of, dated_steps_of, meters_of, office_of_rows, row_of, rows_without, steps_from, tariffs_of}
use Rattle.office_rules.specs.declared.office.meter.Meter.{Meter}
use Rattle.office_rules.specs.declared.office.row.Row.{Row}
use Rattle.office_rules.specs.declared.office.row.Row.TheVariants as kinds
use Rattle.office_rules.specs.declared.office.sale.Sale.{Sale}
use Rattle.office_rules.specs.declared.office.shift.Shift.{Shift}
use Rattle.office_rules.proofs.DecisionLemmas.EditLemmas.{put_cases, some_put}
use Rattle.office_rules.proofs.OfficeLemmas.RowLemmas.{parts_true}

-- a meter's row that is set, where it has this number
abbrev pub row_set : List ℕ → (Meter → Meter) → (List ℕ × Meter) → (List ℕ × Meter)
row_set number f row = if bytes_eq row.0 number then (row.0, f row.1) else row

-- two names that are equal as bytes are equal to the same names
bytes_eq-along : (a b c : List ℕ) → bytes_eq a b ≡ true → bytes_eq a c ≡ bytes_eq b c
bytes_eq-along a b c same = ap (λ (n : List ℕ). bytes_eq n c) ((bytes_eq-Decides a b).0 same)

-- the tests at one row: q is the row's name, and the row has the number that is set
at_row : (qr rn qn : Bool) (f : Meter → Meter) (m : Meter) (rest : Option Meter) → (qr ≡ true → qn ≡ rn)
    → cond qr (Some (if rn then f m else m)) (if qn then option_map f rest else rest)
    ≡ (if qn then option_map f (cond qr (Some m) rest) else cond qr (Some m) rest)
at_row false rn qn f m rest same = refl
at_row true true true f m rest same = refl
at_row true false false f m rest same = refl
at_row true true false f m rest same = cc (same refl)
at_row true false true f m rest same = cc (same refl)

-- a row keeps its name
name_kept : (b : Bool) (f : Meter → Meter) (row : List ℕ × Meter) → (if b then (row.0, f row.1) else row).0 ≡ row.0
name_kept true f row = refl
name_kept false f row = refl

meter_set : (b : Bool) (f : Meter → Meter) (row : List ℕ × Meter)
    → (if b then (row.0, f row.1) else row).1 ≡ (if b then f row.1 else row.1)
meter_set true f row = refl
meter_set false f row = refl

-- a look-up where the meter of a number was set
pub row_of-set : (number : List ℕ) (f : Meter → Meter) (q : List ℕ) (ms : List (List ℕ × Meter))
    → row_of (map (row_set number f) ms) q ≡ set_meter number f (row_of ms) q
row_of-set number f q [] = elim (bytes_eq q number) as (λ b. ◌≡◌ {A = Option Meter} None (if b then None else None)) [ true ↦ refl | false ↦ refl ]
row_of-set number f q (m ∷ ms) =
    let rest : row_of (map (row_set number f) ms) q ≡ (if bytes_eq q number then option_map f (row_of ms q) else row_of ms q) =
    row_of-set number f q ms in
    let kept = name_kept (bytes_eq m.0 number) f m in
    let given = meter_set (bytes_eq m.0 number) f m in
    ap (λ (k : List ℕ). cond (bytes_eq q k) (Some (row_set number f m).1) (row_of (map (row_set number f) ms) q)) kept
    ∙ ap (λ (k : Meter). cond (bytes_eq q m.0) (Some k) (row_of (map (row_set number f) ms) q)) given
    ∙ ap (λ (o : Option Meter). cond (bytes_eq q m.0) (Some (if bytes_eq m.0 number then f m.1 else m.1)) o) rest
    ∙ at_row (bytes_eq q m.0) (bytes_eq m.0 number) (bytes_eq q number) f m.1 (row_of ms q) (bytes_eq-along q m.0 number)

-- where the meter of the number is known, it is put; where there is none, nothing changes
set_at : (b : Bool) (f g : Meter → Meter) (m : Meter) (there : Option Meter) → (b ≡ true → there ≡ Some m) → f m ≡ g m
    → (if b then option_map f there else there) ≡ (if b then option_map g there else there)
set_at true f g m there is same =
    ap (option_map f) (is refl) ∙ ap (λ (k : Meter). let o : Option Meter = Some k in o) same ∙ sym (ap (option_map g) (is refl))
set_at false f g m there is same = refl

-- where the meter of the number is known, what it becomes is put in its place
pub set_known : (number : List ℕ) (f : Meter → Meter) (m : Meter) (q : List ℕ) (ms : List (List ℕ × Meter)) → row_of ms number ≡ Some m
    → set_meter number (λ _. f m) (row_of ms) q ≡ set_meter number f (row_of ms) q
set_known number f m q ms is =
    set_at (bytes_eq q number) (λ _. f m) f m (row_of ms q) (λ same. ap (row_of ms) ((bytes_eq-Decides q number).0 same) ∙ is) refl

unset_at : (b : Bool) (f : Meter → Meter) (there : Option Meter) → (b ≡ true → there ≡ None) → there ≡ (if b then option_map f there else there)
unset_at true f there is = is refl ∙ sym (ap (option_map f) (is refl))
unset_at false f there is = refl

-- where no meter has the number, setting it changes nothing
pub set_unknown : (number : List ℕ) (f : Meter → Meter) (q : List ℕ) (ms : List (List ℕ × Meter)) → row_of ms number ≡ None
    → row_of ms q ≡ set_meter number f (row_of ms) q
set_unknown number f q ms is = unset_at (bytes_eq q number) f (row_of ms q) (λ same. ap (row_of ms) ((bytes_eq-Decides q number).0 same) ∙ is)

-- a meter that is looked up then is the one that was set, or the one that was there
found_set : (b : Bool) (f : Meter → Meter) (found : Option Meter) (m : Meter)
    → (if b then option_map f found else found) ≡ Some m → (P : List ℕ → Type 0)
    → (b ≡ true → (k : Meter) → found ≡ Some k → P (f k).tariff) → ((k : Meter) → found ≡ Some k → P k.tariff) → P m.tariff
found_set true f None m is P given kept = absurd (none-some m is)
found_set true f (Some k) m is P given kept = subst (λ (n : Meter). P n.tariff) (same_Some (f k) m is) (given refl k refl)
found_set false f found m is P given kept = kept m is

-- each meter still has a tariff where the meter set is given one that is there
pub have_tariffs-set : (number : List ℕ) (f : Meter → Meter) (ts : List (List ℕ × List Step)) (ms : List (List ℕ × Meter))
    → ((k : Meter) → row_of ms number ≡ Some k → IsSome (row_of ts (f k).tariff)) → HaveTariffs ts ms → HaveTariffs ts (map (row_set number f) ms)
have_tariffs-set number f ts ms there have q m is =
    found_set (bytes_eq q number) f (row_of ms q) m (sym (row_of-set number f q ms) ∙ is) (λ n. IsSome (row_of ts n))
    (λ same k at. there k (sym (ap (row_of ms) ((bytes_eq-Decides q number).0 same)) ∙ at)) (λ k at. have q k at)

-- the tests at one row: q and d are asked for (x), the row has the name and day that are taken away
-- (y), and these are those that are asked for (z)
without_at : (x y z : Bool) (steps : List Step) (kept rest : Option (List Step)) → (y ≡ true → x ≡ z) → (z ≡ true → x ≡ y)
    → kept ≡ (if z then None else rest) → cond y kept (cond x (Some steps) kept) ≡ (if z then None else cond x (Some steps) rest)
without_at x true true steps kept rest taken asked is = is
without_at true true false steps kept rest taken asked is = cc (taken refl)
without_at false true false steps kept rest taken asked is = is
without_at true false true steps kept rest taken asked is = cc (asked refl)
without_at false false true steps kept rest taken asked is = is
without_at true false false steps kept rest taken asked is = refl
without_at false false false steps kept rest taken asked is = is

filtered_at : (b : Bool) (row : (List ℕ × ℕ) × List Step) (rest : List ((List ℕ × ℕ) × List Step)) (q : List ℕ) (d : ℕ)
    → steps_from (cond (not b) (row ∷ rest) rest) q d ≡ cond b (steps_from rest q d) (steps_from (row ∷ rest) q d)
filtered_at true row rest q d = refl
filtered_at false row rest q d = refl

same_key : (q name other : List ℕ) (d day at : ℕ) → (bytes_eq q name && (d == day)) ≡ true
    → (bytes_eq q other && (d == at)) ≡ (bytes_eq name other && (day == at))
same_key q name other d day at both =
    let parts = parts_true (bytes_eq q name) (d == day) both in
    ap (λ (n : List ℕ). bytes_eq n other && (d == at)) ((bytes_eq-Decides q name).0 parts.0)
    ∙ ap (λ (k : ℕ). bytes_eq name other && (k == at)) ((Decides-eqb d day).0 parts.1)

key_of_row : (q name other : List ℕ) (d day at : ℕ) → (bytes_eq name other && (day == at)) ≡ true
    → (bytes_eq q other && (d == at)) ≡ (bytes_eq q name && (d == day))
key_of_row q name other d day at both =
    let parts = parts_true (bytes_eq name other) (day == at) both in
    ap (λ (n : List ℕ). bytes_eq q n && (d == at)) (sym ((bytes_eq-Decides name other).0 parts.0))
    ∙ ap (λ (k : ℕ). bytes_eq q name && (d == k)) (sym ((Decides-eqb day at).0 parts.1))

-- a look-up of further steps where those of a name and a day were taken away
pub steps_from-without : (name : List ℕ) (day : ℕ) (q : List ℕ) (d : ℕ) (rows : List ((List ℕ × ℕ) × List Step))
    → steps_from (rows_without name day rows) q d ≡ (if bytes_eq q name && (d == day) then None else steps_from rows q d)
steps_from-without name day q d [] =
    elim (bytes_eq q name && (d == day)) as (λ b. ◌≡◌ {A = Option (List Step)} None (if b then None else None)) [ true ↦ refl | false ↦ refl ]
steps_from-without name day q d (row ∷ rest) =
    filtered_at (bytes_eq name row.0.0 && (day == row.0.1)) row (rows_without name day rest) q d
    ∙ without_at (bytes_eq q row.0.0 && (d == row.0.1)) (bytes_eq name row.0.0 && (day == row.0.1)) (bytes_eq q name && (d == day)) row.1
    (steps_from (rows_without name day rest) q d) (steps_from rest q d) (key_of_row q name row.0.0 d day row.0.1)
    (same_key q name row.0.0 d day row.0.1) (steps_from-without name day q d rest)

-- the last of some rows goes in front
pub tariffs_of-push : (rows : List Row) (row : Row) → tariffs_of (rows ++ row ∷ []) ≡ tariffs_of (row ∷ []) ++ tariffs_of rows
tariffs_of-push [] row = sym (append-nil (tariffs_of (row ∷ [])))
tariffs_of-push (kinds.Tariff n s ∷ rest) row =
    ap (λ (l : List (List ℕ × List Step)). l ++ (n, s) ∷ []) (tariffs_of-push rest row) ∙ append_assoc (tariffs_of (row ∷ [])) (tariffs_of rest) ((n, s) ∷ [])
tariffs_of-push (kinds.Steps n d s ∷ rest) row = tariffs_of-push rest row
tariffs_of-push (kinds.Meter n m ∷ rest) row = tariffs_of-push rest row

-- the same of further steps: those of the last row go in front
pub dated_steps_of-push : (rows : List Row) (row : Row) → dated_steps_of (rows ++ row ∷ []) ≡ dated_steps_of (row ∷ []) ++ dated_steps_of rows
dated_steps_of-push [] row = sym (append-nil (dated_steps_of (row ∷ [])))
dated_steps_of-push (kinds.Tariff n s ∷ rest) row = dated_steps_of-push rest row
dated_steps_of-push (kinds.Steps n d s ∷ rest) row =
    ap (λ (l : List ((List ℕ × ℕ) × List Step)). l ++ ((n, d), s) ∷ []) (dated_steps_of-push rest row)
    ∙ append_assoc (dated_steps_of (row ∷ [])) (dated_steps_of rest) (((n, d), s) ∷ [])
dated_steps_of-push (kinds.Meter n m ∷ rest) row = dated_steps_of-push rest row

-- the same of meters: the one of the last row goes in front
pub meters_of-push : (rows : List Row) (row : Row) → meters_of (rows ++ row ∷ []) ≡ meters_of (row ∷ []) ++ meters_of rows
meters_of-push [] row = sym (append-nil (meters_of (row ∷ [])))
meters_of-push (kinds.Tariff n s ∷ rest) row = meters_of-push rest row
meters_of-push (kinds.Steps n d s ∷ rest) row = meters_of-push rest row
meters_of-push (kinds.Meter n m ∷ rest) row =
    ap (λ (l : List (List ℕ × Meter)). l ++ (n, m) ∷ []) (meters_of-push rest row) ∙ append_assoc (meters_of (row ∷ [])) (meters_of rest) ((n, m) ∷ [])

-- what is in front already, and what the other rows give, where one row more is put in front
pub moved : {X : Type 0} (of : List Row → List X) → ((rows : List Row) (row : Row) → of (rows ++ row ∷ []) ≡ of (row ∷ []) ++ of rows)
    → (all before after : List Row) (front next : List X) (row : Row) → before ≡ after ++ row ∷ [] → next ≡ front ++ of (row ∷ [])
    → front ++ of before ≡ of all → next ++ of after ≡ of all
moved {X} of push all before after front next row popped pushed split =
    ap (λ (l : List X). l ++ of after) pushed ∙ append_assoc front (of (row ∷ [])) (of after)
    ∙ ap (λ (l : List X). front ++ l) (sym (push after row) ∙ ap of (sym popped)) ∙ split

-- the bases of meters in front of others
base_in_front : (rest : List Row) (n : List ℕ) (m : Meter) (bs : List (List ℕ × Base)) → bases_of (kinds.Meter n m ∷ rest) ++ bs
    ≡ bases_of rest ++ (n, m.base) ∷ bs
base_in_front rest n m bs =
    ap (λ (l : List (List ℕ × Base)). l ++ bs) (map-append base_row (meters_of rest) ((n, m) ∷ [])) ∙ append_assoc (bases_of rest) ((n, m.base) ∷ []) bs

-- rows in front of others stand for the office with them
pub office_with_rows : (rows : List Row) (ts : List (List ℕ × List Step)) (ms : List (List ℕ × Meter)) (bs : List (List ℕ × Base))
    (ds : List ((List ℕ × ℕ) × List Step)) (shifts : List Shift) (sales : List Sale)
    → office_of_rows (tariffs_of rows ++ ts) (meters_of rows ++ ms) (bases_of rows ++ bs) (dated_steps_of rows ++ ds) shifts sales
    ≡ with_rows rows (office_of_rows ts ms bs ds shifts sales)
office_with_rows [] ts ms bs ds shifts sales = refl
office_with_rows (kinds.Tariff n s ∷ rest) ts ms bs ds shifts sales =
    ap (λ (l : List (List ℕ × List Step)). office_of_rows l (meters_of rest ++ ms) (bases_of rest ++ bs) (dated_steps_of rest ++ ds) shifts
    sales) (append_assoc (tariffs_of rest) ((n, s) ∷ []) ts)
    ∙ office_with_rows rest ((n, s) ∷ ts) ms bs ds shifts sales
office_with_rows (kinds.Steps n d s ∷ rest) ts ms bs ds shifts sales =
    ap (λ (l : List ((List ℕ × ℕ) × List Step)). office_of_rows (tariffs_of rest ++ ts) (meters_of rest ++ ms) (bases_of rest ++ bs) l
    shifts sales) (append_assoc (dated_steps_of rest) (((n, d), s) ∷ []) ds)
    ∙ office_with_rows rest ts ms bs (((n, d), s) ∷ ds) shifts sales
office_with_rows (kinds.Meter n m ∷ rest) ts ms bs ds shifts sales =
    ap (λ (l : List (List ℕ × Meter)). office_of_rows (tariffs_of rest ++ ts) l (bases_of (kinds.Meter n m ∷ rest) ++ bs)
    (dated_steps_of rest ++ ds) shifts sales) (append_assoc (meters_of rest) ((n, m) ∷ []) ms)
    ∙ ap (λ (l : List (List ℕ × Base)). office_of_rows (tariffs_of rest ++ ts) (meters_of rest ++ (n, m) ∷ ms) l
    (dated_steps_of rest ++ ds) shifts sales) (base_in_front rest n m bs)
    ∙ office_with_rows rest ts ((n, m) ∷ ms) ((n, m.base) ∷ bs) ds shifts sales

have_one_more : (n : List ℕ) (s : List Step) (ts : List (List ℕ × List Step)) (ms : List (List ℕ × Meter)) → HaveTariffs ts ms → HaveTariffs ((n, s) ∷ ts) ms
have_one_more n s ts ms have number m is = some_put (bytes_eq m.tariff n) s (row_of ts m.tariff) (have number m is)

have_for_one_more : (n : List ℕ) (k : Meter) (ts : List (List ℕ × List Step)) (ms : List (List ℕ × Meter)) → IsSome (row_of ts k.tariff)
    → HaveTariffs ts ms → HaveTariffs ts ((n, k) ∷ ms)
have_for_one_more n k ts ms there have number m is =
    elim (put_cases (bytes_eq number n) number n k m (row_of ms number) refl is) [
      | inl here ↦ subst (λ (j : Meter). IsSome (row_of ts j.tariff)) here.1 there
      | inr before ↦ have number m before
    ]

-- rows that fit leave each meter with a tariff
pub have_tariffs-rows : (rows : List Row) (ts : List (List ℕ × List Step)) (ms : List (List ℕ × Meter)) (bs : List (List ℕ × Base))
    (ds : List ((List ℕ × ℕ) × List Step)) (shifts : List Shift) (sales : List Sale)
    → RowsFit rows (office_of_rows ts ms bs ds shifts sales) → HaveTariffs ts ms → HaveTariffs (tariffs_of rows ++ ts) (meters_of rows ++ ms)
have_tariffs-rows [] ts ms bs ds shifts sales fit have = have
have_tariffs-rows (kinds.Tariff n s ∷ rest) ts ms bs ds shifts sales fit have =
    subst (λ (l : List (List ℕ × List Step)). HaveTariffs l (meters_of rest ++ ms)) (sym (append_assoc (tariffs_of rest) ((n, s) ∷ []) ts))
    (have_tariffs-rows rest ((n, s) ∷ ts) ms bs ds shifts sales fit (have_one_more n s ts ms have))
have_tariffs-rows (kinds.Steps n d s ∷ rest) ts ms bs ds shifts sales fit have =
    have_tariffs-rows rest ts ms bs (((n, d), s) ∷ ds) shifts sales fit have
have_tariffs-rows (kinds.Meter n m ∷ rest) ts ms bs ds shifts sales fit have =
    subst (λ (l : List (List ℕ × Meter)). HaveTariffs (tariffs_of rest ++ ts) l) (sym (append_assoc (meters_of rest) ((n, m) ∷ []) ms))
    (have_tariffs-rows rest ts ((n, m) ∷ ms) ((n, m.base) ∷ bs) ds shifts sales fit.1 (have_for_one_more n m ts ms fit.0 have))
