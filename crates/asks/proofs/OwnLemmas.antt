-- The body of an ask, read as JSON, is the object of its cells.
use Rattle.std.proofs.Common.{◌≡◌, ◌∙◌, ℕ, ◌+◌, ◌^◌, ◌<◌, ◌≤◌, ◌&&◌, Bool, true, false, true≢false, List, [], ◌∷◌, ◌++◌, Option, Some, None, Ordering, Less, Equal, Greater, codes, decimal, length, map, refl, ap, sym, subst, arith}
use Rattle.std.specs.Prelude.{All, IfSome, IsUtf8}
use Rattle.std.specs.List.{AllByRecursion, list_all}
use Rattle.std.specs.Ordering.{nat_cmp, match_ordering}
use Rattle.std.specs.Cmp.Lexicographic.{slice_cmp}
use Rattle.std.specs.Str.Parse.{AllDigits}
use Rattle.std.proofs.lemmas.Bool.{and_parts}
use Rattle.std.proofs.lemmas.Bool.Decides.{nat_tests}
use Rattle.std.proofs.lemmas.Fmt.{decimal_is_IsNumeral}
use Rattle.std.proofs.lemmas.List.Elements.{All-head, All-tail, All-from_recursion}
use Rattle.std.proofs.lemmas.Str.{IsUtf8-from_ascii}
use Rattle.std.proofs.lemmas.Str.Ascii.{IsAscii-from_all}
use Rattle.std.proofs.lemmas.Str.Parse.{digit_from_value}
use Rattle.serde_json.specs.Data.{Data, Members, no_members, member, object}
use Rattle.serde_json.specs.Events.{members_len}
use Rattle.serde_json.specs.Find.{get, get_member}
use Rattle.serde_json.specs.Read.{read}
use Rattle.records.specs.Cell.{Held, number, text, nothing, IsPlain, IsTellable, cell_text, in_quotes, is_plain}
use Rattle.records.specs.Json.{HasMembers, IsObject, cell_data, members_data, record_data, rise, stand_behind, stands_behind}
use Rattle.records.specs.Record.{Fits, comma_if, members_text, record_text}
use Rattle.office_rules.specs.Name.{is_name_byte}
use Rattle.tariff.specs.Steps.{IsSteps}
use Rattle.tariff.specs.StepsText.{IsWritable, end_text, step_text, steps_text}
use Rattle.tariff.specs.declared.step.Step.{Step}
use Rattle.asks.specs.Body.{BodySays, FitsNames, FitsShape, SaysCells, body_cells, body_text, bulk_cells}
use Rattle.asks.specs.Endpoint.{Shape, unread, rows, object as record_of}
use Rattle.asks.specs.Value.{AreOf, DaysAreRead, Keeps, cell_of, text_of}
use Rattle.asks.specs.declared.ask.Bulk.{Bulk}
use Rattle.asks.specs.declared.ask.Bulk.TheVariants.{Nothing, Rows, Steps}
use Rattle.asks.specs.declared.value.Value.{Value}
use Rattle.asks.specs.declared.value.Value.TheVariants.{Base, Day, Key, Meter, Number, Operator, Ref, Start, Tariff, Tender}
use Rattle.asks.specs.declared.value.ValueKind.{ValueKind}
use Rattle.asks.proofs.BodyLemmas.{cells_named}
use Rattle.asks.proofs.ValueLemmas.{IsWord, small_year, value_word}

-- ---- members under rising names

nat_self : (n : ℕ) → nat_cmp n n ≡ Equal
nat_self n = grind (arith, nat_tests)

slice_self : (n : List ℕ) → slice_cmp nat_cmp n n ≡ Equal
slice_self [] = refl
slice_self (b ∷ n) = rw (nat_self b) (slice_self n)

by_order : (o : Ordering) (a b c : Option Data) → match_ordering o false false true ≡ true → match_ordering o a b c ≡ c
by_order Less a b c e = absurd (true≢false (sym e))
by_order Equal a b c e = absurd (true≢false (sym e))
by_order Greater a b c e = refl

-- members whose names stand behind that of a first are found behind it
skip : (l : List ℕ) (e : Data) (ms : Members) (names : List (List ℕ)) (cells : List Held) → stand_behind names l ≡ true → HasMembers (object ms) names cells
    → HasMembers (object (member l e ms)) names cells
skip l e ms [] cells up has = tt
skip l e ms (n ∷ names) [] up has = tt
skip l e ms (n ∷ names) (c ∷ cells) up has =
    let parts = and_parts (stands_behind n l) (stand_behind names l) up in
    (by_order (slice_cmp nat_cmp n l) (get_member n ms) (Some e) (get_member n ms) parts.0 ∙ has.0, skip l e ms names cells parts.1 has.1)

own_members : (names : List (List ℕ)) (cells : List Held) → rise names ≡ true → HasMembers (object (members_data names cells)) names cells
own_members [] cells up = tt
own_members (n ∷ names) [] up = tt
own_members (n ∷ names) (c ∷ cells) up =
    let parts = and_parts (stand_behind names n) (rise names) up in
    let rest = members_data names cells in (
      ap (λ (o : Ordering). match_ordering o (get_member n rest) (Some (cell_data c)) (get_member n rest)) (slice_self n),
      skip n (cell_data c) rest names cells parts.0 (own_members names cells parts.1),
    )

own_count : (names : List (List ℕ)) (cells : List Held) → length names ≡ length cells → members_len (members_data names cells) ≡ length names
own_count [] cells e = refl
own_count (n ∷ names) [] e = absurd (omega (arith, e))
own_count (n ∷ names) (c ∷ cells) e = omega (arith, own_count names cells (omega (arith, e)))

-- the object of a record has its members
own_object : (names : List (List ℕ)) (cells : List Held) → rise names ≡ true → length names ≡ length cells → IsObject (record_data names cells) names cells
own_object names cells up e = record { count = ap Some (own_count names cells e); each = own_members names cells up }

-- ---- text

small : (b : ℕ) → is_plain b ≡ true → b < 128
small b e = grind (arith, nat_tests)

-- a text of ASCII
abbrev AreSmall : List ℕ → Type 0
AreSmall bytes = AllByRecursion (λ b. b < 128) bytes

both : (a b : List ℕ) → AreSmall a → AreSmall b → AreSmall (a ++ b)
both [] b p q = q
both (x ∷ a) b p q = (p.0, both a b p.1 q)

of_plain : (bytes : List ℕ) → IsPlain bytes → AreSmall bytes
of_plain [] is = tt
of_plain (b ∷ bytes) is = (small b is.0, of_plain bytes is.1)

of_digits : (bytes : List ℕ) → AllDigits 10 bytes → AreSmall bytes
of_digits [] all = tt
of_digits (b ∷ bytes) all = let digit = digit_from_value b all.0 in (omega (arith, digit.1), of_digits bytes all.1)

cell_small : (cell : Held) → IsTellable cell → AreSmall (cell_text cell)
cell_small (number n) is = of_digits (decimal n) (decimal_is_IsNumeral n is).0.1
cell_small (text bytes) is = (omega arith, both bytes (34 ∷ []) (of_plain bytes is) (omega arith, tt))
cell_small nothing is = (omega arith, (omega arith, (omega arith, (omega arith, tt))))

comma_small : (later : Bool) → AreSmall (comma_if later)
comma_small true = (omega arith, tt)
comma_small false = tt

members_small : (later : Bool) (names : List (List ℕ)) (cells : List Held) → AllByRecursion IsPlain names → AllByRecursion IsTellable cells
    → AreSmall (members_text later names cells)
members_small later [] cells plain are = (omega arith, tt)
members_small later (n ∷ names) [] plain are = (omega arith, tt)
members_small later (n ∷ names) (c ∷ cells) plain are =
    both (comma_if later) (in_quotes n ++ (58 ∷ (cell_text c ++ members_text true names cells))) (comma_small later)
    (both (in_quotes n) (58 ∷ (cell_text c ++ members_text true names cells)) (omega arith, both n (34 ∷ []) (of_plain n plain.0) (omega arith, tt))
    (omega arith, both (cell_text c) (members_text true names cells) (cell_small c are.0) (members_small true names cells plain.1 are.1)))

-- the text of a record is one
record_small : (names : List (List ℕ)) (cells : List Held) → AllByRecursion IsPlain names → AllByRecursion IsTellable cells → IsUtf8 (record_text names cells)
record_small names cells plain are =
    let all : AreSmall (record_text names cells) = (omega arith, members_small false names cells plain are) in
    IsUtf8-from_ascii (record_text names cells) (IsAscii-from_all (record_text names cells) (All-from_recursion (λ b. b < 128) (record_text names cells) all))

-- ---- what can be told

plain_name : (b : ℕ) → is_name_byte b ≡ true → is_plain b ≡ true
plain_name b e = grind (arith, nat_tests)

plain_word : (bytes : List ℕ) → IsWord bytes → IsPlain bytes
plain_word [] is = tt
plain_word (b ∷ bytes) is = (plain_name b is.0, plain_word bytes is.1)

tellable : DaysAreRead → (v : Value) → Keeps v → IsTellable (cell_of v)
tellable days (Base b) is = omega (arith, small_year b)
tellable days (Day d) is = plain_word _ (value_word days (Day d) is)
tellable days (Key k) is = plain_word _ (value_word days (Key k) is)
tellable days (Meter m) is = plain_word _ (value_word days (Meter m) is)
tellable days (Number n) is = omega (arith, is.most)
tellable days (Operator o) is = plain_word _ (value_word days (Operator o) is)
tellable days (Ref r) is = plain_word _ (value_word days (Ref r) is)
tellable days (Start n) is = omega (arith, is.most)
tellable days (Tariff t) is = plain_word _ (value_word days (Tariff t) is)
tellable days (Tender t) is = omega (arith, is.1)

-- ---- the text of steps is plain

plain_both : (a b : List ℕ) → IsPlain a → IsPlain b → IsPlain (a ++ b)
plain_both [] b p q = q
plain_both (x ∷ a) b p q = (p.0, plain_both a b p.1 q)

plain_digit : (b : ℕ) → 48 ≤ b → b ≤ 57 → is_plain b ≡ true
plain_digit b low high = grind (arith, nat_tests)

plain_digits : (bytes : List ℕ) → AllDigits 10 bytes → IsPlain bytes
plain_digits [] all = tt
plain_digits (b ∷ bytes) all =
    let digit = digit_from_value b all.0 in
    (plain_digit b (omega (arith, digit.0)) (omega (arith, digit.1)), plain_digits bytes all.1)

plain_decimal : (n : ℕ) → n < 2 ^ 32 → IsPlain (decimal n)
plain_decimal n less = plain_digits (decimal n) (decimal_is_IsNumeral n (omega (arith, less))).0.1

plain_end : (end : Option ℕ) → IfSome end (λ e. e < 2 ^ 32) → IsPlain (end_text end)
plain_end None fits = tt
plain_end (Some e) fits = plain_decimal e fits

plain_step : (s : Step) → IsWritable s → IsPlain (step_text s)
plain_step s w = plain_both (end_text s.ends) (58 ∷ decimal s.price) (plain_end s.ends w.0) (refl, plain_decimal s.price w.1)

plain_steps : (steps : List Step) → All IsWritable steps → IsPlain (steps_text steps)
plain_steps [] w = tt
plain_steps (s ∷ []) w = plain_step s (All-head IsWritable s [] w)
plain_steps (s ∷ t ∷ steps) w =
    plain_both (step_text s) (59 ∷ steps_text (t ∷ steps)) (plain_step s (All-head IsWritable s (t ∷ steps) w))
    (refl, plain_steps (t ∷ steps) (All-tail IsWritable s (t ∷ steps) w))

writable : (steps : List Step) → IsSteps steps → All IsWritable steps
writable steps are = λ i d inside. (are.ends_fit i d inside, omega (arith, (are.prices i d inside).1))

-- ---- a body

bulk_tellable : (names : List (List ℕ)) (kinds : List ValueKind) (bulk : Bulk) → FitsNames names kinds bulk → AllByRecursion IsTellable (bulk_cells bulk)
bulk_tellable names kinds Nothing fits = tt
bulk_tellable names kinds (Rows csv) fits = absurd fits
bulk_tellable names kinds (Steps s) fits = (plain_steps s (writable s fits.1), tt)

cells_tellable : DaysAreRead → (kinds : List ValueKind) (values : List Value) (bulk : Bulk) → AreOf kinds values → AllByRecursion IsTellable (bulk_cells bulk)
    → AllByRecursion IsTellable (body_cells values bulk)
cells_tellable days [] [] bulk are told = told
cells_tellable days [] (v ∷ vs) bulk are told = absurd are
cells_tellable days (k ∷ ks) [] bulk are told = absurd are
cells_tellable days (k ∷ ks) (v ∷ vs) bulk are told = (tellable days v are.0.kept, cells_tellable days ks vs bulk are.1 told)

-- the names of a body are plain, and each stands behind those before it
abbrev pub well_named : Shape → Bool
well_named unread = true
well_named rows = true
well_named (record_of names kinds) = list_all (λ (n : List ℕ). list_all is_plain n) names && rise names

names_plain : (names : List (List ℕ)) → list_all (λ (n : List ℕ). list_all is_plain n) names ≡ true → AllByRecursion IsPlain names
names_plain [] e = tt
names_plain (n ∷ names) e =
    let parts = and_parts (list_all is_plain n) (list_all (λ (m : List ℕ). list_all is_plain m) names) e in
    (name_plain n parts.0, names_plain names parts.1)
  where
    name_plain : (n : List ℕ) → list_all is_plain n ≡ true → IsPlain n
    name_plain [] e = tt
    name_plain (b ∷ n) e = let parts = and_parts (is_plain b) (list_all is_plain n) e in (parts.0, name_plain n parts.1)

-- what the law of records says of JSON
abbrev pub AsJson : Type 0
AsJson = (names : List (List ℕ)) (cells : List Held) → AllByRecursion IsPlain names → rise names ≡ true → Fits names cells
    → read (record_text names cells) ≡ Some (record_data names cells)

-- a body says what it is the text of
pub body_says : DaysAreRead → AsJson → (shape : Shape) (values : List Value) (bulk : Bulk) → well_named shape ≡ true → FitsShape shape values bulk
    → BodySays shape values bulk (body_text shape values bulk)
body_says days json unread values bulk named fits = tt
body_says days json rows values bulk named fits = refl
body_says days json (record_of names kinds) values bulk named fits =
    let parts = and_parts (list_all (λ (n : List ℕ). list_all is_plain n) names) (rise names) named in
    let plain = names_plain names parts.0 in
    let cells = body_cells values bulk in
    let told = cells_tellable days kinds values bulk fits.0 (bulk_tellable names kinds bulk fits.1) in
    let count = cells_named names kinds values bulk fits.0 fits.1 in record {
      json = record_data names cells;
      is_json = record { text = record_small names cells plain told; reads = json names cells plain parts.1 (record { named = count; tellable = told }) };
      members = own_object names cells parts.1 count;
    }
