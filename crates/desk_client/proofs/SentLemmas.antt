-- What is sent for asks: a desk reads it whole.
use Rattle.std.proofs.Common.{◌≡◌, ℕ, ℤ, ◌+◌, ◌*◌, ◌^◌, ◌<◌, ◌≤◌, ◌&&◌, Bool, true, false, true≢false, List, [], ◌∷◌, ◌++◌, Option, Some, None, length, get_or, decimal, map, refl, ap, sym, subst, arith}
use Rattle.std.specs.Prelude.{All, IfSome, IsUtf8, nat_le, nat_lt}
use Rattle.std.specs.List.{AllByRecursion, AllPass, list_all}
use Rattle.std.specs.Str.{IsAscii}
use Rattle.std.proofs.lemmas.Bool.{and_parts}
use Rattle.std.proofs.lemmas.Bool.Decides.{nat_tests}
use Rattle.std.proofs.lemmas.Fmt.{length-decimal-le}
use Rattle.std.proofs.lemmas.List.{length-append}
use Rattle.std.proofs.lemmas.List.Elements.{All-head, All-tail}
use Rattle.std.proofs.lemmas.List.Sums.{AllPass-from_list_all}
use Rattle.std.proofs.lemmas.Str.{IsUtf8-from_ascii}
use Rattle.std.proofs.lemmas.Str.Ascii.{IsAscii-from_all}
use Rattle.httparse.specs.Grammar.{is_uri_byte}
use Rattle.conversation.specs.declared.message.method.Method.{Method}
use Rattle.conversation.specs.declared.message.method.Method.TheVariants.{Get, Head, Post, Delete}
use Rattle.conversation.specs.message.Framing.{longest_body}
use Rattle.conversation.specs.message.Messages.{BeginsMessage}
use Rattle.conversation.specs.message.Target.{path_of}
use Rattle.records.specs.Cell.{Held, cell_text, number, text, nothing}
use Rattle.records.specs.Record.{comma_if, members_text}
use Rattle.sts_fields.specs.Day.{iso_date}
use Rattle.sts_token.proofs.KeyLemmas.{written_key}
use Rattle.tariff.specs.Steps.{IsSteps}
use Rattle.tariff.specs.StepsText.{IsWritable, end_text, step_text, steps_text}
use Rattle.tariff.specs.declared.step.Step.{Step}
use Rattle.office_rules.specs.Name.{is_name_byte}
use Rattle.asks.specs.Ask.{IsAskable, message_of, row_method}
use Rattle.asks.specs.Body.{FitsNames, FitsShape, body_cells, body_text, bulk_cells}
use Rattle.asks.specs.Endpoint.{Place, Shape, unread, rows, object, endpoint_of}
use Rattle.asks.specs.Parts.{parts_of}
use Rattle.asks.specs.Target.{kind_at, places_text}
use Rattle.asks.specs.Target as targets
use Rattle.asks.specs.Value.{AreOf, DaysAreRead, Keeps, bare_text, cell_of, text_of}
use Rattle.asks.specs.declared.ask.Ask.{Ask}
use Rattle.asks.specs.declared.ask.Bulk.{Bulk}
use Rattle.asks.specs.declared.ask.Bulk.TheVariants.{Nothing, Rows, Steps}
use Rattle.asks.specs.declared.kind.AskKind.{AskKind}
use Rattle.asks.specs.declared.kind.AskKind.TheVariants as kinds
use Rattle.asks.specs.declared.value.Value.{Value}
use Rattle.asks.specs.declared.value.Value.TheVariants.{Base, Day, Key, Meter, Number, Operator, Ref, Start, Tariff, Tender}
use Rattle.asks.specs.declared.value.ValueKind.{ValueKind}
use Rattle.asks.proofs.ValueLemmas.{IsWord, small_year, value_word}
use Rattle.desk_messages.specs.Meaning.{MessageHasFault}
use Rattle.desk_messages.specs.declared.desk_fault.DeskFault.TheVariants.{Clock}
use Rattle.desk_client.specs.Message.{HasBodyOf}
use Rattle.desk_client.specs.Sent.{CanSend, FitsBody, IsNoMoment, ask_text}
use Rattle.desk_client.proofs.MessageLemmas.{is_message}

-- ---- visible bytes

-- a visible byte of ASCII
abbrev is_seen : ℕ → Bool
is_seen b = nat_lt 32 b && nat_lt b 127

both : (a b : Bool) → a ≡ true → b ≡ true → (a && b) ≡ true
both true b p q = q
both false b p q = absurd (true≢false (sym p))

seen_append : (a b : List ℕ) → list_all is_seen a ≡ true → list_all is_seen b ≡ true → list_all is_seen (a ++ b) ≡ true
seen_append [] b p q = q
seen_append (x ∷ a) b p q =
    let parts = and_parts (is_seen x) (list_all is_seen a) p in
    both (is_seen x) (list_all is_seen (a ++ b)) parts.0 (seen_append a b parts.1 q)

name_seen : (b : ℕ) → is_name_byte b ≡ true → is_seen b ≡ true
name_seen b e = grind (arith, nat_tests)

-- a word is visible
word_seen : (bytes : List ℕ) → IsWord bytes → list_all is_seen bytes ≡ true
word_seen [] is = refl
word_seen (b ∷ bytes) is = both (is_seen b) (list_all is_seen bytes) (name_seen b is.0) (word_seen bytes is.1)

small : (b : ℕ) → is_seen b ≡ true → b < 128
small b e = grind (arith, nat_tests)

-- what is visible is text in UTF-8
seen_text : (bytes : List ℕ) → list_all is_seen bytes ≡ true → IsUtf8 bytes
seen_text bytes seen =
    IsUtf8-from_ascii bytes (IsAscii-from_all bytes (λ i d inside. small _ (AllPass-from_list_all is_seen bytes seen i d inside)))

uri_byte : (b : ℕ) → is_seen b ≡ true → is_uri_byte b ≡ true
uri_byte b e = grind (arith, nat_tests)

-- and may stand in a target
seen_visible : (bytes : List ℕ) → list_all is_seen bytes ≡ true → AllPass is_uri_byte bytes
seen_visible bytes seen = λ i d inside. uri_byte (get_or bytes i d) (AllPass-from_list_all is_seen bytes seen i d inside)

-- ---- values are short

number_short : (n : ℕ) → n ≤ 1000000000 → length (decimal n) ≤ 32
number_short n h =
    let len = length-decimal-le 10 n (omega arith) (omega (arith, h)) (omega (arith, h)) in
    omega (arith, len)

date_short : (year month date : ℕ) → length (iso_date year month date) ≤ 32
unfolding iso_date
date_short year month date = omega arith

value_short : (v : Value) → Keeps v → length (text_of v) ≤ 32
value_short (Base b) is = number_short _ (small_year b)
value_short (Day d) is = date_short _ _ _
value_short (Key k) is = omega (arith, (written_key k is).digits.sixteen)
value_short (Meter m) is = omega (arith, is.eleven)
value_short (Number n) is = number_short n is.most
value_short (Operator o) is = omega (arith, is.short)
value_short (Ref r) is = is.short
value_short (Start n) is = number_short n is.most
value_short (Tariff t) is = is.short
value_short (Tender t) is = number_short t (omega (arith, is.1))

-- ---- targets

-- the words before each value are visible and short
abbrev well_fronted : List Place → Bool
well_fronted [] = true
well_fronted (p ∷ places) = list_all is_seen p.front && (nat_le (length p.front) 40 && well_fronted places)

-- so are those behind the values
abbrev well_ended : List ℕ → Bool
well_ended end = list_all is_seen end && nat_le (length end) 40

-- there are values or words
abbrev has_words : List Place → List ℕ → Bool
has_words [] [] = false
has_words [] (b ∷ end) = true
has_words (p ∷ places) end = true

fronted : (k : AskKind) → well_fronted (endpoint_of k).places ≡ true
fronted kinds.ImportMeters = refl
fronted k = refl

ended : (k : AskKind) → well_ended (endpoint_of k).end ≡ true
ended kinds.ImportMeters = refl
ended k = refl

worded : (k : AskKind) → has_words (endpoint_of k).places (endpoint_of k).end ≡ true
worded kinds.ImportMeters = refl
worded k = refl

few : (k : AskKind) → nat_le (length (endpoint_of k).places) 2 ≡ true
few kinds.ImportMeters = refl
few k = refl

end_seen : (end : List ℕ) → list_all is_seen end ≡ true → list_all is_seen (targets.end_text end) ≡ true
end_seen [] e = refl
end_seen (b ∷ end) e = e

end_short : (end : List ℕ) → length (targets.end_text end) ≤ length end + 1
end_short [] = omega arith
end_short (b ∷ end) = omega arith

-- a target is visible
places_seen : DaysAreRead → (places : List Place) (end : List ℕ) (values : List Value) → well_fronted places ≡ true → list_all is_seen end ≡ true
    → AreOf (map kind_at places) values → list_all is_seen (places_text places end values) ≡ true
places_seen days [] end values w e are = end_seen end e
places_seen days (p ∷ places) end [] w e are = absurd are
places_seen days (p ∷ places) end (v ∷ values) w e are =
    let front = and_parts (list_all is_seen p.front) (nat_le (length p.front) 40 && well_fronted places) w in
    let rest = and_parts (nat_le (length p.front) 40) (well_fronted places) front.1 in
    let behind = places_text places end values in
    seen_append p.front (text_of v ++ behind) front.0
    (seen_append (text_of v) behind (word_seen (text_of v) (value_word days v are.0.kept)) (places_seen days places end values rest.1 e are.1))

within : (n most : ℕ) → nat_le n most ≡ true → n ≤ most
within n most e = grind (arith, nat_tests)

-- and short
places_short : (places : List Place) (end : List ℕ) (values : List Value) → well_fronted places ≡ true → AreOf (map kind_at places) values
    → length (places_text places end values) ≤ 80 * length places + (length end + 1)
places_short [] end values w are = omega (arith, end_short end)
places_short (p ∷ places) end [] w are = absurd are
places_short (p ∷ places) end (v ∷ values) w are =
    let front = and_parts (list_all is_seen p.front) (nat_le (length p.front) 40 && well_fronted places) w in
    let rest = and_parts (nat_le (length p.front) 40) (well_fronted places) front.1 in
    let behind = places_text places end values in
    omega (
      arith,
      length-append p.front (text_of v ++ behind),
      length-append (text_of v) behind,
      within (length p.front) 40 rest.0,
      value_short v are.0.kept,
      places_short places end values rest.1 are.1,
    )

-- it begins with a slash
slashed : (places : List Place) (end : List ℕ) (values : List Value) → has_words places end ≡ true → AreOf (map kind_at places) values
    → (rest : List ℕ) × (places_text places end values ≡ 47 ∷ rest)
slashed [] [] values w are = absurd (true≢false (sym w))
slashed [] (b ∷ end) values w are = (b ∷ end, refl)
slashed (p ∷ places) end [] w are = absurd are
slashed (p ∷ places) end (v ∷ values) w are = (p.front ++ (text_of v ++ places_text places end values), refl)

-- ---- bodies

-- a cell of a body is short
abbrev IsShort : Held → Type 0
IsShort cell = length (cell_text cell) ≤ 400

quoted : (cell : Held) → length (bare_text cell) ≤ 200 → IsShort cell
quoted (number n) h = omega (arith, h)
quoted (text bytes) h = omega (arith, h, length-append bytes (34 ∷ []))
quoted nothing h = omega arith

end_few : (end : Option ℕ) → IfSome end (λ e. e < 2 ^ 32) → length (end_text end) ≤ 10
end_few None fits = omega arith
end_few (Some e) fits = length-decimal-le 10 e (omega arith) (omega (arith, fits)) (omega (arith, fits))

step_short : (s : Step) → IsWritable s → length (step_text s) ≤ 21
step_short s w =
    let price = length-decimal-le 10 s.price (omega arith) (omega (arith, w.1)) (omega (arith, w.1)) in
    omega (arith, length-append (end_text s.ends) (58 ∷ decimal s.price), end_few s.ends w.0, price)

steps_short : (steps : List Step) → All IsWritable steps → length (steps_text steps) ≤ 22 * length steps
steps_short [] w = omega arith
steps_short (s ∷ []) w = omega (arith, step_short s (All-head IsWritable s [] w))
steps_short (s ∷ t ∷ steps) w =
    omega (
      arith,
      length-append (step_text s) (59 ∷ steps_text (t ∷ steps)),
      step_short s (All-head IsWritable s (t ∷ steps) w),
      steps_short (t ∷ steps) (All-tail IsWritable s (t ∷ steps) w),
    )

writable : (steps : List Step) → IsSteps steps → All IsWritable steps
writable steps are = λ i d inside. (are.ends_fit i d inside, omega (arith, (are.prices i d inside).1))

bulk_short : (names : List (List ℕ)) (kinds : List ValueKind) (bulk : Bulk) → FitsNames names kinds bulk → AllByRecursion IsShort (bulk_cells bulk)
bulk_short names kinds Nothing fits = tt
bulk_short names kinds (Rows csv) fits = absurd fits
bulk_short names kinds (Steps s) fits =
    (quoted (text (steps_text s)) (omega (arith, steps_short s (writable s fits.1), fits.1.count.1)), tt)

cells_short : (kinds : List ValueKind) (values : List Value) (bulk : Bulk) → AreOf kinds values → AllByRecursion IsShort (bulk_cells bulk)
    → AllByRecursion IsShort (body_cells values bulk)
cells_short [] [] bulk are told = told
cells_short [] (v ∷ vs) bulk are told = absurd are
cells_short (k ∷ ks) [] bulk are told = absurd are
cells_short (k ∷ ks) (v ∷ vs) bulk are told =
    (quoted (cell_of v) (omega (arith, value_short v are.0.kept)), cells_short ks vs bulk are.1 told)

-- names that are short, and few
abbrev short_names : List (List ℕ) → Bool
short_names [] = true
short_names (n ∷ names) = nat_le (length n) 40 && short_names names

abbrev well_named : Shape → Bool
well_named unread = true
well_named rows = true
well_named (object names kinds) = short_names names && nat_le (length names) 5

named : (k : AskKind) → well_named (endpoint_of k).shape ≡ true
named kinds.ImportMeters = refl
named k = refl

comma_short : (later : Bool) → length (comma_if later) ≤ 1
comma_short true = omega arith
comma_short false = omega arith

members_short : (later : Bool) (names : List (List ℕ)) (cells : List Held) → short_names names ≡ true → AllByRecursion IsShort cells
    → length (members_text later names cells) ≤ 500 * length names + 1
members_short later [] cells w are = omega arith
members_short later (n ∷ names) [] w are = omega arith
members_short later (n ∷ names) (c ∷ cells) w are =
    let parts = and_parts (nat_le (length n) 40) (short_names names) w in
    let rest = members_text true names cells in
    let member : List ℕ = (n ++ 34 ∷ []) ++ 58 ∷ (cell_text c ++ rest) in
    omega (
      arith,
      length-append (comma_if later) (34 ∷ member),
      length-append (n ++ 34 ∷ []) (58 ∷ (cell_text c ++ rest)),
      length-append n (34 ∷ []),
      length-append (cell_text c) rest,
      comma_short later,
      within (length n) 40 parts.0,
      are.0,
      members_short true names cells parts.1 are.1,
    )

body_short : (shape : Shape) (values : List Value) (bulk : Bulk) → well_named shape ≡ true → FitsShape shape values bulk → FitsBody bulk
    → length (body_text shape values bulk) ≤ longest_body
body_short unread values bulk w fits short = omega arith
body_short rows values Nothing w fits short = absurd fits.1
body_short rows values (Rows csv) w fits short = short
body_short rows values (Steps s) w fits short = absurd fits.1
body_short (object names kinds) values bulk w fits short =
    let parts = and_parts (short_names names) (nat_le (length names) 5) w in
    let cells = cells_short kinds values bulk fits.0 (bulk_short names kinds bulk fits.1) in
    omega (arith, members_short false names (body_cells values bulk) parts.0 cells, within (length names) 5 parts.1)

-- only what is asked by POST has a body
abbrev suits : Method → Shape → Bool
suits Get unread = true
suits Get rows = false
suits Get (object names kinds) = false
suits Head shape = false
suits Post shape = true
suits Delete unread = true
suits Delete rows = false
suits Delete (object names kinds) = false

suited : (k : AskKind) → suits (endpoint_of k).method (endpoint_of k).shape ≡ true
suited kinds.ImportMeters = refl
suited k = refl

has_body : (method : Method) (shape : Shape) (values : List Value) (bulk : Bulk) → suits method shape ≡ true → well_named shape ≡ true
    → FitsShape shape values bulk → FitsBody bulk → HasBodyOf method (body_text shape values bulk)
has_body Get unread values bulk s w fits short = refl
has_body Get rows values bulk s w fits short = absurd (true≢false (sym s))
has_body Get (object names kinds) values bulk s w fits short = absurd (true≢false (sym s))
has_body Head shape values bulk s w fits short = absurd (true≢false (sym s))
has_body Post shape values bulk s w fits short = body_short shape values bulk w fits short
has_body Delete unread values bulk s w fits short = refl
has_body Delete rows values bulk s w fits short = absurd (true≢false (sym s))
has_body Delete (object names kinds) values bulk s w fits short = absurd (true≢false (sym s))

-- ---- messages

-- a desk reads the message whole
pub is_sent : DaysAreRead → (ask : Ask) (rest : List ℕ) → CanSend ask → BeginsMessage (ask_text ask ++ rest) (message_of ask) rest
is_sent days ask rest can =
    let p = parts_of ask in
    let row = endpoint_of p.kind in
    let bytes = places_text row.places row.end p.target in
    let ends = and_parts (list_all is_seen row.end) (nat_le (length row.end) 40) (ended p.kind) in
    let seen = places_seen days row.places row.end p.target (fronted p.kind) ends.0 can.askable.target in
    let slash = slashed row.places row.end p.target (worded p.kind) can.askable.target in
    is_message (message_of ask) rest (record {
      some = omega (arith, ap length slash.1);
      short = omega (
        arith,
        places_short row.places row.end p.target (fronted p.kind) can.askable.target,
        within (length row.places) 2 (few p.kind),
        within (length row.end) 40 ends.1,
      );
      visible = seen_visible bytes seen;
      text = seen_text bytes seen;
      path = subst (λ (target : List ℕ). path_of target ≡ target) (sym slash.1) refl;
      body = has_body row.method row.shape p.body p.bulk (suited p.kind) (named p.kind) can.askable.body can.fits;
      goes_on = refl;
      needs_none = refl;
    })

-- no row is asked by HEAD
asked_so : (k : AskKind) → (endpoint_of k).method ≡ row_method (endpoint_of k).method
asked_so kinds.ImportMeters = refl
asked_so k = refl

-- a clock outside the moments of an office
pub asks_none : (ask : Ask) (second : ℤ) → IsAskable ask → IsNoMoment second → MessageHasFault (message_of ask) (Some second) Clock
asks_none ask second is outside =
    let p = parts_of ask in (
      p.kind,
      p.target,
      record { names = record { are = is.target; written = refl }; asked = asked_so p.kind },
      record { second = second; given = refl; outside = outside },
    )
