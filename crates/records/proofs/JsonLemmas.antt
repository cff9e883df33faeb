-- The text of a record, read as JSON.
use Rattle.std.proofs.Common.{◌≡◌, ◌∙◌, ℕ, ◌≤◌, ◌&&◌, Bool, true, false, true≢false, List, [], ◌∷◌, ◌++◌, Option, Some, Ordering, Less, Equal, Greater, option_and_then, option_map, refl, ap, sym, arith, append-nil}
use Rattle.std.specs.List.{AllByRecursion, flat_map}
use Rattle.std.specs.Ordering.{nat_cmp, match_ordering}
use Rattle.std.specs.Cmp.Lexicographic.{slice_cmp}
use Rattle.std.proofs.lemmas.Bool.Decides.{nat_tests}
use Rattle.json.specs.Json.{Json, if_last, value}
use Rattle.json.specs.Lex.{tokens}
use Rattle.json.specs.Print.{escape_byte, quoted}
use Rattle.json.specs.Token.{Token}
use Rattle.json.specs.Tree.{HasNumbers, MembersHaveNumbers, depth, json_tokens, members_depth}
use Rattle.json.proofs.Printed.Decimals.{IsNumber-decimal}
use Rattle.json.proofs.Printed.Tokens.{tokens-print}
use Rattle.json.proofs.Printed.Trees.{ArePrintable-json_tokens, value-json_tokens}
use Rattle.serde_json.specs.Data as json
use Rattle.serde_json.specs.Read.{max_depth, of_json, of_members, read}
use Rattle.serde_json.specs.Written as written
use Rattle.serde_json.proofs.Numbers.{number_of-decimal}
use Rattle.serde_json.proofs.Texts.{print-outline}
use Rattle.records.specs.Cell.{Held, number, text, nothing, IsPlain, IsTellable, cell_text, in_quotes, is_plain}
use Rattle.records.specs.Json.{cell_data, members_data, record_data, rise, stand_behind, stands_behind}
use Rattle.records.specs.Record.{Fits, comma_if, members_text, record_text}

-- ---- what is written for a value is read as that value

-- the value that a text is, by what its tokens begin with
abbrev whole : Option (Json × List Token) → Option json.Data
whole found = option_and_then of_json (option_and_then (λ p. if_last p.0 p.1) found)

read_back : (d : json.Data) → HasNumbers (written.outline d) → depth (written.outline d) ≤ max_depth → of_json (written.outline d) ≡ Some d
    → read (written.compact_text d) ≡ Some d
read_back d numbers shallow same =
    let told : tokens (written.compact_text d) ≡ json_tokens (written.outline d) =
    ap tokens (sym (print-outline d)) ∙ tokens-print (json_tokens (written.outline d)) (ArePrintable-json_tokens (written.outline d) numbers) in
    ap (λ ts. whole (value max_depth ts)) (told ∙ sym (append-nil (json_tokens (written.outline d))))
    ∙ ap whole (value-json_tokens (written.outline d) max_depth [] shallow)
    ∙ same

-- ---- no byte of a plain text is escaped

plain_byte : (b : ℕ) → is_plain b ≡ true → escape_byte b ≡ b ∷ []
unfolding escape_byte
plain_byte b e = grind (arith, nat_tests)

unescaped : (bytes : List ℕ) → IsPlain bytes → flat_map escape_byte bytes ≡ bytes
unescaped [] plain = refl
unescaped (b ∷ bytes) plain = rw (plain_byte b plain.0, unescaped bytes plain.1) refl

-- so a plain text is quoted as it is
pub quoted-is : (bytes : List ℕ) → IsPlain bytes → quoted bytes ≡ in_quotes bytes
quoted-is bytes plain = ap in_quotes (unescaped bytes plain)

cell_text-is : (cell : Held) → IsTellable cell → written.compact_text (cell_data cell) ≡ cell_text cell
cell_text-is (number n) is = refl
cell_text-is (text bytes) is = quoted-is bytes is
cell_text-is nothing is = refl

-- what is written for the object of a record is the record
pub members_text-is : (later : Bool) (names : List (List ℕ)) (cells : List Held) → AllByRecursion IsPlain names → AllByRecursion IsTellable cells
    → written.members_text later (members_data names cells) ≡ members_text later names cells
members_text-is later [] cells plain is = refl
members_text-is later (n ∷ names) [] plain is = refl
members_text-is later (n ∷ names) (c ∷ cells) plain is =
    ap (λ (q : List ℕ). comma_if later ++ (q ++ (58 ∷ (written.compact_text (cell_data c) ++ written.members_text true (members_data names cells))))) (quoted-is n plain.0)
    ∙ ap (λ (t : List ℕ). comma_if later ++ (in_quotes n ++ (58 ∷ (t ++ written.members_text true (members_data names cells))))) (cell_text-is c is.0)
    ∙ ap (λ (m : List ℕ). comma_if later ++ (in_quotes n ++ (58 ∷ (cell_text c ++ m)))) (members_text-is true names cells plain.1 is.1)

-- ---- numbers and depth

cell_numbers : (cell : Held) → IsTellable cell → HasNumbers (written.outline (cell_data cell))
cell_numbers (number n) is = IsNumber-decimal n is
cell_numbers (text bytes) is = tt
cell_numbers nothing is = tt

members_numbers : (names : List (List ℕ)) (cells : List Held) → AllByRecursion IsTellable cells
    → MembersHaveNumbers (written.members_outline (members_data names cells))
members_numbers [] cells is = tt
members_numbers (n ∷ names) [] is = tt
members_numbers (n ∷ names) (c ∷ cells) is = (cell_numbers c is.0, members_numbers names cells is.1)

cell_depth : (cell : Held) → depth (written.outline (cell_data cell)) ≡ 0
cell_depth (number n) = refl
cell_depth (text bytes) = refl
cell_depth nothing = refl

members_flat : (names : List (List ℕ)) (cells : List Held) → members_depth (written.members_outline (members_data names cells)) ≡ 0
members_flat [] cells = refl
members_flat (n ∷ names) [] = refl
members_flat (n ∷ names) (c ∷ cells) = omega (arith, cell_depth c, members_flat names cells)

cell_read : (cell : Held) → IsTellable cell → of_json (written.outline (cell_data cell)) ≡ Some (cell_data cell)
cell_read (number n) is = rw (number_of-decimal n is) refl
cell_read (text bytes) is = refl
cell_read nothing is = refl

-- ---- members with rising names are put one behind another

abbrev joined : json.Members → json.Members → json.Members
joined json.no_members more = more
joined (json.member k d ms) more = json.member k d (joined ms more)

joined-more : (a : json.Members) (k : List ℕ) (d : json.Data) (more : json.Members)
    → joined (joined a (json.member k d json.no_members)) more ≡ joined a (json.member k d more)
joined-more json.no_members k d more = refl
joined-more (json.member l e a) k d more = ap (json.member l e) (joined-more a k d more)

joined-none : (a : json.Members) → joined a json.no_members ≡ a
joined-none json.no_members = refl
joined-none (json.member k d a) = ap (json.member k d) (joined-none a)

-- a name stands behind those of all these members
abbrev IsBehind : List ℕ → json.Members → Type 0
IsBehind name json.no_members = Unit {0}
IsBehind name (json.member k d ms) = (stands_behind name k ≡ true) × IsBehind name ms

behind-more : (name : List ℕ) (a : json.Members) (k : List ℕ) (d : json.Data) → IsBehind name a → stands_behind name k ≡ true
    → IsBehind name (joined a (json.member k d json.no_members))
behind-more name json.no_members k d is e = (e, tt)
behind-more name (json.member l f a) k d is e = (is.0, behind-more name a k d is.1 e)

-- so do all these names
abbrev AreBehind : List (List ℕ) → json.Members → Type 0
AreBehind names ms = AllByRecursion (λ name. IsBehind name ms) names

both : (a b : Bool) → (a && b) ≡ true → (a ≡ true) × (b ≡ true)
both true b e = (refl, e)
both false b e = absurd (true≢false (sym e))

are_behind-more : (names : List (List ℕ)) (a : json.Members) (k : List ℕ) (d : json.Data) → AreBehind names a → stand_behind names k ≡ true
    → AreBehind names (joined a (json.member k d json.no_members))
are_behind-more [] a k d are e = tt
are_behind-more (n ∷ names) a k d are e =
    let split = both (stands_behind n k) (stand_behind names k) e in
    (behind-more n a k d are.0 split.0, are_behind-more names a k d are.1 split.1)

by_order : (o : Ordering) (a b c : json.Members) → match_ordering o false false true ≡ true → match_ordering o a b c ≡ c
by_order Less a b c e = absurd (true≢false (sym e))
by_order Equal a b c e = absurd (true≢false (sym e))
by_order Greater a b c e = refl

-- a member whose name stands behind all others is put last
put_last : (k : List ℕ) (d : json.Data) (ms : json.Members) → IsBehind k ms → json.put k d ms ≡ joined ms (json.member k d json.no_members)
put_last k d json.no_members is = refl
put_last k d (json.member l e ms) is =
    by_order (slice_cmp nat_cmp k l) (json.member k d (json.member l e ms)) (json.member l d ms) (json.member l e (json.put k d ms)) is.0
    ∙ ap (json.member l e) (put_last k d ms is.1)

members_read : (names : List (List ℕ)) (cells : List Held) (found : json.Members) → AllByRecursion IsTellable cells → rise names ≡ true → AreBehind names found
    → of_members (written.members_outline (members_data names cells)) found ≡ Some (joined found (members_data names cells))
members_read [] cells found is up are = ap Some (sym (joined-none found))
members_read (n ∷ names) [] found is up are = ap Some (sym (joined-none found))
members_read (n ∷ names) (c ∷ cells) found is up are =
    let split = both (stand_behind names n) (rise names) up in
    let rest = written.members_outline (members_data names cells) in
    let next = joined found (json.member n (cell_data c) json.no_members) in
    ap (λ (o : Option json.Data). option_and_then (λ d. of_members rest (json.put n d found)) o) (cell_read c is.0)
    ∙ ap (of_members rest) (put_last n (cell_data c) found are.0)
    ∙ members_read names cells next is.1 split.1 (are_behind-more names found n (cell_data c) are.1 split.0)
    ∙ ap Some (joined-more found n (cell_data c) (members_data names cells))

all_behind_none : (names : List (List ℕ)) → AreBehind names json.no_members
all_behind_none [] = tt
all_behind_none (n ∷ names) = (tt, all_behind_none names)

-- the text of a record is read as the object of its members
pub record_read : (names : List (List ℕ)) (cells : List Held) → AllByRecursion IsPlain names → rise names ≡ true → Fits names cells
    → read (record_text names cells) ≡ Some (record_data names cells)
record_read names cells plain up fits =
    ap (λ (m : List ℕ). read (123 ∷ m)) (sym (members_text-is false names cells plain fits.tellable))
    ∙ read_back (record_data names cells) (members_numbers names cells fits.tellable) (omega (arith, members_flat names cells))
    (ap (λ (o : Option json.Members). option_map json.object o)
    (members_read names cells json.no_members fits.tellable up (all_behind_none names)))
