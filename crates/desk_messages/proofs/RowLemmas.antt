-- The router finds each kind for its own targets, as its row tells.
use Rattle.std.proofs.Common.{◌≡◌, ◌≢◌, ℕ, ◌<◌, ◌==◌, ◌&&◌, Bool, true, false, true≢false, not, List, [], ◌∷◌, ◌++◌, get_or, length, map, decimal, Option, Some, None, option_map, refl, ap, sym, subst, arith}
use Rattle.std.specs.Prelude.{IsUtf8, ltb}
use Rattle.std.specs.Char.{is_ascii_digit}
use Rattle.std.specs.List.{AllByRecursion, list_all}
use Rattle.std.proofs.lemmas.Bool.{and_parts, eqb-true, ltb-true, ne_eqb}
use Rattle.std.proofs.lemmas.Bool.Decides.{nat_tests}
use Rattle.std.proofs.lemmas.Fmt.{decimal_is_IsNumeral, decimal_nonempty}
use Rattle.std.proofs.lemmas.List.Elements.{All-from_recursion}
use Rattle.std.proofs.lemmas.Str.{IsUtf8-from_ascii}
use Rattle.std.proofs.lemmas.Str.Ascii.{IsAscii-from_all}
use Rattle.std.proofs.lemmas.Str.Parse.{digit_at}
use denote.Enum.Bare.{same_true, sameb}
use Rattle.matchit.specs.Rows.{RowsOf, param_token}
use Rattle.matchit.specs.Seek.{cuts, longest_from, own, seek, segment, step, with_suffix}
use Rattle.matchit.proofs.OnLiterals.{matchit_on_literals}
use Rattle.office_rules.specs.Name.{is_name_byte}
use Rattle.asks.specs.Endpoint.{Place, endpoint_of}
use Rattle.asks.specs.Target.{LacksSlash, Names, end_text, kind_at, places_text}
use Rattle.asks.specs.Value.{AreOf, IsOf, Keeps, kind_of, text_of}
use Rattle.asks.specs.contracts.kind.AskKind.{the_type}
use Rattle.asks.specs.declared.kind.AskKind.{AskKind}
use Rattle.asks.specs.declared.kind.AskKind.TheVariants.{ImportMeters}
use Rattle.asks.specs.declared.value.Value.{Value}
use Rattle.asks.specs.declared.value.Value.TheVariants.{Number}
use Rattle.asks.specs.declared.value.ValueKind.{ValueKind}
use Rattle.asks.specs.declared.value.ValueKind.TheVariants as kinds
use Rattle.asks.proofs.PlaceLemmas.{word_lacks}
use Rattle.asks.proofs.ValueLemmas.{IsWord, value_some, value_word}
use Rattle.asks.specs.Value.{DaysAreRead}
use Rattle.desk_messages.specs.Routes.{FindsKind, table}
use Rattle.desk_messages.specs.Routes as routes
use Rattle.desk_messages.proofs.WalkLemmas.{Leads, at_end, before_slash, behind, through}

-- ---- the texts of values

-- a byte that values of a kind may begin with
abbrev may_begin : ValueKind → ℕ → Bool
may_begin kinds.Number b = is_ascii_digit b
may_begin kind b = is_name_byte b

-- what is known of the text of a value of a kind
record StandsAs (kind : ValueKind) (text : List ℕ) : Type 0 where
  some : text ≢ []
  word : IsWord text
  begins : (b : ℕ) (rest : List ℕ) → text ≡ b ∷ rest → may_begin kind b ≡ true

digit_first : (n : ℕ) → n < 2_000_000_000 → (b : ℕ) (rest : List ℕ) → decimal n ≡ b ∷ rest → is_ascii_digit b ≡ true
digit_first n h b rest e =
    let digit = digit_at (decimal n) 0 (decimal_is_IsNumeral n (omega (arith, h))).0.1 (omega (arith, decimal_nonempty n (omega (arith, h)))) in
    let here : get_or (decimal n) 0 0 ≡ b = ap (λ (text : List ℕ). get_or text 0 0) e in
    grind (arith, nat_tests)

begins_so : DaysAreRead → (v : Value) → Keeps v → (b : ℕ) (rest : List ℕ) → text_of v ≡ b ∷ rest → may_begin (kind_of v) b ≡ true
begins_so days (Number n) is b rest e = digit_first n (omega (arith, is.most)) b rest e
begins_so days v is b rest e = (subst IsWord e (value_word days v is)).0

stands : DaysAreRead → (kind : ValueKind) (v : Value) → IsOf kind v → StandsAs kind (text_of v)
stands days kind v is = record {
  some = value_some v is.kept;
  word = value_word days v is.kept;
  begins = λ b rest e. subst (λ k. may_begin k b ≡ true) is.of_kind (begins_so days v is.kept b rest e);
}

-- ---- the rows of a router

not_both : (b : Bool) → not b ≡ true → b ≢ true
not_both true e p = true≢false (sym e)
not_both false e p = true≢false (sym p)

-- a segment that begins with a slash is that slash
slash_alone : (x : ℕ) (t : List ℕ) → (x == 47) ≡ true → segment (x ∷ t) ≡ 47 ∷ []
slash_alone x t e = rw e (ap (λ (b : ℕ). b ∷ []) (eqb-true x 47 e))

module _ {K : Type 0} where
  -- no row goes on with a byte that a value of the kind may begin with
  abbrev heads_apart : ValueKind → RowsOf K → Bool
  heads_apart kind [] = true
  heads_apart kind (([], key) ∷ rows) = heads_apart kind rows
  heads_apart kind ((x ∷ t, key) ∷ rows) = not (may_begin kind x) && heads_apart kind rows

  no_step : (kind : ValueKind) (rows : RowsOf K) (b : ℕ) → heads_apart kind rows ≡ true → may_begin kind b ≡ true → step b rows ≡ []
  no_step kind [] b apart begins = refl
  no_step kind (([], key) ∷ rows) b apart begins = no_step kind rows b apart begins
  no_step kind ((x ∷ t, key) ∷ rows) b apart begins =
      let parts = and_parts (not (may_begin kind x)) (heads_apart kind rows) apart in
      let other : (x == b) ≡ false =
      ne_eqb x b (λ same. not_both (may_begin kind x) parts.0 (subst (λ y. may_begin kind y ≡ true) (sym same) begins)) in
      rw other (no_step kind rows b parts.1 begins)

  -- each row ends here or goes on with a slash
  abbrev ends_short : RowsOf K → Bool
  ends_short [] = true
  ends_short (([], key) ∷ rows) = ends_short rows
  ends_short ((x ∷ t, key) ∷ rows) = (x == 47) && ends_short rows

  -- one of them goes on
  abbrev goes_on : RowsOf K → Bool
  goes_on [] = false
  goes_on (([], key) ∷ rows) = goes_on rows
  goes_on ((x ∷ t, key) ∷ rows) = true

  kept_slash : (seg : List ℕ) (rows : RowsOf K) → ends_short rows ≡ true → longest_from seg (47 ∷ []) rows ≡ 47 ∷ []
  kept_slash seg [] short = refl
  kept_slash seg (([], key) ∷ rows) short = kept_slash seg rows short
  kept_slash seg ((x ∷ t, key) ∷ rows) short =
      let parts = and_parts (x == 47) (ends_short rows) short in
      rw (slash_alone x t parts.0) (kept_slash seg rows parts.1)

  longest_slash : (seg : List ℕ) (rows : RowsOf K) → cuts seg (47 ∷ []) ≡ true → ends_short rows ≡ true → goes_on rows ≡ true
      → longest_from seg [] rows ≡ 47 ∷ []
  longest_slash seg [] cut short on = absurd (true≢false (sym on))
  longest_slash seg (([], key) ∷ rows) cut short on = longest_slash seg rows cut short on
  longest_slash seg ((x ∷ t, key) ∷ rows) cut short on =
      let parts = and_parts (x == 47) (ends_short rows) short in
      rw (slash_alone x t parts.0, cut) (kept_slash seg rows parts.1)

  longest_none : (seg : List ℕ) (rows : RowsOf K) → cuts seg (47 ∷ []) ≡ false → ends_short rows ≡ true → longest_from seg [] rows ≡ []
  longest_none seg [] cut short = refl
  longest_none seg (([], key) ∷ rows) cut short = longest_none seg rows cut short
  longest_none seg ((x ∷ t, key) ∷ rows) cut short =
      let parts = and_parts (x == 47) (ends_short rows) short in
      rw (slash_alone x t parts.0, cut) (longest_none seg rows cut parts.1)

-- ---- the walk along a row

module _ {K : Type 0} (value_of : K → AskKind) where
  abbrev finds : Option K → AskKind → Bool
  finds None kind = false
  finds (Some key) kind = sameb the_type (value_of key) kind

  is_found : (o : Option K) (kind : AskKind) → finds o kind ≡ true → option_map value_of o ≡ Some kind
  is_found None kind e = absurd (true≢false (sym e))
  is_found (Some key) kind e = ap Some (same_true the_type tt (value_of key) kind e)

  -- the rows behind the slash and the front of a place, and those behind its value
  abbrev at_front : RowsOf K → Place → RowsOf K
  at_front rows p = behind value_of (47 ∷ p.front) rows

  abbrev at_value : RowsOf K → Place → RowsOf K
  at_value rows p = step param_token (at_front rows p)

  abbrev with_slash : RowsOf K → Place → RowsOf K
  with_slash rows p = with_suffix (47 ∷ []) (at_value rows p)

  -- behind a front there are parameters alone, as far as values of the kind go
  abbrev takes_value : RowsOf K → Place → Bool
  takes_value rows p = heads_apart p.kind (at_front rows p) && ends_short (at_value rows p)

  -- the rows lead along these places to the kind
  abbrev leads : RowsOf K → List Place → List ℕ → AskKind → Bool
  leads rows [] end kind = finds (seek 0 rows (end_text end)) kind
  leads rows (p ∷ []) [] kind = takes_value rows p && finds (own (at_value rows p)) kind
  leads rows (p ∷ []) (b ∷ end) kind =
      takes_value rows p && (goes_on (at_value rows p) && leads (with_slash rows p) [] (b ∷ end) kind)
  leads rows (p ∷ q ∷ ps) end kind =
      takes_value rows p && (goes_on (at_value rows p) && leads (with_slash rows p) (q ∷ ps) end kind)

  over_slash : (rows : RowsOf K) (p : Place) (text more : List ℕ) (kind : AskKind) → StandsAs p.kind text → takes_value rows p ≡ true
      → goes_on (at_value rows p) ≡ true → Leads value_of (with_slash rows p) (47 ∷ more) kind
      → Leads value_of rows (47 ∷ (p.front ++ (text ++ 47 ∷ more))) kind
  over_slash rows p [] more kind is takes on later = absurd (is.some refl)
  over_slash rows p (b ∷ text) more kind is takes on later =
      let parts = and_parts (heads_apart p.kind (at_front rows p)) (ends_short (at_value rows p)) takes in
      through value_of (47 ∷ p.front) rows ((b ∷ text) ++ 47 ∷ more) kind
      (before_slash value_of (at_front rows p) b text more kind (word_lacks (b ∷ text) is.word)
      (no_step p.kind (at_front rows p) b parts.0 (is.begins b text refl))
      (λ seg cut. longest_slash seg (at_value rows p) cut parts.1 on) later)

  over_end : (rows : RowsOf K) (p : Place) (text : List ℕ) (kind : AskKind) → StandsAs p.kind text → takes_value rows p ≡ true
      → option_map value_of (own (at_value rows p)) ≡ Some kind → Leads value_of rows (47 ∷ (p.front ++ (text ++ []))) kind
  over_end rows p [] kind is takes ends = absurd (is.some refl)
  over_end rows p (b ∷ text) kind is takes ends =
      let parts = and_parts (heads_apart p.kind (at_front rows p)) (ends_short (at_value rows p)) takes in
      through value_of (47 ∷ p.front) rows ((b ∷ text) ++ []) kind
      (at_end value_of (at_front rows p) b text kind (word_lacks (b ∷ text) is.word)
      (no_step p.kind (at_front rows p) b parts.0 (is.begins b text refl))
      (λ seg cut. longest_none seg (at_value rows p) cut parts.1) ends)

  -- so a walk finds the kind for the text of these places with any values
  leads_to : DaysAreRead → (rows : RowsOf K) (ps : List Place) (end : List ℕ) (vs : List Value) (kind : AskKind) → leads rows ps end kind ≡ true
      → AreOf (map kind_at ps) vs → Leads value_of rows (places_text ps end vs) kind
  leads_to days rows [] end [] kind e are = is_found (seek 0 rows (end_text end)) kind e
  leads_to days rows [] end (v ∷ vs) kind e are = absurd are
  leads_to days rows (p ∷ ps) end [] kind e are = absurd are
  leads_to days rows (p ∷ []) end (v ∷ w ∷ vs) kind e are = absurd are.1
  leads_to days rows (p ∷ q ∷ ps) end (v ∷ []) kind e are = absurd are.1
  leads_to days rows (p ∷ []) [] (v ∷ []) kind e are =
      let parts = and_parts (takes_value rows p) (finds (own (at_value rows p)) kind) e in
      over_end rows p (text_of v) kind (stands days p.kind v are.0) parts.0 (is_found (own (at_value rows p)) kind parts.1)
  leads_to days rows (p ∷ []) (b ∷ end) (v ∷ []) kind e are =
      let parts = and_parts (takes_value rows p) (goes_on (at_value rows p) && leads (with_slash rows p) [] (b ∷ end) kind) e in
      let others = and_parts (goes_on (at_value rows p)) (leads (with_slash rows p) [] (b ∷ end) kind) parts.1 in
      over_slash rows p (text_of v) (b ∷ end) kind (stands days p.kind v are.0) parts.0 others.0
      (leads_to days (with_slash rows p) [] (b ∷ end) [] kind others.1 tt)
  leads_to days rows (p ∷ q ∷ ps) end (v ∷ w ∷ vs) kind e are =
      let parts = and_parts (takes_value rows p) (goes_on (at_value rows p) && leads (with_slash rows p) (q ∷ ps) end kind) e in
      let others = and_parts (goes_on (at_value rows p)) (leads (with_slash rows p) (q ∷ ps) end kind) parts.1 in
      over_slash rows p (text_of v) (q.front ++ (text_of w ++ places_text ps end vs)) kind (stands days p.kind v are.0) parts.0 others.0
      (leads_to days (with_slash rows p) (q ∷ ps) end (w ∷ vs) kind others.1 are.1)

-- ---- the table

-- computed: the table leads along the row of each kind to it
each_leads : (kind : AskKind) → leads routes.kind_of table (endpoint_of kind).places (endpoint_of kind).end kind ≡ true
unfolding matchit_on_literals table
each_leads ImportMeters = refl
each_leads kind = refl

-- ---- targets are text

abbrev is_small : ℕ → Bool
is_small b = ltb b 128

abbrev small_places : List Place → List ℕ → Bool
small_places [] end = list_all is_small end
small_places (p ∷ ps) end = list_all is_small p.front && small_places ps end

abbrev AreSmall : List ℕ → Type 0
AreSmall text = AllByRecursion (λ b. b < 128) text

small_by : (text : List ℕ) → list_all is_small text ≡ true → AreSmall text
small_by [] e = tt
small_by (b ∷ text) e =
    let parts = and_parts (is_small b) (list_all is_small text) e in
    (ltb-true b 128 parts.0, small_by text parts.1)

small_name : (b : ℕ) → is_name_byte b ≡ true → b < 128
small_name b e = grind (arith, nat_tests)

small_word : (text : List ℕ) → IsWord text → AreSmall text
small_word [] is = tt
small_word (b ∷ text) is = (small_name b is.0, small_word text is.1)

small_append : (a b : List ℕ) → AreSmall a → AreSmall b → AreSmall (a ++ b)
small_append [] b p q = q
small_append (x ∷ a) b p q = (p.0, small_append a b p.1 q)

small_end : (end : List ℕ) → list_all is_small end ≡ true → AreSmall (end_text end)
small_end [] e = tt
small_end (b ∷ end) e = (omega arith, small_by (b ∷ end) e)

small_text : DaysAreRead → (ps : List Place) (end : List ℕ) (vs : List Value) → small_places ps end ≡ true → AreOf (map kind_at ps) vs
    → AreSmall (places_text ps end vs)
small_text days [] end [] e are = small_end end e
small_text days [] end (v ∷ vs) e are = absurd are
small_text days (p ∷ ps) end [] e are = absurd are
small_text days (p ∷ ps) end (v ∷ vs) e are =
    let parts = and_parts (list_all is_small p.front) (small_places ps end) e in
    let value = small_word (text_of v) (value_word days v are.0.kept) in (
      omega arith,
      small_append p.front (text_of v ++ places_text ps end vs) (small_by p.front parts.0)
          (small_append (text_of v) (places_text ps end vs) value (small_text days ps end vs parts.1 are.1)),
    )

each_small : (kind : AskKind) → small_places (endpoint_of kind).places (endpoint_of kind).end ≡ true
each_small ImportMeters = refl
each_small kind = refl

-- a kind whose values a target names is found for it
pub finds_named : DaysAreRead → (target : List ℕ) (kind : AskKind) (values : List Value) → Names (endpoint_of kind) target values
    → FindsKind target kind
finds_named days target kind values named =
    let row = endpoint_of kind in
    let Found : List ℕ → Type 0 = λ text. FindsKind text kind in
    let own = places_text row.places row.end values in
    let small = small_text days row.places row.end values (each_small kind) named.are in
    subst Found (sym named.written) (record {
      text = IsUtf8-from_ascii own (IsAscii-from_all own (All-from_recursion (λ b. b < 128) own small));
      found = leads_to routes.kind_of days table row.places row.end values kind (each_leads kind) named.are;
    })
