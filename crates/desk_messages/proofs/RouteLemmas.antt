-- The table of a router, kind by kind, and what a target names.
use Rattle.std.proofs.Common.{◌≡◌, ◌≢◌, ◌∙◌, ℕ, ◌+◌, ◌<◌, ◌≤◌, List, [], get_or, length, take, inl, inr, Result, Ok, Err, Option, Some, None, refl, ap, sym, subst, arith}
use Rattle.std.specs.List.{fold}
use Rattle.std.proofs.lemmas.List.{take_all}
use Rattle.std.proofs.lemmas.List.Sums.{fold_more}
use Rattle.sts_fields.proofs.CalendarLemmas.{civil-ranges, civil_at-is}
use Rattle.sts_fields.proofs.DayLemmas as days
use Rattle.arrayvec.specs.ArrayVec.{ArrayVec}
use Rattle.matchit.specs.Route.{Scan, parse_route}
use Rattle.matchit.specs.Router.{InsertsRead}
use Rattle.matchit.specs.declared.error.InsertError.{InsertError}
use Rattle.asks.specs.Endpoint.{all_kinds, endpoint_of}
use Rattle.asks.specs.Target.{Names}
use Rattle.asks.specs.Value.{DaysAreRead}
use Rattle.asks.specs.declared.kind.AskKind.{AskKind}
use Rattle.asks.specs.declared.value.Value.{Value}
use Rattle.asks.proofs.PlaceLemmas.{one_list}
use Rattle.asks.proofs.ValueLemmas.{day-reads, day-shown}
use Rattle.desk_messages.specs.Routes.{FindsKind, IsNamed, NamesNothing, Table, pattern_of, table, with_kind, with_pattern}
use Rattle.desk_messages.specs.declared.named.Named.{Named}
use Rattle.desk_messages.proofs.RowLemmas.{finds_named}

-- what `insert` leaves where it succeeds
inserted : (read : Result Scan InsertError) (kind : AskKind) (old new : Table) (u : Unit {0}) → InsertsRead read kind old new (Ok u)
    → new ≡ with_pattern old read kind
inserted (Ok scan) kind old new u is = is.1
inserted (Err error) kind old new u (same, inl e) = absurd (cc)
inserted (Err error) kind old new u (same, inr e) = absurd (cc)

-- so the pattern of a kind leaves its row in the table
pub with_inserted : (pattern : List ℕ) (kind : AskKind) (old new : Table) (u : Unit {0}) → pattern ≡ pattern_of kind
    → InsertsRead (parse_route pattern) kind old new (Ok u) → new ≡ with_kind old kind
with_inserted pattern kind old new u same is =
    inserted (parse_route pattern) kind old new u is ∙ ap (λ p. with_pattern old (parse_route p) kind) same

-- the table with the kind at a place, after those before it
pub next_rows : (old new : Table) (kinds : List AskKind) (i : ℕ) (d : AskKind) → kinds ≡ all_kinds → i < length kinds
    → old ≡ fold with_kind [] (take i all_kinds)
    → new ≡ with_kind old (get_or kinds i d) → new ≡ fold with_kind [] (take (i + 1) all_kinds)
next_rows old new kinds i d same there before one =
    one ∙ ap (λ ks. with_kind old (get_or ks i d)) same ∙ ap (λ rs. with_kind rs (get_or all_kinds i d)) before
    ∙ sym (fold_more with_kind [] all_kinds i d (omega (arith, ap length same)))

-- behind the last kind the table is whole
pub whole_rows : (rows : Table) (i : ℕ) → length all_kinds ≤ i → rows ≡ fold with_kind [] (take i all_kinds) → rows ≡ table
unfolding table
whole_rows rows i past is = is ∙ ap (λ kinds. fold with_kind [] kinds) (take_all i all_kinds past)

-- days are read as they are told
days_are_read : DaysAreRead
days_are_read = record {
  reads = day-reads (λ secs is. civil_at-is secs is.0 is.1) days.shown days.whole;
  one_text = days.one_text;
  one_day = days.one_read;
  shown = day-shown (λ secs is. civil_at-is secs is.0 is.1) (λ secs c is. civil-ranges secs c is.0 is.1);
}

-- the router finds one kind for a target
one_found : (target : List ℕ) (a b : AskKind) → FindsKind target a → FindsKind target b → a ≡ b
one_found target a b one other =
    let e : Some a ≡ Some b = sym one.found ∙ other.found in cc

-- a target names values of one kind
pub one_kind : (target : List ℕ) (a b : AskKind) (vs ws : List Value) → Names (endpoint_of a) target vs → Names (endpoint_of b) target ws → a ≡ b
one_kind target a b vs ws one other =
    one_found target a b (finds_named days_are_read target a vs one) (finds_named days_are_read target b ws other)

-- and those once
pub one_values : (target : List ℕ) (kind : AskKind) (vs ws : List Value) → Names (endpoint_of kind) target vs → Names (endpoint_of kind) target ws → vs ≡ ws
one_values target kind vs ws one other =
    one_list days_are_read (endpoint_of kind).places (endpoint_of kind).end vs ws one.are other.are (sym one.written ∙ other.written)

-- a target for which no kind is found names nothing
pub names_unfound : (target : List ℕ) → ((kind : AskKind) → ¬ FindsKind target kind) → (named : Named) → ¬ IsNamed target named
names_unfound target none named is = none named.kind (finds_named days_are_read target named.kind named.values.items is)

-- nor does one that names no values of the kind that is found
pub names_others : (target : List ℕ) (kind : AskKind) → FindsKind target kind
    → ((values : ArrayVec Value) → ¬ Names (endpoint_of kind) target values.items) → (named : Named) → ¬ IsNamed target named
names_others target kind found none named is =
    let same = one_found target named.kind kind (finds_named days_are_read target named.kind named.values.items is) found in
    none named.values (subst (λ k. Names (endpoint_of k) target named.values.items) same is)

-- where nothing is named, no values of a kind are
pub names_nothing : (target : List ℕ) → ((named : Named) → ¬ IsNamed target named) → NamesNothing target
names_nothing target none kind values names = none (record { kind = kind; values = record { items = values } }) names
