-- The pages of a list of members by texts have all of those after a text, each once.
use Rattle.std.proofs.Common.{◌≡◌, ◌≢◌, ◌⊎◌, ◌∙◌, ℕ, ◌-◌, ◌==◌, Bool, true, false, List, [], ◌∷◌, ◌++◌, length, get_or, map, slice_get, Option, Some, None, option_map, Ok, inl, inr, refl, ap, sym, subst, append_assoc, append-nil, arith}
use Rattle.std.specs.Prelude.{if◌then◌else◌, All, AllPairs, Contains, IsSome, unwrap_or}
use Rattle.std.specs.List.{flat_map}
use Rattle.std.proofs.lemmas.Bool.{eqb-false, eqb-true}
use Rattle.std.proofs.lemmas.Bool.Decides.{eqb_tells}
use Rattle.std.proofs.lemmas.Cmp.{nat_list_cmp_total}
use Rattle.std.proofs.lemmas.Grind.{flat_map-append}
use Rattle.std.proofs.lemmas.List.{length-map, map-append}
use Rattle.std.proofs.lemmas.List.Elements.{All-append, All-contains, Contains-append_left, Contains-append_right}
use Rattle.std.proofs.lemmas.Option.{get_or_from_slice_get, slice_get-map, slice_get_within}
use Rattle.book_tables.proofs.ListLemmas.{pairs_append}
use Rattle.office_rules.proofs.OfficeLemmas.MapLemmas.{all_from_contains}
use Rattle.book_lists.specs.Pages.{AreFirstAfter, ComesBefore}
use Rattle.book_facts.specs.Lookups.{Finds, IsListedMeter, IsListedTariff}
use Rattle.asks.specs.declared.lookup.Lookup.{Lookup}
use Rattle.asks.specs.declared.lookup.Lookup.TheVariants as lookups
use Rattle.book_states.specs.declared.lookup.Found.{Found}
use Rattle.book_states.specs.declared.lookup.Found.TheVariants as found
use Rattle.book_states.specs.declared.lookup.ListedMeter.{ListedMeter}
use Rattle.book_states.specs.declared.lookup.ListedTariff.{ListedTariff}
use Rattle.sts_fields.specs.Day.{day_at}
use Rattle.sts_fields.specs.Text.{Text}
use Rattle.office_rules.specs.Office.{Office}
use Rattle.program_laws.proofs.WholeLemmas.{from_first, from_next, no_page_more, none_past, text_from}
use Rattle.vend_ports.specs.print.Printed.{table_row_of}
use Rattle.desk_commands.specs.print.Pages.{ArePages, last_of_full, list_behind}
use Rattle.desk_commands.specs.print.ListTexts.{meter_line, meter_names, page_text, pages_text, table_text, tariff_lines, tariff_names}
use Rattle.program_laws.specs.WholeLists.{AreAllAfter, AreAllMeters, AreAllTariffs, whole_meters_text, whole_tariffs_text}

-- ---- keys

before_trans : (a b c : Text) → ComesBefore a b → ComesBefore b c → ComesBefore a c
before_trans a b c p q = nat_list_cmp_total.trans a b c p q

contains_at : (ks : List Text) (i : ℕ) (k : Text) → slice_get ks i ≡ Some k → Contains ks k
contains_at ks i k at = (i, slice_get_within ks i k at, get_or_from_slice_get ks i k k at)

-- a key of a page is the last, or comes before it
up_to_last : (ks : List Text) (k x : Text) → AllPairs ComesBefore ks → slice_get ks (length ks - 1) ≡ Some k → Contains ks x → (x ≡ k) ⊎ ComesBefore x k
up_to_last ks k x pairs at there =
    let last : get_or ks (length ks - 1) x ≡ k = get_or_from_slice_get ks (length ks - 1) k x at in
    elim (eqb_tells there.0 (length ks - 1)) [
      | inl same ↦ inl (sym there.2 ∙ ap (λ i. get_or ks i x) same.1 ∙ last)
      | inr apart ↦ inr (subst (λ t. ComesBefore t k) there.2
          (subst (ComesBefore (get_or ks there.0 x)) last (pairs there.0 (length ks - 1) x (omega (arith, there.1, apart.1))
          (slice_get_within ks (length ks - 1) k at))))
    ]

module _ {Y : Type 0} (key : Y → Text) (Has : Text → Type 0) where
  -- a page that is not full has all keys
  short_page : (after : Text) (ks : List Text) → AreFirstAfter Has after ks → length ks ≢ 100 → AreAllAfter Has after ks
  short_page after ks first short = record {
    there = first.there;
    in_order = first.in_order;
    whole = λ t has past. elim (first.whole t has past) [
      | inl there ↦ there
      | inr full ↦ absurd (short full.0)
    ];
  }

  -- a page, and all those behind its last key
  full_page : (after : Text) (ys zs : List Y) (y : Y) → AreFirstAfter Has after (map key ys) → slice_get ys (length ys - 1) ≡ Some y
      → AreAllAfter Has (key y) (map key zs) → AreAllAfter Has after (map key (ys ++ zs))
  full_page after ys zs y first at rest =
      let ks = map key ys in
      let ls = map key zs in
      let last : slice_get ks (length ks - 1) ≡ Some (key y) =
      ap (λ n. slice_get ks (n - 1)) (length-map ys key) ∙ slice_get-map key ys (length ys - 1) ∙ ap (option_map key) at in
      let in_page = contains_at ks (length ks - 1) (key y) last in
      let behind : ComesBefore after (key y) = (All-contains (λ k. Has k × ComesBefore after k) ks (key y) first.there in_page).1 in
      let past : (l : Text) → Contains ls l → Has l × ComesBefore (key y) l =
      λ l there. All-contains (λ k. Has k × ComesBefore (key y) k) ls l rest.there there in
      subst (AreAllAfter Has after) (sym (map-append key ys zs)) (record {
        there = All-append (λ k. Has k × ComesBefore after k) ks ls first.there
            (all_from_contains (λ k. Has k × ComesBefore after k) ls (λ l there. ((past l there).0, before_trans after (key y) l behind (past l there).1)));
        in_order = pairs_append ComesBefore ks ls first.in_order rest.in_order (λ a b in_ks in_ls. elim (up_to_last ks (key y) a first.in_order last in_ks) [
          | inl is ↦ subst (λ t. ComesBefore t b) (sym is) (past b in_ls).1
          | inr before ↦ before_trans a (key y) b before (past b in_ls).1
        ]);
        whole = λ t has after_it. elim (first.whole t has after_it) [
          | inl there ↦ Contains-append_left ks ls t there
          | inr full ↦ Contains-append_right ks ls t (rest.whole t has (All-contains (λ other. ComesBefore other t) ks (key y) full.1 in_page))
        ];
      })

  module _ (Each : Y → Type 0) (text : Bool → List Y → Text)
      (law : (first : Bool) (front back : List Y) → text first (front ++ back) ≡ text first front ++ text false back)
      (o : Office) (moment : ℕ) (list : Option Text → Lookup) where
    -- the members that a page has
    pub record IsKeyedPage (at : Option Text) (page : Found) : Type 0 where
      pub members : List Y
      pub each : All Each members
      pub first : AreFirstAfter Has (unwrap_or at []) (map key members)
      pub text_is : (named : Bool) → page_text false named page ≡ text named members
      pub behind : list_behind page ≡ option_map (λ y. list (Some (key y))) (last_of_full members)

    -- the members that pages have together
    pub record AreKeyedPages (at : Option Text) (named : Bool) (pages : List Found) : Type 0 where
      pub members : List Y
      pub each : All Each members
      pub all : AreAllAfter Has (unwrap_or at []) (map key members)
      pub text_is : text_from named pages ≡ text named members

    module _ (reads : (at : Option Text) (page : Found) → Finds o moment (list at) (Ok page) → IsKeyedPage at page) where
      -- the pages of a list, up to the last one, have all members after a text, each once
      pub whole_list : (pages : List Found) (named : Bool) (at : Option Text) → ArePages o moment (Some (list at)) pages None → AreKeyedPages at named pages
      whole_list [] named at none = cc
      whole_list (page ∷ pages) named at (finds, rest) =
          let has = reads at page finds in
          let behind = subst (λ (left : Option Lookup). ArePages o moment left pages None) has.behind rest in
          by_length has (λ next. whole_list pages false next) (length has.members == 100) refl behind
        where
          by_last : (has : IsKeyedPage at page) → ((next : Option Text) → ArePages o moment (Some (list next)) pages None
              → AreKeyedPages next false pages) → (last : Option Y)
              → length has.members ≡ 100 → slice_get has.members (length has.members - 1) ≡ last
              → ArePages o moment (option_map (λ y. list (Some (key y))) last) pages None → AreKeyedPages at named (page ∷ pages)
          by_last has again None full is behind = absurd (omega (arith, full, none_past has.members (length has.members - 1) is))
          by_last has again (Some y) full is behind =
              let more = again (Some (key y)) behind in
              record {
                members = has.members ++ more.members;
                each = All-append Each has.members more.members has.each more.each;
                all = full_page (unwrap_or at []) has.members more.members y has.first is more.all;
                text_is = ap (λ l. l ++ flat_map (page_text false false) pages) (has.text_is named)
                    ∙ ap (λ l. text named has.members ++ l) (from_next pages ∙ more.text_is) ∙ sym (law named has.members more.members);
              }

          by_length : (has : IsKeyedPage at page) → ((next : Option Text) → ArePages o moment (Some (list next)) pages None
              → AreKeyedPages next false pages) → (full : Bool)
              → (length has.members == 100) ≡ full → ArePages o moment (option_map (λ y. list (Some (key y))) (last_of_full has.members))
              pages None → AreKeyedPages at named (page ∷ pages)
          by_length has again true full behind =
              let left : last_of_full has.members ≡ slice_get has.members (length has.members - 1) =
              ap (λ b. if b then slice_get has.members (length has.members - 1) else None) full in
              by_last has again _ (eqb-true _ 100 full) refl (subst
              (λ (last : Option Y). ArePages o moment (option_map (λ y. list (Some (key y))) last) pages None) left behind)
          by_length has again false short behind =
              let left : last_of_full has.members ≡ None = ap (λ b. if b then slice_get has.members (length has.members - 1) else None) short in
              let none = no_page_more o moment pages (subst (λ (last : Option Y). ArePages o moment
              (option_map (λ y. list (Some (key y))) last) pages None) left behind) in
              record {
                members = has.members;
                each = has.each;
                all = short_page (unwrap_or at []) (map key has.members) has.first (λ e. eqb-false _ 100 short (sym (length-map has.members key) ∙ e));
                text_is = ap (λ l. l ++ flat_map (page_text false false) pages) (has.text_is named) ∙ ap (λ l. text named has.members ++ l) none ∙ append-nil _;
              }

-- ---- tariffs and meters

lines_law : {Y : Type 0} (names : List Text) (lines : Y → Text) (named : Bool) (front back : List Y)
    → table_text named names (flat_map lines (front ++ back)) ≡ table_text named names (flat_map lines front) ++ table_text false names (flat_map lines back)
lines_law names lines named front back =
    let header = if named then table_row_of names else [] in
    ap (λ l. header ++ l) (flat_map-append lines front back) ∙ sym (append_assoc header (flat_map lines front) (flat_map lines back))

tariffs_read : (o : Office) (moment : ℕ) (at : Option Text) (page : Found) → Finds o moment (lookups.Tariffs at) (Ok page)
    → IsKeyedPage (λ t. t.name) (λ name. IsSome (o.tariffs name)) (IsListedTariff o (day_at moment)) whole_tariffs_text
    (lines_law tariff_names tariff_lines) o moment lookups.Tariffs at page
tariffs_read o moment at (found.Tariffs page) are = record { members = page.items; each = are.each; first = are.first; text_is = λ named. refl; behind = refl }
tariffs_read o moment at page none = absurd none

-- the pages of a list of tariffs print all tariffs after a name, each once
pub whole_tariffs : (o : Office) (moment : ℕ) (after : Option Text) (pages : List Found) → ArePages o moment (Some (lookups.Tariffs after)) pages None
    → (tariffs : List ListedTariff) × AreAllTariffs o (day_at moment) (unwrap_or after []) tariffs × (pages_text false pages ≡ whole_tariffs_text true tariffs)
whole_tariffs o moment after pages are =
    let all = whole_list (λ t. t.name) (λ name. IsSome (o.tariffs name)) (IsListedTariff o (day_at moment)) whole_tariffs_text
    (lines_law tariff_names tariff_lines) o moment lookups.Tariffs (tariffs_read o moment) pages true after are in
    (all.members, record { each = all.each; all = all.all }, from_first pages ∙ all.text_is)

meters_read : (o : Office) (moment : ℕ) (at : Option Text) (page : Found) → Finds o moment (lookups.Meters at) (Ok page)
    → IsKeyedPage (λ m. m.number) (λ number. IsSome (o.meters number)) (IsListedMeter o) whole_meters_text
    (lines_law meter_names meter_line) o moment lookups.Meters at page
meters_read o moment at (found.Meters page) are = record { members = page.items; each = are.each; first = are.first; text_is = λ named. refl; behind = refl }
meters_read o moment at page none = absurd none

-- the pages of a list of meters print all meters after a number, each once
pub whole_meters : (o : Office) (moment : ℕ) (after : Option Text) (pages : List Found) → ArePages o moment (Some (lookups.Meters after)) pages None
    → (meters : List ListedMeter) × AreAllMeters o (unwrap_or after []) meters × (pages_text false pages ≡ whole_meters_text true meters)
whole_meters o moment after pages are =
    let all = whole_list (λ m. m.number) (λ number. IsSome (o.meters number)) (IsListedMeter o) whole_meters_text
    (lines_law meter_names meter_line) o moment lookups.Meters (meters_read o moment) pages true after are in
    (all.members, record { each = all.each; all = all.all }, from_first pages ∙ all.text_is)
