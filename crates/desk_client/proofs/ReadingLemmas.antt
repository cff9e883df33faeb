-- The values of a text, one after another.
use Rattle.std.proofs.Common.{◌≡◌, ◌≢◌, ◌∙◌, ℕ, zero, suc, ◌+◌, ◌<◌, ◌≤◌, List, [], ◌∷◌, ◌++◌, length, get_or, set, drop, map, take, refl, ap, sym, arith, drop-cons, length-drop, length-take, length-set}
use Rattle.std.specs.Borrow.{Bor}
use Rattle.std.specs.List.{AllByRecursion}
use Rattle.std.specs.Prelude.{All}
use Rattle.std.proofs.lemmas.List.Elements.{All-map, recursion_from_All}
use Rattle.std.proofs.lemmas.List.{append_cancel_left, take-append-drop, take_all, take_more, take_more_set}
use Rattle.records.specs.Record.{now}
use Rattle.desk_client.specs.Text.{BeginsWithStop, LackStops, LacksStop, woven}
use Rattle.desk_client.proofs.WovenLemmas.{left_of, woven-more}

-- so many of the values were read, and the rest is left
pub record Stands (text front : List ℕ) (values ends : List (List ℕ)) (i : ℕ) (rest : List ℕ) : Type 0 where
  pub len : length values ≡ 13
  pub free : LackStops values
  pub is_so : text ≡ front ++ woven (take i values) (take i ends) rest

-- each end begins with a stop
pub all_begin : (ends : List (Bor (List ℕ))) → All (λ end. BeginsWithStop (now end)) ends → AllByRecursion BeginsWithStop (map now ends)
all_begin ends stops = recursion_from_All BeginsWithStop (map now ends) (All-map BeginsWithStop now ends stops)

set-free : (vs : List (List ℕ)) (i : ℕ) (v : List ℕ) → LackStops vs → LacksStop v → LackStops (set vs i v)
set-free [] i v free lacks = free
set-free (w ∷ vs) zero v free lacks = (lacks, free.1)
set-free (w ∷ vs) (suc i) v free lacks = (free.0, set-free vs i v free.1 lacks)

take-all : (P : List ℕ → Type 0) (xs : List (List ℕ)) (i : ℕ) → AllByRecursion P xs → AllByRecursion P (take i xs)
take-all P [] zero all = all
take-all P [] (suc i) all = all
take-all P (x ∷ xs) zero all = tt
take-all P (x ∷ xs) (suc i) all = (all.0, take-all P xs i all.1)

same_lengths : (values ends : List (List ℕ)) (i : ℕ) → length values ≡ 13 → length ends ≤ 13 → i ≤ length ends → length (take i values) ≡ length (take i ends)
same_lengths values ends i len few within = omega (arith, length-take i values, length-take i ends)

-- one value more
pub stands-more : (text front : List ℕ) (values ends : List (List ℕ)) (i : ℕ) (rest v end behind : List ℕ)
    → Stands text front values ends i rest → length ends ≤ 13 → i < length ends → end ≡ get_or ends i [] → LacksStop v
    → rest ≡ v ++ (end ++ behind) → Stands text front (set values i v) ends (i + 1) behind
stands-more text front values ends i rest v end behind stands few inside is lacks found = record {
  len = length-set values i v ∙ stands.len;
  free = set-free values i v stands.free lacks;
  is_so =
      let there : i < length values = omega (arith, stands.len) in
      stands.is_so ∙ ap (λ (r : List ℕ). front ++ r) (
      ap (woven (take i values) (take i ends)) (found ∙ ap (λ (e : List ℕ). v ++ (e ++ behind)) is)
      ∙ sym (woven-more (take i values) (take i ends) v (get_or ends i []) behind (same_lengths values ends i stands.len few (omega arith)))
      ∙ ap (λ (vs : List (List ℕ)). woven vs (take i ends ++ get_or ends i [] ∷ []) behind) (sym (take_more_set values i v there))
      ∙ ap (λ (es : List (List ℕ)). woven (take (i + 1) (set values i v)) es behind) (sym (take_more ends i [] inside)));
}

-- what any reading of the text has behind those
left : (text front : List ℕ) (values ends : List (List ℕ)) (i : ℕ) (rest : List ℕ) → Stands text front values ends i rest
    → length ends ≤ 13 → i ≤ length ends → AllByRecursion BeginsWithStop ends
    → (ws : List (List ℕ)) (more : List ℕ) → length ws ≡ length ends → LackStops ws → text ≡ front ++ woven ws ends more
    → (xs : List (List ℕ)) × (length xs ≡ length (drop i ends)) × LackStops xs × (rest ≡ woven xs (drop i ends) more)
left text front values ends i rest stands few within begin ws more all free same =
    let split : take i ends ++ drop i ends ≡ ends = take-append-drop i ends in
    left_of (take i values) (take i ends) (drop i ends) rest ws more
    (same_lengths values ends i stands.len few within) (all ∙ sym (ap length split))
    (take-all BeginsWithStop ends i begin) (take-all LacksStop values i stands.free) free
    (append_cancel_left front _ _ (sym stands.is_so ∙ same ∙ ap (λ (es : List (List ℕ)). front ++ woven ws es more) (sym split)))

-- where no value follows, no such values stand at the front of the text
pub none_more : (text front : List ℕ) (values ends : List (List ℕ)) (i : ℕ) (rest end : List ℕ) → Stands text front values ends i rest
    → length ends ≤ 13 → i < length ends → AllByRecursion BeginsWithStop ends → end ≡ get_or ends i []
    → ((v r : List ℕ) → LacksStop v → rest ≢ v ++ (end ++ r))
    → (ws : List (List ℕ)) (more : List ℕ) → length ws ≡ length ends → LackStops ws → text ≢ front ++ woven ws ends more
none_more text front values ends i rest end stands few inside begin is none ws more all free same =
    let found = left text front values ends i rest stands few (omega arith) begin ws more all free same in
    by_values found.0 found.1 found.2 found.3
  where
    by_values : (xs : List (List ℕ)) → length xs ≡ length (drop i ends) → LackStops xs → rest ≡ woven xs (drop i ends) more → ⊥
    by_values [] len lacks is_left = omega (arith, len, length-drop i ends)
    by_values (x ∷ xs) len lacks is_left =
        none x (woven xs (drop (suc i) ends) more) lacks.0
        (is_left ∙ ap (λ (es : List (List ℕ)). woven (x ∷ xs) es more) (drop-cons ends i [] inside)
        ∙ ap (λ (e : List ℕ). x ++ (e ++ woven xs (drop (suc i) ends) more)) (sym is))

-- values past the last end are not told
pub cut_off : (vs es : List (List ℕ)) (i : ℕ) (r : List ℕ) → length es ≤ i → woven (take i vs) es r ≡ woven vs es r
cut_off [] es zero r long = refl
cut_off [] es (suc i) r long = refl
cut_off (v ∷ vs) [] zero r long = refl
cut_off (v ∷ vs) [] (suc i) r long = refl
cut_off (v ∷ vs) (e ∷ es) zero r long = absurd (omega (arith, long))
cut_off (v ∷ vs) (e ∷ es) (suc i) r long = ap (λ (b : List ℕ). v ++ (e ++ b)) (cut_off vs es i r (omega (arith, long)))

-- all of them were read
pub are_all : (text front : List ℕ) (values ends : List (List ℕ)) (i : ℕ) (rest : List ℕ) → Stands text front values ends i rest
    → length ends ≤ i → LackStops values × (text ≡ front ++ woven values ends rest)
are_all text front values ends i rest stands long = (
  stands.free,
  stands.is_so ∙ ap (λ (b : List ℕ). front ++ b) (
      ap (λ (es : List (List ℕ)). woven (take i values) es rest) (take_all i ends long)
      ∙ cut_off values ends i rest long),
)
