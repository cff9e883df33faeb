-- Tokens that were sold come to a new meter in any order: what it has taken then.
use Rattle.std.proofs.Common.{◌≡◌, ◌≢◌, ℕ, zero, suc, ◌+◌, ◌<◌, ◌≤◌, Bool, true, false, cond, eqb, ltb, ◌||◌, List, [], ◌∷◌, ◌++◌, map, Ok, sum, count_by, ◌⊎◌, inl, inr, refl, sym, ◌∙◌, ap, subst, arith}
use Rattle.std.specs.Prelude.{All, AllPairs, Contains, ⊤}
use Rattle.std.specs.List.{AllByRecursion, fold, sum_by}
use Rattle.std.proofs.lemmas.Bool.{eq-eqb, eqb-true, false≢true, or_cases, or_left, or_right}
use Rattle.std.proofs.lemmas.List.{append-nil, append_assoc, map-append}
use Rattle.std.proofs.lemmas.List.Elements.{All-contains, recursion_from_All}
use Rattle.std.proofs.lemmas.List.Folds.{list_any-append}
use Rattle.std.proofs.lemmas.List.Sums.{sum_by-cons}
use Rattle.sts_token.specs.Fields.{AreFields, TokenFields}
use Rattle.sts_token.specs.Meter.{Reader, Taken, TidAnswer, accepted, after_entry, after_reading, answer_to, answered, entered, is_member, old, taken_over, used}
use Rattle.sts_token.specs.Sold.{AreSold, tid_of}
use Rattle.sts_token.proofs.MeterLemmas.{IsNew, among_cons, among_first, among_from_used, among_other, greater_from_old, new_from_accepted}

-- ---- lists by recursion
-- each identifier is below those after it
unfoldable pub Rises : List TokenFields → Type 0
Rises [] = ⊤
Rises (f ∷ sold) = AllByRecursion (λ g. f.tid < g.tid) sold × Rises sold

-- a token is one of a list
unfoldable pub IsIn : TokenFields → List TokenFields → Type 0
IsIn f [] = ⊥
IsIn f (g ∷ sold) = (g ≡ f) ⊎ IsIn f sold

-- a token at some place of a list is one of it
pub is_in : (f : TokenFields) (sold : List TokenFields) → Contains sold f → IsIn f sold
unfolding IsIn
is_in f [] (k, within, at) = absurd (omega arith)
is_in f (g ∷ sold) (zero, within, at) = inl at
is_in f (g ∷ sold) (suc k, within, at) = inr (is_in f sold (k, omega arith, at))

-- where each identifier is below each later one, the list rises
pub rises : (sold : List TokenFields) → AllPairs (λ f g. f.tid < g.tid) sold → Rises sold
unfolding Rises
rises [] p = tt
rises (f ∷ sold) p = (
  recursion_from_All (λ g. f.tid < g.tid) sold (λ k d h. p 0 (suc k) d (omega arith) (omega arith)),
  rises sold (λ i j d below within. p (suc i) (suc j) d (omega arith) (omega arith)),
)

-- what holds of all holds of each
pub holds_at : (P : TokenFields → Type 0) (f : TokenFields) (sold : List TokenFields)
    → AllByRecursion P sold → IsIn f sold → P f
unfolding IsIn
holds_at P f [] all i = absurd i
holds_at P f (g ∷ sold) all (inl same) = subst P same all.0
holds_at P f (g ∷ sold) all (inr i) = holds_at P f sold all.1 i

-- ---- sums over those sold
sum_same : (v w : TokenFields → ℕ) (sold : List TokenFields) → AllByRecursion (λ g. v g ≡ w g) sold
    → sum_by v sold ≡ sum_by w sold
sum_same v w [] all = refl
sum_same v w (g ∷ sold) all =
    omega (arith, sum_by-cons v g sold, sum_by-cons w g sold, sum_same v w sold all.1, all.0)

-- what holds of all still does in a weaker form
pub each : (P : TokenFields → Type 0) (Q : TokenFields → Type 0) → ((g : TokenFields) → P g → Q g)
    → (sold : List TokenFields) → AllByRecursion P sold → AllByRecursion Q sold
each P Q step [] all = tt
each P Q step (g ∷ sold) all = (step g all.0, each P Q step sold all.1)

-- the weight of a token that is among the taken
unfoldable pub weight : (TokenFields → ℕ) → List ℕ → TokenFields → ℕ
weight w tids g = cond (is_member tids g.tid) (w g) 0

weight_other : (w : TokenFields → ℕ) (u : ℕ) (tids : List ℕ) (g : TokenFields) → g.tid ≢ u
    → weight w (u ∷ tids) g ≡ weight w tids g
unfolding weight
weight_other w u tids g other = ap (λ (b : Bool). cond b (w g) 0) (among_other u tids g.tid other)

weight_gained : (w : TokenFields → ℕ) (f : TokenFields) (tids : List ℕ) → is_member tids f.tid
    ≡ false → weight w (f.tid ∷ tids) f ≡ weight w tids f + w f
unfolding weight
weight_gained w f tids none =
    let now = ap (λ (b : Bool). cond b (w f) 0) (among_first f.tid tids) in
    let before = ap (λ (b : Bool). cond b (w f) 0) none in
    omega arith

-- a token that was sold is taken: the sum over the taken gains its weight, once
gained : (w : TokenFields → ℕ) (f : TokenFields) (tids : List ℕ) (sold : List TokenFields)
    → Rises sold → IsIn f sold → is_member tids f.tid ≡ false
    → sum_by (weight w (f.tid ∷ tids)) sold ≡ sum_by (weight w tids) sold + w f
unfolding Rises IsIn
gained w f tids [] rising i none = absurd i
gained w f tids (g ∷ sold) rising (inl same) none =
    let above : AllByRecursion (λ h. f.tid < h.tid) sold =
    subst (λ (k : TokenFields). AllByRecursion (λ h. k.tid < h.tid) sold) same rising.0 in
    let rest = sum_same (weight w (f.tid ∷ tids)) (weight w tids) sold
    (each (λ h. f.tid < h.tid) (λ h. weight w (f.tid ∷ tids) h ≡ weight w tids h)
    (λ h above. weight_other w f.tid tids h (omega arith)) sold above) in
    let here = subst (λ (k : TokenFields). weight w (f.tid ∷ tids) k ≡ weight w tids k + w f) (sym same) (weight_gained w f tids none) in
    omega (arith, sum_by-cons (weight w (f.tid ∷ tids)) g sold, sum_by-cons (weight w tids) g sold)
gained w f tids (g ∷ sold) rising (inr i) none =
    let below : g.tid < f.tid = holds_at (λ h. g.tid < h.tid) f sold rising.0 i in
    let here = weight_other w f.tid tids g (omega arith) in
    let rest = gained w f tids sold rising.1 i none in
    omega (arith, sum_by-cons (weight w (f.tid ∷ tids)) g sold, sum_by-cons (weight w tids) g sold)

-- ---- what a meter has taken, where the tokens that came were sold
pub record Follows (sold : List TokenFields) (came : List ℕ) (taken : Taken) : Type 0 where
  pub taken_came : (t : ℕ) → is_member taken.tids t ≡ true → is_member came t ≡ true
  pub counted : (p : ℕ → Bool) → count_by p taken.tids
      ≡ sum_by (weight (λ g. cond (p g.tid) 1 0) taken.tids) sold
  pub passed : (t : ℕ) → is_member came t ≡ true
      → (is_member taken.tids t ≡ true) ⊎ (50 ≤ count_by (ltb t) taken.tids)
  pub summed : sum taken.amounts ≡ sum_by (weight (λ g. g.tenths) taken.tids) sold

none_taken : (w : TokenFields → ℕ) (sold : List TokenFields) → sum_by (weight w []) sold ≡ 0
unfolding weight
none_taken w [] = refl
none_taken w (g ∷ sold) = omega (arith, sum_by-cons (weight w []) g sold, none_taken w sold)

follows_none : (sold : List TokenFields) → Follows sold [] (record { tids = []; amounts = [] })
follows_none sold =
    record {
      taken_came = λ t h. absurd (false≢true h);
      counted = λ p. sym (none_taken (λ g. cond (p g.tid) 1 0) sold);
      passed = λ t h. absurd (false≢true h);
      summed = sym (none_taken (λ g. g.tenths) sold);
    }

-- one more came: it is the last one or one of the earlier ones
push_among : (came : List ℕ) (u t : ℕ) → is_member (came ++ u ∷ []) t
    ≡ (is_member came t || (eqb t u || false))
push_among came u t = list_any-append (eqb t) came (u ∷ [])

among_push : (came : List ℕ) (u t : ℕ) → is_member (came ++ u ∷ []) t ≡ true
    → (is_member came t ≡ true) ⊎ (t ≡ u)
among_push came u t h =
    elim (or_cases (is_member came t) (eqb t u || false) (sym (push_among came u t) ∙ h)) [
      | inl earlier ↦ inl earlier
      | inr last ↦ inr (elim (or_cases (eqb t u) false last) [ inl same ↦ eqb-true t u same | inr none ↦ absurd (false≢true none) ])
    ]

push_earlier : (came : List ℕ) (u t : ℕ) → is_member came t ≡ true → is_member (came ++ u ∷ []) t
    ≡ true
push_earlier came u t h = push_among came u t ∙ or_left (is_member came t) (eqb t u || false) h

push_last : (came : List ℕ) (t : ℕ) → is_member (came ++ t ∷ []) t ≡ true
push_last came t =
    push_among came t t
    ∙ or_right (is_member came t) (eqb t t || false) (or_left (eqb t t) false (eq-eqb t t refl))

-- an accepted token is among the taken, and the greater ones stay as many or gain one
follows_accepted : (sold : List TokenFields) (came : List ℕ) (taken : Taken) (f : TokenFields)
    → Follows sold came taken → Rises sold → IsIn f sold → IsNew taken.tids f.tid
    → Follows sold (came ++ f.tid ∷ []) (answered taken f accepted)
follows_accepted sold came taken f follows rising i new =
    record {
      taken_came = λ t h.
          elim (or_cases (eqb t f.tid) (is_member taken.tids t) h) [
            | inl same ↦ subst (λ (u : ℕ). is_member (came ++ f.tid ∷ []) u ≡ true) (sym (eqb-true t f.tid same)) (push_last came f.tid)
            | inr earlier ↦ push_earlier came f.tid t (follows.taken_came t earlier)
          ];
      counted = λ p.
          let w : TokenFields → ℕ = λ g. cond (p g.tid) 1 0 in
          let more = gained w f taken.tids sold rising i new.not_taken in
          let count : count_by p (f.tid ∷ taken.tids) ≡ cond (p f.tid) 1 0 + count_by p taken.tids =
          sum_by-cons (λ t. cond (p t) 1 0) f.tid taken.tids in
          omega (arith, count, more, follows.counted p);
      passed = λ t h.
          let count : count_by (ltb t) (f.tid ∷ taken.tids) ≡ cond (ltb t f.tid) 1 0 + count_by (ltb t) taken.tids =
          sum_by-cons (λ u. cond (ltb t u) 1 0) f.tid taken.tids in
          elim (among_push came f.tid t h) [
            | inl earlier ↦ elim (follows.passed t earlier) [
              | inl there ↦ inl (among_cons f.tid taken.tids t there)
              | inr greater ↦ inr (omega (arith, count, greater))
            ]
            | inr last ↦ inl (subst (λ (u : ℕ). is_member (f.tid ∷ taken.tids) u ≡ true) (sym last) (among_first f.tid taken.tids))
          ];
      summed =
          let more = gained (λ g. g.tenths) f taken.tids sold rising i new.not_taken in
          let total : sum (f.tenths ∷ taken.amounts) ≡ f.tenths + sum taken.amounts =
          sum_by-cons (λ (x : ℕ). x) f.tenths taken.amounts in
          omega (arith, total, more, follows.summed);
    }

-- a token that is not accepted leaves the taken as they are, and is among them or passed by fifty
follows_refused : (sold : List TokenFields) (came : List ℕ) (taken : Taken) (f : TokenFields)
    → Follows sold came taken
    → (is_member taken.tids f.tid ≡ true) ⊎ (50 ≤ count_by (ltb f.tid) taken.tids)
    → Follows sold (came ++ f.tid ∷ []) taken
follows_refused sold came taken f follows why =
    record {
      taken_came = λ t h. push_earlier came f.tid t (follows.taken_came t h);
      counted = follows.counted;
      passed = λ t h.
          elim (among_push came f.tid t h) [
            | inl earlier ↦ follows.passed t earlier
            | inr last ↦ subst (λ (u : ℕ). (is_member taken.tids u ≡ true) ⊎ (50 ≤ count_by (ltb u) taken.tids)) (sym last) why
          ];
      summed = follows.summed;
    }

follows_answer : (sold : List TokenFields) (came : List ℕ) (taken : Taken) (f : TokenFields)
    (a : TidAnswer)
    → Follows sold came taken → Rises sold → IsIn f sold → 1 ≤ f.tid
    → answer_to taken.tids f.tid ≡ a
    → Follows sold (came ++ f.tid ∷ []) (answered taken f a)
follows_answer sold came taken f accepted follows rising i above e =
    follows_accepted sold came taken f follows rising i (new_from_accepted taken.tids f.tid e)
follows_answer sold came taken f used follows rising i above e =
    follows_refused sold came taken f follows (inl (among_from_used taken.tids f.tid e above))
follows_answer sold came taken f old follows rising i above e =
    follows_refused sold came taken f follows (inr (greater_from_old taken.tids f.tid e))

-- ---- whole lists: the text of each of the tokens reads as it
pub record IsReadAs (read : Reader) (token : TokenFields → List ℕ) : Type 0 where
  pub reads : (f : TokenFields) → AreFields f → read (token f) ≡ Ok f

-- what is known of each token that comes
pub record Comes (sold : List TokenFields) (f : TokenFields) : Type 0 where
  pub among : IsIn f sold
  pub fields : AreFields f
  pub above : 1 ≤ f.tid

follows_over : (read : Reader) (token : TokenFields
    → List ℕ) (sold came more : List TokenFields) (taken : Taken)
    → IsReadAs read token → Rises sold → AllByRecursion (Comes sold) more
    → Follows sold (map tid_of came) taken
    → Follows sold (map tid_of (came ++ more))
    (fold (after_entry read) taken (map (λ f. entered (token f)) more))
follows_over read token sold came [] taken is rising all follows =
    subst (λ (fs : List TokenFields). Follows sold (map tid_of fs) taken)
    (sym (append-nil came)) follows
follows_over read token sold came (f ∷ more) taken is rising all follows =
    let next = follows_answer sold (map tid_of came) taken f (answer_to taken.tids f.tid) follows rising all.0.among all.0.above refl in
    let came_next : map tid_of (came ++ f ∷ []) ≡ map tid_of came ++ f.tid ∷ [] =
    map-append tid_of came (f ∷ []) in
    let answer : after_reading taken (read (token f)) ≡ answered taken f (answer_to taken.tids f.tid) = ap (after_reading taken) (is.reads f all.0.fields) in
    let at_next =
    subst (λ (ts : List ℕ). Follows sold ts (after_reading taken (read (token f)))) (sym came_next)
    (subst (λ (n : Taken). Follows sold (map tid_of came ++ f.tid ∷ []) n) (sym answer) next) in
    let rest = follows_over read token sold (came ++ f ∷ []) more (after_reading taken (read (token f))) is rising all.1 at_next in
    subst (λ (fs : List TokenFields). Follows sold (map tid_of fs)
    (fold (after_entry read) (after_reading taken (read (token f)))
    (map (λ g. entered (token g)) more)))
    (append_assoc came (f ∷ []) more) rest

-- a token among those sold has its fields in bounds, and an identifier above 0
pub comes : (sold : List TokenFields) → AreSold sold → (f : TokenFields) → Contains sold f
    → Comes sold f
comes sold are f there =
    record {
      among = is_in f sold there;
      fields = All-contains AreFields sold f are.fields there;
      above = All-contains (λ g. 1 ≤ g.tid) sold f are.from_one there;
    }

-- what a new meter has taken follows the tokens that came, whatever their order
pub follows : (read : Reader) (token : TokenFields → List ℕ) (sold came : List TokenFields)
    → IsReadAs read token → AreSold sold → All (Contains sold) came
    → Follows sold (map tid_of came) (taken_over read (map (λ f. entered (token f)) came))
follows read token sold came is are all =
    follows_over read token sold [] came (record { tids = []; amounts = [] }) is (rises sold are.rising)
    (each (Contains sold) (Comes sold) (comes sold are) came
    (recursion_from_All (Contains sold) came all)) (follows_none sold)
