-- Which of the tokens sold a new meter accepts, and the credit that they make.
use Rattle.std.proofs.Common.{◌≡◌, ℕ, suc, ◌+◌, ◌*◌, ◌-◌, ◌<◌, ◌≤◌, ◌^◌, ◌↔◌, Bool, true, false, cond, eqb, ltb, ◌&&◌, List, [], ◌∷◌, ◌++◌, map, filter, sum, count_by, inl, inr, refl, sym, ◌∙◌, ap, subst, arith}
use Rattle.std.specs.Prelude.{All, Contains}
use Rattle.std.specs.List.{AllByRecursion, sum_by}
use Rattle.std.proofs.lemmas.Bool.{cases_Bool, eqb-true, false_from_ne_true, false≢true, ltb-true, or_cases}
use Rattle.std.proofs.lemmas.Bool.Decides.{nat_tests}
use Rattle.std.proofs.lemmas.List.Elements.{All-contains_itself, All-weaker, Contains-append_left, Contains-append_right, recursion_from_All}
use Rattle.std.proofs.lemmas.List.Sums.{sum_by-cons, sum_by-le-sum_by}
use Rattle.sts_fields.specs.Amount.{IsRepresentable}
use Rattle.sts_token.specs.Fields.{AreFields, TokenFields}
use Rattle.sts_token.specs.Meter.{Accepts, Entry, Reader, Taken, credit_of, entered, is_member, taken_over}
use Rattle.sts_token.specs.Sold.{AreSold, later_come, sold_accepted, tid_of}
use Rattle.sts_token.proofs.MeterLemmas.{IsNew, accepted_from_new, new_from_accepted}
use Rattle.sts_token.proofs.SoldLemmas.{Follows, IsIn, IsReadAs, Rises, comes, each, follows, holds_at, is_in, rises, weight}

-- ---- which identifiers came
contains : (f : TokenFields) (came : List TokenFields) → IsIn f came → Contains came f
unfolding IsIn
contains f [] i = absurd i
contains f (g ∷ came) (inl same) = (0, omega arith, same)
contains f (g ∷ came) (inr i) =
    let there = contains f came i in (suc there.0, omega (arith, there.1), there.2)

-- an identifier that came is that of a token that came
token_of_tid : (came : List TokenFields) (t : ℕ) → is_member (map tid_of came) t ≡ true
    → (g : TokenFields) × IsIn g came × (t ≡ g.tid)
unfolding IsIn
token_of_tid [] t h = absurd (false≢true h)
token_of_tid (g ∷ came) t h =
    elim (or_cases (eqb t g.tid) (is_member (map tid_of came) t) h) [
      | inl same ↦ (g, inl refl, eqb-true t g.tid same)
      | inr later ↦ let there = token_of_tid came t later in (there.0, inr there.1, there.2)
    ]

same_sold : (f g : TokenFields) (sold : List TokenFields) → Rises sold → IsIn f sold → IsIn g sold
    → f.tid ≡ g.tid → f ≡ g
unfolding Rises IsIn
same_sold f g [] rising i j same = absurd i
same_sold f g (h ∷ sold) rising (inl a) (inl b) same = sym a ∙ b
same_sold f g (h ∷ sold) rising (inl a) (inr j) same =
    let below : h.tid < g.tid = holds_at (λ k. h.tid < k.tid) g sold rising.0 j in
    absurd (omega (arith, below, same, ap tid_of a))
same_sold f g (h ∷ sold) rising (inr i) (inl b) same =
    let below : h.tid < f.tid = holds_at (λ k. h.tid < k.tid) f sold rising.0 i in
    absurd (omega (arith, below, same, ap tid_of b))
same_sold f g (h ∷ sold) rising (inr i) (inr j) same = same_sold f g sold rising.1 i j same

tid_not_came : (sold came : List TokenFields) (f : TokenFields) → AreSold sold
    → All (Contains sold) came → Contains sold f → ¬ Contains came f
    → is_member (map tid_of came) f.tid ≡ false
tid_not_came sold came f are all there not_came =
    false_from_ne_true (is_member (map tid_of came) f.tid) (λ h.
    let g = token_of_tid came f.tid h in
    let sold_too =
    holds_at (Contains sold) g.0 came (recursion_from_All (Contains sold) came all) g.1 in
    let same : f ≡ g.0 = same_sold f g.0 sold (rises sold are.rising) (is_in f sold there) (is_in g.0 sold sold_too) g.2 in
    not_came (subst (λ (k : TokenFields). Contains came k) (sym same) (contains g.0 came g.1)))

-- ---- how many greater ones were accepted
count_below : (t u : ℕ) (tids : List ℕ) → t < u → count_by (ltb u) tids ≤ count_by (ltb t) tids
count_below t u tids h =
    sum_by-le-sum_by (λ x. cond (ltb u x) 1 0) (λ x. cond (ltb t x) 1 0) tids
    (λ x. grind (arith, nat_tests))

taken_le_came : (taken greater came : Bool) → (taken ≡ true → came ≡ true)
    → cond taken (cond greater 1 0) 0 ≤ cond (greater && came) 1 0
taken_le_came false greater came h = omega arith
taken_le_came true false came h = omega arith
taken_le_came true true false h = absurd (false≢true (h refl))
taken_le_came true true true h = omega arith

came_le_taken : (taken greater came : Bool) → (greater ≡ true → came ≡ true → taken ≡ true)
    → cond (greater && came) 1 0 ≤ cond taken (cond greater 1 0) 0
came_le_taken taken false came h = omega arith
came_le_taken taken true false h = omega arith
came_le_taken true true true h = omega arith
came_le_taken false true true h = absurd (false≢true (h refl refl))

-- the greater ones taken are among the greater ones that came
greater_taken : (sold came : List TokenFields) (f : TokenFields) (taken : Taken)
    → Follows sold (map tid_of came) taken
    → count_by (ltb f.tid) taken.tids ≤ later_come sold came f
unfolding weight
greater_taken sold came f taken follows =
    let le = sum_by-le-sum_by (weight (λ g. cond (ltb f.tid g.tid) 1 0) taken.tids) (λ g. cond (ltb f.tid g.tid && is_member (map tid_of came) g.tid) 1 0) sold
    (λ g. taken_le_came (is_member taken.tids g.tid) (ltb f.tid g.tid)
    (is_member (map tid_of came) g.tid) (follows.taken_came g.tid)) in
    omega (arith, follows.counted (ltb f.tid), le)

-- while they are fewer than fifty, each greater one that came is taken
greater_came : (sold came : List TokenFields) (f : TokenFields) (taken : Taken)
    → Follows sold (map tid_of came) taken
    → count_by (ltb f.tid) taken.tids < 50
    → later_come sold came f ≤ count_by (ltb f.tid) taken.tids
unfolding weight
greater_came sold came f taken follows few =
    let le = sum_by-le-sum_by (λ g. cond (ltb f.tid g.tid && is_member (map tid_of came) g.tid) 1 0) (weight (λ g. cond (ltb f.tid g.tid) 1 0) taken.tids) sold
    (λ g. came_le_taken (is_member taken.tids g.tid) (ltb f.tid g.tid)
    (is_member (map tid_of came) g.tid)
    (λ greater there. elim (follows.passed g.tid there) [
      | inl now ↦ now
      | inr many ↦ absurd (omega (arith, many, count_below f.tid g.tid taken.tids (ltb-true f.tid g.tid greater)))
    ])) in
    omega (arith, follows.counted (ltb f.tid), le)

-- a token that has not come yet is accepted exactly if fewer than fifty later ones have come
pub first_entry : (read : Reader) (token : TokenFields
    → List ℕ) (sold came : List TokenFields) (f : TokenFields)
    → IsReadAs read token → AreSold sold → All (Contains sold) came → Contains sold f
    → ¬ Contains came f
    → (Accepts read (map (λ g. entered (token g)) came) (token f) f ↔ (later_come sold came f < 50))
first_entry read token sold came f is are all there not_came =
    let taken = taken_over read (map (λ g. entered (token g)) came) in
    let now = follows read token sold came is are all in
    let f_comes = comes sold are f there in (
      λ accepts.
          let new = new_from_accepted taken.tids f.tid accepts.answer in
          omega (arith, new.few_greater, greater_came sold came f taken now new.few_greater),
      λ few.
          let le = greater_taken sold came f taken now in
          let not_taken : is_member taken.tids f.tid ≡ false =
          false_from_ne_true (is_member taken.tids f.tid)
          (λ h. false≢true (sym (tid_not_came sold came f are all there not_came)
          ∙ now.taken_came f.tid h)) in
          let new : IsNew taken.tids f.tid = record {
            few_greater = omega (arith, le, few);
            above_zero = let a = f_comes.above in
                omega arith;
            not_taken = not_taken;
          } in
          record { reads = is.reads f f_comes.fields; answer = accepted_from_new taken.tids f.tid new },
    )

-- ---- in order
in_later : (f : TokenFields) (earlier later : List TokenFields) → IsIn f (earlier ++ f ∷ later)
unfolding IsIn
in_later f [] later = inl refl
in_later f (g ∷ earlier) later = inr (in_later f earlier later)

earlier_below : (earlier later : List TokenFields) (f : TokenFields) → Rises (earlier ++ f ∷ later)
    → AllByRecursion (λ g. g.tid < f.tid) earlier
unfolding Rises
earlier_below [] later f rising = tt
earlier_below (g ∷ earlier) later f rising = (
  holds_at (λ h. g.tid < h.tid) f (earlier ++ f ∷ later) rising.0 (in_later f earlier later),
  earlier_below earlier later f rising.1,
)

sum_none : (w : TokenFields → ℕ) (sold : List TokenFields) → ((g : TokenFields) → w g ≡ 0)
    → sum_by w sold ≡ 0
sum_none w [] none = refl
sum_none w (g ∷ sold) none = omega (arith, sum_by-cons w g sold, sum_none w sold none, none g)

none_later : (greater came : Bool) → (greater ≡ true → came ≡ true → ⊥)
    → cond {A = ℕ} (greater && came) 1 0 ≡ 0
none_later false came h = refl
none_later true false h = refl
none_later true true h = absurd (h refl refl)

no_later_came : (sold earlier : List TokenFields) (f : TokenFields)
    → AllByRecursion (λ g. g.tid < f.tid) earlier → later_come sold earlier f ≡ 0
no_later_came sold earlier f below =
    sum_none (λ g. cond (ltb f.tid g.tid && is_member (map tid_of earlier) g.tid) 1 0) sold
    (λ g. none_later (ltb f.tid g.tid) (is_member (map tid_of earlier) g.tid)
    (λ greater there.
    let h = token_of_tid earlier g.tid there in
    let under : h.0.tid < f.tid = holds_at (λ k. k.tid < f.tid) h.0 earlier below h.1 in
    omega (arith, ltb-true f.tid g.tid greater, under, h.2)))

-- a token is accepted where just those sold before it were entered, in order
pub in_order : (read : Reader) (token : TokenFields
    → List ℕ) (earlier later : List TokenFields) (f : TokenFields)
    → IsReadAs read token → AreSold (earlier ++ f ∷ later)
    → Accepts read (map (λ g. entered (token g)) earlier) (token f) f
in_order read token earlier later f is are =
    let sold = earlier ++ f ∷ later in
    let below = earlier_below earlier later f (rises sold are.rising) in
    let all = All-weaker (Contains earlier) (Contains sold) (λ g there. Contains-append_left earlier (f ∷ later) g there) earlier
    (All-contains_itself earlier) in
    let there : Contains sold f =
    Contains-append_right earlier (f ∷ later) f (0, omega arith, refl) in
    let not_came : ¬ Contains earlier f = λ c. let under : f.tid < f.tid = holds_at (λ g. g.tid < f.tid) f earlier below (is_in f earlier c) in omega arith in
    let none = no_later_came sold earlier f below in
    (first_entry read token sold earlier f is are all there not_came).1 (omega (arith, none))

-- ---- the credit
sum_by-filter : (w : TokenFields → ℕ) (q : TokenFields → Bool) (sold : List TokenFields)
    → sum_by w (filter q sold) ≡ sum_by (λ g. cond (q g) (w g) 0) sold
sum_by-filter w q [] = refl
sum_by-filter w q (g ∷ sold) =
    let rest = sum_by-filter w q sold in
    let here = sum_by-cons (λ g. cond (q g) (w g) 0) g sold in
    elim (cases_Bool (q g)) [
      | inl passes ↦
          let kept : sum_by w (filter q (g ∷ sold)) ≡ sum_by w (g ∷ filter q sold) =
          ap (λ (b : Bool). sum_by w (cond b (g ∷ filter q sold) (filter q sold))) passes in
          let counts : cond (q g) (w g) 0 ≡ w g = ap (λ (b : Bool). cond b (w g) 0) passes in
          omega (arith, kept, sum_by-cons w g (filter q sold), rest, here, counts)
      | inr fails ↦
          let left : sum_by w (filter q (g ∷ sold)) ≡ sum_by w (filter q sold) =
          ap (λ (b : Bool). sum_by w (cond b (g ∷ filter q sold) (filter q sold))) fails in
          let counts : cond (q g) (w g) 0 ≡ 0 = ap (λ (b : Bool). cond b (w g) 0) fails in
          omega (arith, left, rest, here, counts)
    ]

-- what the crate of the amounts promises of the greatest one
abbrev Greatest : Type 0
Greatest = (t : ℕ) → IsRepresentable t → t ≤ 18201624

-- identifiers that rise within 24 bits are fewer than 2 ^ 24, and each carries at most the greatest
-- amount
sum_bound : Greatest → (low : ℕ) (sold : List TokenFields) → low ≤ 2 ^ 24 → Rises sold
    → AllByRecursion AreFields sold → AllByRecursion (λ f. low ≤ f.tid) sold
    → sum_by (λ f. f.tenths) sold + low * 18201624 ≤ 2 ^ 24 * 18201624
unfolding Rises
sum_bound greatest low [] small rising fields above = omega arith
sum_bound greatest low (f ∷ sold) small rising fields above =
    let within = fields.0.tid in
    let rest = sum_bound greatest (suc f.tid) sold (omega arith) rising.1 fields.1
    (each (λ g. f.tid < g.tid) (λ g. suc f.tid ≤ g.tid) (λ g h. omega arith) sold rising.0) in
    omega (
      arith,
      sum_by-cons (λ f. f.tenths) f sold,
      rest,
      greatest f.tenths fields.0.tenths,
      above.0,
    )

-- the amounts of all tokens sold add to less than the credit can hold
pub below_bound : Greatest → (sold : List TokenFields) → AreSold sold
    → sum_by (λ f. f.tenths) sold < 2 ^ 64 - 1
below_bound greatest sold are =
    let all = sum_bound greatest 0 sold (omega arith) (rises sold are.rising) (recursion_from_All AreFields sold are.fields)
    (each AreFields (λ f. 0 ≤ f.tid) (λ g h. omega arith) sold
    (recursion_from_All AreFields sold are.fields)) in
    omega (arith, all)

-- what was accepted of the tokens sold
total_accepted : (read : Reader) (token : TokenFields → List ℕ) (sold came : List TokenFields)
    → IsReadAs read token → AreSold sold → All (Contains sold) came
    → sum (taken_over read (map (λ f. entered (token f)) came)).amounts
    ≡ sum_by (λ f. f.tenths) (sold_accepted read (map (λ f. entered (token f)) came) sold)
unfolding weight
total_accepted read token sold came is are all =
    let history = map (λ f. entered (token f)) came in
    (follows read token sold came is are all).summed
    ∙ sym (sum_by-filter (λ f. f.tenths) (λ f. is_member (taken_over read history).tids f.tid) sold)

weight_le : (b : Bool) (n : ℕ) → cond b n 0 ≤ n
weight_le true n = omega arith
weight_le false n = omega arith

accepted_le_sold : (read : Reader) (history : List Entry) (sold : List TokenFields)
    → sum_by (λ f. f.tenths) (sold_accepted read history sold) ≤ sum_by (λ f. f.tenths) sold
accepted_le_sold read history sold =
    let kept =
    sum_by-filter (λ f. f.tenths) (λ f. is_member (taken_over read history).tids f.tid) sold in
    let le = sum_by-le-sum_by (λ f. cond (is_member (taken_over read history).tids f.tid) f.tenths 0) (λ f. f.tenths) sold
    (λ f. weight_le (is_member (taken_over read history).tids f.tid) f.tenths) in
    omega (arith, kept, le)

-- the credit is what the accepted tokens carry, all added
pub credit_is_sum : Greatest
    → (read : Reader) (token : TokenFields → List ℕ) (sold came : List TokenFields)
    → IsReadAs read token → AreSold sold → All (Contains sold) came
    → credit_of read (map (λ f. entered (token f)) came)
    ≡ sum_by (λ f. f.tenths) (sold_accepted read (map (λ f. entered (token f)) came) sold)
credit_is_sum greatest read token sold came is are all =
    let total = total_accepted read token sold came is are all in
    let le = accepted_le_sold read (map (λ f. entered (token f)) came) sold in
    let bound = below_bound greatest sold are in
    omega (arith, total, le, bound)

-- the credit is no more than what all tokens sold carry
pub credit_at_most_sold : Greatest
    → (read : Reader) (token : TokenFields → List ℕ) (sold came : List TokenFields)
    → IsReadAs read token → AreSold sold → All (Contains sold) came
    → credit_of read (map (λ f. entered (token f)) came) ≤ sum_by (λ f. f.tenths) sold
credit_at_most_sold greatest read token sold came is are all =
    let credit = credit_is_sum greatest read token sold came is are all in
    let le = accepted_le_sold read (map (λ f. entered (token f)) came) sold in
    omega (arith, credit, le)
