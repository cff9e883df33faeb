-- The last shift of each operator, as shifts are gone through in turn.
use Rattle.std.proofs.Common.{◌≡◌, ◌+◌, ℕ, Bool, true, false, List, Option, Some, None, inl, inr, refl, sym, ap, subst, ◌∙◌, arith, Ordering}
use Rattle.std.specs.Prelude.{MatchOption, bytes_eq, cond, slice_get}
use Rattle.std.specs.BTreeMap.{Updates}
use Rattle.std.specs.Cmp.Lexicographic.{slice_cmp}
use Rattle.std.specs.Ordering.{nat_cmp}
use Rattle.std.proofs.lemmas.Bool.{cases_lt, false≢true}
use Rattle.std.proofs.lemmas.Map.Text.{is_eq-slice_cmp}
use Rattle.std.proofs.lemmas.Option.{none-some, same_Some}
use Rattle.std.proofs.lemmas.Slice.Eq.{bytes_eq-Decides}
use Rattle.office_rules.specs.declared.office.shift.Shift.{Shift}
use Rattle.audit_lists.specs.reached.Lasts.{AreLasts, IsLastOf, LastShifts, NoneBetween, last_shift_under}
use Rattle.audit_lists.proofs.TextLemmas.{text_same}
use denote.Ref.{Bor}

-- names that are lent, in the order of their bytes
abbrev pub text_cmp : Bor (List ℕ) → Bor (List ℕ) → Ordering
text_cmp a b = slice_cmp nat_cmp a.now b.now

-- what is under each text where a place was put
put_last : (m n : LastShifts) (k : Bor (List ℕ)) (at : ℕ) → Updates text_cmp m n k (Some at) → (q : List ℕ) → last_shift_under n q
    ≡ cond (bytes_eq k.now q) (Some at) (last_shift_under m q)
put_last m n k at put q = put.0 (record { ref_ptr = (0, 0); now = q }) ∙ ap (λ (b : Bool). cond b (Some at) (last_shift_under m q)) (is_eq-slice_cmp k.now q)

module _ (shifts : List Shift) (at : ℕ) (s : Shift) (there : slice_get shifts at ≡ Some s) (k : Bor (List ℕ)) (is : k.now ≡ s.operator) (q : List ℕ) where
  -- a shift more that is not the operator's
  none_more : bytes_eq k.now q ≡ false → (from : ℕ) → NoneBetween shifts from at q → NoneBetween shifts from (at + 1) q
  none_more other from none j x low below there_x same = elim (cases_lt j at) [
    | inl before ↦ none j x low before there_x same
    | inr least ↦
        let last : j ≡ at = omega (arith, below, least) in
        let x_is : x ≡ s = same_Some x s (sym there_x ∙ ap (slice_get shifts) last ∙ there) in
        false≢true (sym other ∙ (bytes_eq-Decides k.now q).1 (is ∙ ap (λ (a : Shift). a.operator) (sym x_is) ∙ same))
  ]

  fits : (b : Bool) → bytes_eq k.now q ≡ b → (old now : Option ℕ) → now ≡ cond b (Some at) old
      → MatchOption old (NoneBetween shifts 0 at q) (IsLastOf shifts at q) → MatchOption now (NoneBetween shifts 0 (at + 1) q) (IsLastOf shifts (at + 1) q)
  fits true same old None e was = absurd (none-some at e)
  fits true same old (Some i) e was = subst (IsLastOf shifts (at + 1) q) (sym (same_Some i at e))
      (record {
        shift = s;
        before = omega arith;
        there = there;
        operator_is = sym is ∙ text_same k.now q same;
        after = λ j x from below. absurd (omega (arith, from, below));
      })
  fits false other None None e was = none_more other 0 was
  fits false other None (Some i) e was = absurd (none-some i (sym e))
  fits false other (Some j) None e was = absurd (none-some j e)
  fits false other (Some j) (Some i) e was = subst (IsLastOf shifts (at + 1) q) (sym (same_Some i j e))
      (record {
        shift = was.shift;
        before = (let low = was.before in omega (arith, low));
        there = was.there;
        operator_is = was.operator_is;
        after = none_more other (j + 1) was.after;
      })

-- the places with a shift more
pub lasts_more : (shifts : List Shift) (at : ℕ) (s : Shift) → slice_get shifts at ≡ Some s → (k : Bor (List ℕ)) → k.now ≡ s.operator
    → (m n : LastShifts) → Updates text_cmp m n k (Some at) → AreLasts m shifts at → AreLasts n shifts (at + 1)
lasts_more shifts at s there k is m n put are q = fits shifts at s there k is q (bytes_eq k.now q) refl (last_shift_under m q)
    (last_shift_under n q) (put_last m n k at put q) (are q)

-- what is known of a place by whether a map has one
pub last_some : (shifts : List Shift) (end : ℕ) (q : List ℕ) (i : ℕ) (o : Option ℕ) → o ≡ Some i
    → MatchOption o (NoneBetween shifts 0 end q) (IsLastOf shifts end q) → IsLastOf shifts end q i
last_some shifts end q i None e is = absurd (none-some i e)
last_some shifts end q i (Some j) e is = subst (IsLastOf shifts end q) (same_Some j i e) is

-- where nothing is under a name, no shift so far is that operator's
pub last_none : (shifts : List Shift) (end : ℕ) (q : List ℕ) (o : Option ℕ) → o ≡ None
    → MatchOption o (NoneBetween shifts 0 end q) (IsLastOf shifts end q) → NoneBetween shifts 0 end q
last_none shifts end q None e is = is
last_none shifts end q (Some i) e is = absurd (none-some i (sym e))
