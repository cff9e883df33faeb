-- One sale of an office that a life led to is what the laws of meters and of two offices speak of.
use Rattle.std.proofs.Common.{◌≡◌, ℕ, Bool, cond, true, false, inl, List, [], ◌∷◌, ◌++◌, get_or, length, sym, ◌∙◌, ap, subst, arith}
use Rattle.std.specs.Prelude.{All, Contains, filter, sum_by}
use Rattle.std.proofs.lemmas.List.Elements.{All-cons, All-contains, All-nil}
use Rattle.std.proofs.lemmas.List.Sums.{sum_by-cons}
use Rattle.sts_fields.specs.Text.{Text}
use Rattle.sts_fields.specs.declared.base.Base.{Base}
use Rattle.std.proofs.lemmas.Option.{same_Some}
use Rattle.sts_token.specs.Token.{BlockFunction, IsToken}
use Rattle.office_rules.specs.Law.NewSale.{fields_of}
use Rattle.vend_core.specs.Law.Reached.{HasTokensOf, IsWrittenBy}
use Rattle.office_rules.specs.declared.office.meter.Meter.{Meter}
use Rattle.sts_token.specs.Transform.{IsTransform}
use Rattle.office_rules.specs.Office.{Office, empty_office}
use Rattle.office_rules.proofs.OfficeLemmas.RowLemmas.{contains_first}
use Rattle.vend_core.specs.Law.Apart.{HaveMade}
use Rattle.vend_core.specs.Law.Life.{LeadTo, Life, SellsUnder, WasMadeSince}
use Rattle.office_rules.specs.Law.Growth.{HasGrown}
use Rattle.vend_core.specs.Law.SoldTokens.{AreMadeFor, SimMeter}
use Rattle.core_tests.specs.Lived.{HasSold, IsLived}
use Rattle.core_tests.proofs.LivedLemmas.{leads}
use Rattle.office_rules.specs.declared.office.sale.Sale.{Sale}

module _ (forward : BlockFunction) (number : Text) (key : ℕ) (base : Base) (o : Office) (s : Sale)
    (sold : HasSold forward number key base o s) where
  -- it stands there
  pub there : Contains o.sales s
  there = subst (λ sales. Contains sales s) (sym sold.sales) (contains_first s [])

  made : WasMadeSince empty_office o s
  made = record {
    stands = there;
    new = λ old. absurd (omega (arith, old.1));
  }

  -- a life made it
  pub have_made : HaveMade (sold.lived.life ∷ []) s
  have_made = record {
    start = empty_office;
    office = o;
    begins = sold.begins;
    lead = leads empty_office forward o sold.lived;
    made = made;
  }

  -- the meter of the key
  abbrev pub sim_meter : BlockFunction → SimMeter
  sim_meter inverse = record {
    number = number;
    base = base;
    forward = forward;
    inverse = inverse;
    key = key;
  }

  one : (P : Sale → Type 0) → P s → All P (s ∷ [])
  one P holds = All-cons P s [] holds (All-nil P)

  -- the life is under the transform, and so it sells under it
  pub sells_under : All (SellsUnder forward) (sold.lived.life ∷ [])
  sells_under = All-cons (SellsUnder forward) sold.lived.life [] (λ k d below order asks. sold.lived.forward_is)
      (All-nil (SellsUnder forward))

  -- where each sale has the token of its fields, it has that of the office's key
  pub sold_token : HasTokensOf forward o → IsToken forward key (fields_of s) s.digits
  sold_token have =
      let was = All-contains (IsWrittenBy forward o) o.sales s have there in
      let same : was.meter ≡ sold.has_key.meter =
      same_Some was.meter sold.has_key.meter (sym was.meter_is ∙ ap o.meters sold.to_meter ∙ sold.has_key.meter_is) in
      subst (λ k. IsToken forward k (fields_of s) s.digits) (ap (λ (k : Meter). k.key) same ∙ sold.has_key.key_is) was.token

  -- it is made for the meter that has the office's key
  pub made_for : (inverse : BlockFunction) → IsTransform forward inverse
      → AreMadeFor empty_office (sold.lived.life ∷ []) o (sim_meter inverse) (s ∷ [])
  made_for inverse transform = record {
    begins = sold.begins;
    lead = leads empty_office forward o sold.lived;
    transform = transform;
    under_it = sells_under;
    meter = sold.has_key.meter;
    meter_is = sold.has_key.meter_is;
    key_is = sold.has_key.key_is;
    made = one (WasMadeSince empty_office o) made;
    to_meter = one (λ (s : Sale). s.meter ≡ number) sold.to_meter;
    under = one (λ (s : Sale). s.base ≡ base) sold.under;
    in_order = λ i j d before within. absurd (omega (arith, before, within));
  }

kept_at : (b : Bool) (s : Sale) → Contains (cond b (s ∷ []) []) s
    → sum_by (λ t. t.tenths) (cond b (s ∷ []) []) ≡ s.tenths
kept_at true s there = omega (arith, sum_by-cons (λ (t : Sale). t.tenths) s [])
kept_at false s there = absurd (omega (arith, there.1))

-- what a test keeps of one sale, where it keeps it, has its tenths
pub kept_one : (p : Sale → Bool) (s : Sale) → Contains (filter p (s ∷ [])) s
    → sum_by (λ t. t.tenths) (filter p (s ∷ [])) ≡ s.tenths
kept_one p s there = kept_at (p s) s there

-- the next life, which opens what a life left, and lives from the first one on
pub two_lives : (start o p : Office) (first next : BlockFunction) (one : IsLived start first o) (other : IsLived o next p)
    → LeadTo start (one.life ∷ other.life ∷ []) p
two_lives start o p first next one other =
    (one.running.is_life, one.opening, (o, inl (sym one.running.present), leads o next p other))

-- what stands alone in an office that has grown out of one sale is that sale
heads_alike : (xs rest : List Sale) (s : Sale) → xs ≡ (s ∷ []) ++ rest → length xs ≡ 1 → (t : Sale) → Contains xs t → t ≡ s
heads_alike [] rest s e alone t there = cc
heads_alike (x ∷ []) rest s e alone t (i, within, at) =
    let first : i ≡ 0 = omega (arith, within) in
    sym at ∙ ap (λ k. get_or (x ∷ []) k t) first ∙ ap (λ ys. get_or ys 0 x) e
heads_alike (x ∷ y ∷ xs) rest s e alone t there = absurd (omega (arith, alone))

-- in an office that grew out of one with a single sale, and has one still, it is that sale
pub still_alone : (o p : Office) (s t : Sale) → HasGrown o p → o.sales ≡ s ∷ [] → length p.sales ≡ 1 → Contains p.sales t → t ≡ s
still_alone o p s t grown one alone there =
    heads_alike p.sales grown.sales.0 s (grown.sales.1 ∙ ap (λ xs. xs ++ grown.sales.0) one) alone t there
