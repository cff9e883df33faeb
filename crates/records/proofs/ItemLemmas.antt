-- The items of a list, one after another.
use Rattle.std.proofs.Common.{◌≡◌, ◌≢◌, ◌∙◌, ℕ, true, false, List, [], ◌∷◌, ◌++◌, Option, Some, None, map, refl, ap, sym, subst, append_assoc, arith}
use Rattle.std.specs.Borrow.{Bor}
use Rattle.std.specs.Prelude.{All, slice_index}
use Rattle.std.specs.List.{AllByRecursion}
use Rattle.std.proofs.lemmas.List.{append_cancel_left, map-append}
use Rattle.std.proofs.lemmas.List.Elements.{All-push}
use Rattle.records.specs.Front.{IsFrontItem}
use Rattle.records.specs.List.{AreReadInOneWay, items_text}

-- each text with a comma behind it, and then the rest
abbrev pub led : List (List ℕ) → List ℕ → List ℕ
led [] rest = rest
led (t ∷ ts) rest = t ++ (44 ∷ led ts rest)

-- what stands behind the first of a list: each text with a comma before it, a bracket and the rest
abbrev pub behind_first : List (List ℕ) → List ℕ → List ℕ
behind_first [] rest = 93 ∷ rest
behind_first (t ∷ ts) rest = 44 ∷ (t ++ behind_first ts rest)

behind-first : (ts : List (List ℕ)) (rest : List ℕ) → items_text true ts ++ rest ≡ behind_first ts rest
behind-first [] rest = refl
behind-first (t ∷ ts) rest =
    ap (λ (b : List ℕ). 44 ∷ b) (append_assoc t (items_text true ts) rest ∙ ap (λ (b : List ℕ). t ++ b) (behind-first ts rest))

-- the text of a list is that of its first item, and what stands behind the first
pub closed-first : (t : List ℕ) (ts : List (List ℕ)) (rest : List ℕ) → items_text false (t ∷ ts) ++ rest ≡ t ++ behind_first ts rest
closed-first t ts rest = append_assoc t (items_text true ts) rest ∙ ap (λ (b : List ℕ). t ++ b) (behind-first ts rest)

-- one item more
pub led-more : (ts : List (List ℕ)) (t rest : List ℕ) → led ts (t ++ (44 ∷ rest)) ≡ led (ts ++ t ∷ []) rest
led-more [] t rest = refl
led-more (u ∷ ts) t rest = ap (λ (b : List ℕ). u ++ (44 ∷ b)) (led-more ts t rest)

led-first : (u : List ℕ) (ts : List (List ℕ)) (t rest : List ℕ)
    → u ++ (44 ∷ led ts (t ++ (93 ∷ rest))) ≡ u ++ behind_first (ts ++ t ∷ []) rest
led-first u [] t rest = refl
led-first u (v ∷ ts) t rest = ap (λ (b : List ℕ). u ++ (44 ∷ b)) (led-first v ts t rest)

-- the last item
pub led-closed : (ts : List (List ℕ)) (t rest : List ℕ) → led ts (t ++ (93 ∷ rest)) ≡ items_text false (ts ++ t ∷ []) ++ rest
led-closed [] t rest = sym (closed-first t [] rest)
led-closed (u ∷ ts) t rest = led-first u ts t rest ∙ sym (closed-first u (ts ++ t ∷ []) rest)

-- what was found at the front of a text
pub front_found : {A : Type 0} (is_told : A → Type 0) (text_of : A → List ℕ) (text : List ℕ) (r : Option (A × Bor (List ℕ))) (item : A) (behind : Bor (List ℕ))
    → r ≡ Some (item, behind) → IsFrontItem is_told text_of text r → is_told item × (text ≡ text_of item ++ behind.now)
front_found is_told text_of text r item behind is found = subst (IsFrontItem is_told text_of text) is found

-- where no item was found at the front of a text, the text begins with none
pub none_found : {A : Type 0} (is_told : A → Type 0) (text_of : A → List ℕ) (text : List ℕ) (r : Option (A × Bor (List ℕ))) → r ≡ None
    → IsFrontItem is_told text_of text r → (item : A) (rest : List ℕ) → is_told item → text ≢ text_of item ++ rest
none_found is_told text_of text r is found = subst (IsFrontItem is_told text_of text) is found

-- a byte, where a text of one was found at the front
pub begins_with : (b : ℕ) (text p rest : List ℕ) → p ≡ b ∷ [] → text ≡ p ++ rest → text ≡ b ∷ rest
begins_with b text p rest is e = e ∙ ap (λ (f : List ℕ). f ++ rest) is

-- nor does a text begin with a byte, where a text of one was not found at the front
pub begins_not : (b : ℕ) (text p : List ℕ) → p ≡ b ∷ [] → ((rest : List ℕ) → text ≢ p ++ rest) → (rest : List ℕ) → text ≢ b ∷ rest
begins_not b text p is none rest e = none rest (e ∙ ap (λ (f : List ℕ). f ++ rest) (sym is))

-- one told item more
pub told_push : {A : Type 0} (is_told : A → Type 0) (xs : List A) (x : A) (pushed : List A) → pushed ≡ xs ++ x ∷ [] → All is_told xs → is_told x
    → All is_told pushed
told_push is_told xs x pushed is each told = subst (All is_told) (sym is) (All-push is_told xs x each told)

module _ {A : Type 0} (text_of : A → List ℕ) where
  texts-push : (xs : List A) (x : A) (pushed : List A) → pushed ≡ xs ++ x ∷ [] → map text_of xs ++ text_of x ∷ [] ≡ map text_of pushed
  texts-push xs x pushed is = sym (ap (map text_of) is ∙ map-append text_of xs (x ∷ []))

  -- a list with one item more, and a comma or the bracket behind that
  pub led_by : (text rest behind next : List ℕ) (xs : List A) (x : A) (pushed : List A) → pushed ≡ xs ++ x ∷ []
      → text ≡ led (map text_of xs) rest → rest ≡ text_of x ++ behind → behind ≡ 44 ∷ next → text ≡ led (map text_of pushed) next
  led_by text rest behind next xs x pushed is so found comma =
      so ∙ ap (led (map text_of xs)) (found ∙ ap (λ (b : List ℕ). text_of x ++ b) comma)
      ∙ led-more (map text_of xs) (text_of x) next ∙ ap (λ (ts : List (List ℕ)). led ts next) (texts-push xs x pushed is)

  -- the last item, and the bracket behind it: the text is the whole list and what follows
  pub closed_by : (text rest behind after : List ℕ) (xs : List A) (x : A) (pushed : List A) → pushed ≡ xs ++ x ∷ []
      → text ≡ led (map text_of xs) rest → rest ≡ text_of x ++ behind → behind ≡ 93 ∷ after → text ≡ items_text false (map text_of pushed) ++ after
  closed_by text rest behind after xs x pushed is so found bracket =
      so ∙ ap (led (map text_of xs)) (found ∙ ap (λ (b : List ℕ). text_of x ++ b) bracket)
      ∙ led-closed (map text_of xs) (text_of x) after ∙ ap (λ (ts : List (List ℕ)). items_text false ts ++ after) (texts-push xs x pushed is)

-- lists that begin alike go on alike, and with one head each
pub tails : (a b : ℕ) (x y : List ℕ) → a ∷ x ≡ b ∷ y → x ≡ y
tails a b x y e = cc

heads : (a b : ℕ) (x y : List ℕ) → a ∷ x ≡ b ∷ y → a ≡ b
heads a b x y e = cc

module _ {A : Type 0} (is_told : A → Type 0) (text_of : A → List ℕ) (way : AreReadInOneWay is_told text_of) where
  -- what stands behind an item, by any reading of it
  pub behind : (a b : A) (r q : List ℕ) → is_told a → is_told b → text_of a ++ r ≡ text_of b ++ q → r ≡ q
  behind a b r q ta tb e =
      append_cancel_left (text_of a) r q (e ∙ ap (λ (t : List ℕ). t ++ q) (sym (way.one a b r q ta tb e)))

  -- no bracket begins an item
  no_bracket : (a : A) (r q : List ℕ) → is_told a → 93 ∷ r ≢ text_of a ++ q
  no_bracket a r q ta = by_text (text_of a) (way.braced a ta)
    where
      by_text : (t : List ℕ) → slice_index t 0 ≡ 123 → 93 ∷ r ≢ t ++ q
      by_text [] braced e = omega (arith, braced)
      by_text (b ∷ t) braced e = omega (arith, heads 93 b r (t ++ q) e, braced)

  -- where items were read up to a comma, what follows them is the rest of any list that is there
  pub left : (xs : List A) (rest : List ℕ) (u : A) (us : List A) (more : List ℕ)
      → AllByRecursion is_told xs → is_told u → AllByRecursion is_told us
      → led (map text_of xs) rest ≡ text_of u ++ behind_first (map text_of us) more
      → (v : A) × (vs : List A) × is_told v × AllByRecursion is_told vs × (rest ≡ text_of v ++ behind_first (map text_of vs) more)
  left [] rest u us more tx tu tus e = (u, us, tu, tus, e)
  left (x ∷ xs) rest u [] more tx tu tus e =
      let after : 44 ∷ led (map text_of xs) rest ≡ 93 ∷ more = behind x u (44 ∷ led (map text_of xs) rest) (93 ∷ more) tx.0 tu e in
      absurd (omega (arith, heads 44 93 (led (map text_of xs) rest) more after))
  left (x ∷ xs) rest u (v ∷ vs) more tx tu tus e =
      let below : List ℕ = text_of v ++ behind_first (map text_of vs) more in
      let after : 44 ∷ led (map text_of xs) rest ≡ 44 ∷ below = behind x u (44 ∷ led (map text_of xs) rest) (44 ∷ below) tx.0 tu e in
      left xs rest v vs more tx.1 tus.0 tus.1 (tails 44 44 (led (map text_of xs) rest) below after)

  one_behind : (xs ys : List A) (r q : List ℕ) → AllByRecursion is_told xs → AllByRecursion is_told ys
      → behind_first (map text_of xs) r ≡ behind_first (map text_of ys) q → (map text_of xs ≡ map text_of ys) × (r ≡ q)
  one_behind [] [] r q tx ty e = (refl, tails 93 93 r q e)
  one_behind [] (y ∷ ys) r q tx ty e = absurd (omega (arith, heads 93 44 r (text_of y ++ behind_first (map text_of ys) q) e))
  one_behind (x ∷ xs) [] r q tx ty e = absurd (omega (arith, heads 44 93 (text_of x ++ behind_first (map text_of xs) r) q e))
  one_behind (x ∷ xs) (y ∷ ys) r q tx ty e =
      let below : List ℕ = behind_first (map text_of xs) r in
      let other : List ℕ = behind_first (map text_of ys) q in
      let same : text_of x ++ below ≡ text_of y ++ other = tails 44 44 (text_of x ++ below) (text_of y ++ other) e in
      let rest = one_behind xs ys r q tx.1 ty.1 (behind x y below other tx.0 ty.0 same) in (
        ap (λ (t : List ℕ). t ∷ map text_of xs) (way.one x y below other tx.0 ty.0 same) ∙ ap (λ (ts : List (List ℕ)). text_of y ∷ ts) rest.0,
        rest.1,
      )

  -- a text begins with one list, and one thing follows it
  pub one_list : (xs ys : List A) (r q : List ℕ) → AllByRecursion is_told xs → AllByRecursion is_told ys
      → items_text false (map text_of xs) ++ r ≡ items_text false (map text_of ys) ++ q → (map text_of xs ≡ map text_of ys) × (r ≡ q)
  one_list [] [] r q tx ty e = (refl, tails 93 93 r q e)
  one_list [] (y ∷ ys) r q tx ty e =
      absurd (no_bracket y r (behind_first (map text_of ys) q) ty.0 (e ∙ closed-first (text_of y) (map text_of ys) q))
  one_list (x ∷ xs) [] r q tx ty e =
      absurd (no_bracket x q (behind_first (map text_of xs) r) tx.0 (sym e ∙ closed-first (text_of x) (map text_of xs) r))
  one_list (x ∷ xs) (y ∷ ys) r q tx ty e =
      one_behind (x ∷ xs) (y ∷ ys) r q tx ty
      (ap (λ (b : List ℕ). 44 ∷ b) (sym (closed-first (text_of x) (map text_of xs) r) ∙ e ∙ closed-first (text_of y) (map text_of ys) q))

  -- where no item begins the rest, no list stands at the front of the text
  pub no_list : (text : List ℕ) (xs : List A) (rest : List ℕ) → AllByRecursion is_told xs → text ≡ led (map text_of xs) rest
      → ((r : List ℕ) → text ≢ 93 ∷ r)
      → ((v : A) (vs : List A) (more : List ℕ) → is_told v → rest ≢ text_of v ++ behind_first (map text_of vs) more)
      → (us : List A) (more : List ℕ) → AllByRecursion is_told us → text ≢ items_text false (map text_of us) ++ more
  no_list text xs rest tx is closed none [] more tu e = closed more e
  no_list text xs rest tx is closed none (u ∷ us) more tu e =
      let found = left xs rest u us more tx tu.0 tu.1 (sym is ∙ e ∙ closed-first (text_of u) (map text_of us) more) in
      none found.0 found.1 more found.2 found.4

  -- nor where neither a comma nor a bracket follows an item
  pub neither : (item : A) (rest after : List ℕ) → is_told item → rest ≡ text_of item ++ after
      → ((r : List ℕ) → after ≢ 44 ∷ r) → ((r : List ℕ) → after ≢ 93 ∷ r)
      → (v : A) (vs : List A) (more : List ℕ) → is_told v → rest ≢ text_of v ++ behind_first (map text_of vs) more
  neither item rest after told is comma bracket v [] more tv e = bracket more (behind item v after (93 ∷ more) told tv (sym is ∙ e))
  neither item rest after told is comma bracket v (w ∷ ws) more tv e =
      comma (text_of w ++ behind_first (map text_of ws) more) (behind item v after (behind_first (map text_of (w ∷ ws)) more) told tv (sym is ∙ e))
