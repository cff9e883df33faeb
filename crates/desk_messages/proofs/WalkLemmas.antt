-- How `matchit` walks a target: through the bytes of a pattern, and over the value of a parameter.
use Rattle.std.proofs.Common.{◌≡◌, ◌∙◌, ℕ, zero, suc, ◌-◌, ◌==◌, Bool, true, false, cond, List, [], ◌∷◌, ◌++◌, length, drop, lt-ltb, Option, Some, None, option_map, refl, ap, arith}
use Rattle.std.proofs.lemmas.Bool.Decides.{nat_tests}
use Rattle.std.proofs.lemmas.List.{append-nil}
use Rattle.std.specs.List.{AllByRecursion, ends_with}
use Rattle.std.specs.Cmp.Lexicographic.{pointwise}
use Rattle.std.specs.Prelude.{nat_eq, ltb, ◌&&◌}
use Rattle.matchit.specs.Rows.{RowsOf, param_token, catch_all_token}
use Rattle.matchit.specs.Seek.{cuts, has_slash, longest_suffix, or_else, own, param_step, seek, segment, step, with_suffix}

-- no byte of it is a slash
abbrev pub IsInside : List ℕ → Type 0
IsInside text = AllByRecursion (λ byte. (byte == 47) ≡ false) text

module _ {K E : Type 0} (value_of : K → E) where
  -- a walk from these rows finds this
  abbrev pub Leads : RowsOf K → List ℕ → E → Type 0
  Leads rows path found = option_map value_of (seek 0 rows path) ≡ Some found

  earlier : (one other : Option K) (found : E) → option_map value_of one ≡ Some found → option_map value_of (or_else one other) ≡ Some found
  earlier (Some key) other found e = e
  earlier None other found e = absurd cc

  later : (one other : Option K) (found : E) → one ≡ None → option_map value_of other ≡ Some found
      → option_map value_of (or_else one other) ≡ Some found
  later None other found n e = e
  later (Some key) other found n e = absurd cc

  -- the rows behind these bytes
  abbrev pub behind : List ℕ → RowsOf K → RowsOf K
  behind [] rows = rows
  behind (b ∷ text) rows = behind text (step b rows)

  -- what a walk finds over a parameter at its start
  abbrev by_param : RowsOf K → ℕ → List ℕ → Option K
  by_param rows b path =
      let taken = param_step (step param_token rows) (b ∷ path) in
      seek (taken.0 - 1) taken.1 path

  -- through bytes that stand in the patterns
  pub through : (text : List ℕ) (rows : RowsOf K) (path : List ℕ) (found : E) → Leads (behind text rows) path found
      → Leads rows (text ++ path) found
  unfolding seek
  through [] rows path found e = e
  through (b ∷ text) rows path found e =
      earlier (seek 0 (step b rows) (text ++ path)) (or_else (by_param rows b (text ++ path)) (own (step catch_all_token rows))) found
      (through text (step b rows) path found e)

  -- no rows lead anywhere
  nowhere : (path : List ℕ) (skip : ℕ) → seek {K = K} skip [] path ≡ None
  unfolding seek param_step
  nowhere [] skip = refl
  nowhere (b ∷ path) (suc skip) = nowhere path skip
  nowhere (b ∷ path) zero = rw (nowhere path 0) (by (has_slash (b ∷ path)) (nowhere path 0) (nowhere path (length (b ∷ path) - 1)))
    where
      taken : Bool → ℕ × RowsOf K
      taken v = cond v (0, []) (length (b ∷ path), [])

      by : (v : Bool) → seek {K = K} 0 [] path ≡ None → seek {K = K} (length (b ∷ path) - 1) [] path ≡ None
          → or_else (seek ((taken v).0 - 1) (taken v).1 path) None ≡ None
      by true none all = rw none refl
      by false none all = rw all refl

  skips : (text : List ℕ) (rows : RowsOf K) (path : List ℕ) → seek (length text) rows (text ++ path) ≡ seek 0 rows path
  unfolding seek
  skips [] rows path = refl
  skips (b ∷ text) rows path = skips text rows path

  -- by a parameter, where it takes these bytes, and these rows are behind it
  over : (rows next : RowsOf K) (b : ℕ) (text path : List ℕ) (found : E) → step b rows ≡ []
      → param_step (step param_token rows) (b ∷ (text ++ path)) ≡ (suc (length text), next)
      → Leads next path found → Leads rows ((b ∷ text) ++ path) found
  unfolding seek
  over rows next b text path found none taken e =
      let less : suc (length text) - 1 ≡ length text = omega arith in
      later (seek 0 (step b rows) (text ++ path)) (or_else (by_param rows b (text ++ path)) (own (step catch_all_token rows))) found
      (ap (λ rs. seek 0 rs (text ++ path)) none ∙ nowhere (text ++ path) 0)
      (earlier (by_param rows b (text ++ path)) (own (step catch_all_token rows)) found
      (ap (λ (t : ℕ × RowsOf K). option_map value_of (seek (t.0 - 1) t.1 (text ++ path))) taken
      ∙ ap (λ n. option_map value_of (seek n next (text ++ path))) less
      ∙ ap (option_map value_of) (skips text next path) ∙ e))

-- ---- segments

segment_is : (text more : List ℕ) → IsInside text → segment (text ++ 47 ∷ more) ≡ text ++ 47 ∷ []
segment_is [] more inside = refl
segment_is (b ∷ text) more inside = rw inside.0 (ap (λ s. b ∷ s) (segment_is text more inside.1))

segment_all : (text : List ℕ) → IsInside text → segment text ≡ text
segment_all [] inside = refl
segment_all (b ∷ text) inside = rw inside.0 (ap (λ s. b ∷ s) (segment_all text inside.1))

no_slash : (text : List ℕ) → IsInside text → has_slash text ≡ false
no_slash [] inside = refl
no_slash (b ∷ text) inside = rw inside.0 (no_slash text inside.1)

last_slash : (text : List ℕ) → drop (length text) (text ++ 47 ∷ []) ≡ 47 ∷ []
last_slash [] = refl
last_slash (b ∷ text) = last_slash text

length_more : (text : List ℕ) (b : ℕ) → length (text ++ b ∷ []) ≡ suc (length text)
length_more [] b = refl
length_more (c ∷ text) b = ap suc (length_more text b)

-- a segment with a slash ends with it
cuts_slash : (b : ℕ) (text : List ℕ) → cuts ((b ∷ text) ++ 47 ∷ []) (47 ∷ []) ≡ true
cuts_slash b text =
    let one : suc (suc (length text)) - 1 ≡ suc (length text) = omega arith in
    ap (λ n. ltb 1 (suc n) && pointwise nat_eq (47 ∷ []) (drop (suc n - 1) (b ∷ (text ++ 47 ∷ [])))) (length_more text 47)
    ∙ ap (λ n. ltb 1 (suc (suc (length text))) && pointwise nat_eq (47 ∷ []) (drop n (b ∷ (text ++ 47 ∷ [])))) one
    ∙ ap (λ end. ltb 1 (suc (suc (length text))) && pointwise nat_eq (47 ∷ []) end) (last_slash text)
    ∙ ap (λ b. b && true) (lt-ltb 1 (suc (suc (length text))) (omega arith))

inside_drop : (n : ℕ) (text : List ℕ) → IsInside text → IsInside (drop n text)
inside_drop zero text inside = inside
inside_drop (suc n) [] inside = inside
inside_drop (suc n) (b ∷ text) inside = inside_drop n text inside.1

not_slash : (text : List ℕ) → IsInside text → pointwise nat_eq (47 ∷ []) text ≡ false
not_slash [] inside = refl
not_slash (b ∷ text) inside = grind (arith, nat_tests, inside.0)

and_false : (a b : Bool) → b ≡ false → (a && b) ≡ false
and_false true b e = e
and_false false b e = refl

cuts_none : (text : List ℕ) → IsInside text → cuts text (47 ∷ []) ≡ false
cuts_none text inside =
    and_false (ltb 1 (length text)) (ends_with nat_eq text (47 ∷ [])) (not_slash (drop (length text - 1) text) (inside_drop (length text - 1) text inside))

-- ---- over a parameter

module _ {K E : Type 0} (value_of : K → E) where
  takes : (rows : RowsOf K) (path : List ℕ) (len : ℕ) → longest_suffix (segment path) rows ≡ 47 ∷ [] → length (segment path) - 1 ≡ len
      → param_step rows path ≡ (len, with_suffix (47 ∷ []) rows)
  unfolding param_step
  takes rows path len suffix count = rw suffix (ap (λ n. (n, with_suffix (47 ∷ []) rows)) count)

  takes_all : (rows : RowsOf K) (path : List ℕ) → longest_suffix (segment path) rows ≡ [] → has_slash path ≡ false
      → param_step rows path ≡ (length path, rows)
  unfolding param_step
  takes_all rows path suffix none = rw (suffix, none) refl

  -- the value of a parameter, and then a slash
  pub before_slash : (rows : RowsOf K) (b : ℕ) (text more : List ℕ) (found : E) → IsInside (b ∷ text) → step b rows ≡ []
      → ((seg : List ℕ) → cuts seg (47 ∷ []) ≡ true → longest_suffix seg (step param_token rows) ≡ 47 ∷ [])
      → Leads value_of (with_suffix (47 ∷ []) (step param_token rows)) (47 ∷ more) found
      → Leads value_of rows ((b ∷ text) ++ 47 ∷ more) found
  before_slash rows b text more found inside none longest e =
      let own = segment_is (b ∷ text) more inside in
      over value_of rows (with_suffix (47 ∷ []) (step param_token rows)) b text (47 ∷ more) found none
      (takes (step param_token rows) ((b ∷ text) ++ 47 ∷ more) (suc (length text)) (longest (segment ((b ∷ text) ++ 47 ∷ more)) (rw own (cuts_slash b text)))
      (omega (arith, ap length own, length_more (b ∷ text) 47))) e

  -- the value of a parameter at the end
  pub at_end : (rows : RowsOf K) (b : ℕ) (text : List ℕ) (found : E) → IsInside (b ∷ text) → step b rows ≡ []
      → ((seg : List ℕ) → cuts seg (47 ∷ []) ≡ false → longest_suffix seg (step param_token rows) ≡ [])
      → option_map value_of (own (step param_token rows)) ≡ Some found
      → Leads value_of rows ((b ∷ text) ++ []) found
  unfolding seek
  at_end rows b text found inside none longest e =
      over value_of rows (step param_token rows) b text [] found none
      (rw (append-nil text)
      (takes_all (step param_token rows) (b ∷ text) (longest (segment (b ∷ text)) (rw (segment_all (b ∷ text) inside) (cuts_none (b ∷ text) inside)))
      (no_slash (b ∷ text) inside))) e
