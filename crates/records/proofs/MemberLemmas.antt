-- The members of a record, one by one.
use Rattle.std.proofs.Common.{◌≡◌, ◌≢◌, ◌∙◌, ℕ, suc, ◌-◌, ◌≤◌, Bool, true, false, List, [], ◌∷◌, ◌++◌, length, map, take, drop, get_or, refl, ap, sym, append_assoc, append-nil, arith}
use Rattle.std.specs.Borrow.{Bor}
use Rattle.std.specs.List.{AllByRecursion}
use Rattle.std.proofs.lemmas.List.{append_cancel_left, take_all}
use Rattle.records.specs.Cell.{Held, IsTellable, cell_text, in_quotes}
use Rattle.records.specs.Column.{AreColumns, IsNamed}
use Rattle.records.specs.Front.{BeginsWithStop}
use Rattle.records.specs.Record.{Fits, comma_if, members_text, now, record_text}
use Rattle.records.proofs.FrontLemmas.{one_cell}
use Rattle.records.proofs.ReadLemmas.{behind_named, one_rest, tails}

-- the names behind the first
abbrev pub others : List (Bor (List ℕ)) → List (Bor (List ℕ))
others names = take (length names - 1) (drop 1 names)

-- they are the rest of the list
pub others-cons : (n : Bor (List ℕ)) (ns : List (Bor (List ℕ))) → others (n ∷ ns) ≡ ns
others-cons n ns = take_all (length (n ∷ ns) - 1) ns (omega arith)

-- what follows a member, or the brace, begins with a stop
pub begins : (names : List (List ℕ)) (cells : List Held) (rest : List ℕ) → BeginsWithStop (members_text true names cells ++ rest)
begins [] cells rest = refl
begins (n ∷ names) [] rest = refl
begins (n ∷ names) (c ∷ cells) rest = refl

-- a member and what follows it
spread : (later : Bool) (name : List ℕ) (names : List (List ℕ)) (cell : Held) (cells : List Held) (rest : List ℕ)
    → members_text later (name ∷ names) (cell ∷ cells) ++ rest ≡ behind_named later name (cell_text cell ++ (members_text true names cells ++ rest))
spread later name names cell cells rest =
    let text = cell_text cell in
    let more = members_text true names cells in
    append_assoc (comma_if later) (in_quotes name ++ (58 ∷ (text ++ more))) rest
    ∙ ap (λ (b : List ℕ). comma_if later ++ b) (append_assoc (in_quotes name) (58 ∷ (text ++ more)) rest)
    ∙ ap (behind_named later name) (append_assoc text more rest)

-- ---- one list of cells

-- members with these names are those of one list of cells, and have one rest
pub one_list : (later : Bool) (names : List (List ℕ)) (cells told : List Held) (rest more : List ℕ) → length names ≡ length cells → length names ≡ length told
    → AllByRecursion IsTellable cells → AllByRecursion IsTellable told → members_text later names cells ++ rest ≡ members_text later names told ++ more
    → (cells ≡ told) × (rest ≡ more)
one_list later [] [] [] rest more as_many same is are e = (refl, append_cancel_left (125 ∷ []) rest more e)
one_list later [] (c ∷ cells) told rest more as_many same is are e = absurd (omega (arith, as_many))
one_list later [] [] (d ∷ told) rest more as_many same is are e = absurd (omega (arith, same))
one_list later (n ∷ names) [] told rest more as_many same is are e = absurd (omega (arith, as_many))
one_list later (n ∷ names) (c ∷ cells) [] rest more as_many same is are e = absurd (omega (arith, same))
one_list later (n ∷ names) (c ∷ cells) (d ∷ told) rest more as_many same is are e =
    let behind = members_text true names cells ++ rest in
    let other = members_text true names told ++ more in
    let first = one_cell c d behind other is.0 are.0 (begins names cells rest) (begins names told more)
    (one_rest later n (cell_text c ++ behind) (cell_text d ++ other) (sym (spread later n names c cells rest) ∙ e ∙ spread later n names d told more)) in
    let left = one_list true names cells told rest more (omega (arith, as_many)) (omega (arith, same)) is.1 are.1 first.1 in
    let head = first.0 in
    let tail = left.0 in
    (cc, left.1)

-- so are records
pub one_record : (names : List (List ℕ)) (cells told : List Held) (rest more : List ℕ) → Fits names cells → Fits names told
    → record_text names cells ++ rest ≡ record_text names told ++ more → (cells ≡ told) × (rest ≡ more)
one_record names cells told rest more fits fit e =
    one_list false names cells told rest more fits.named fit.named fits.tellable fit.tellable
    (tails 123 123 (members_text false names cells ++ rest) (members_text false names told ++ more) e)

-- ---- values

module _ {A : Type 0} (keep : A → Type 0) (cells_of : A → List Held) (columns : AreColumns keep cells_of) where
  -- values by their rules have a record
  pub fits : (names : List (List ℕ)) (a : A) → IsNamed keep cells_of names a → Fits names (cells_of a)
  fits names a is = record { named = is.named; tellable = columns.tellable a is.kept }

  -- no other values have the same, whatever follows it
  pub one_value : (names : List (List ℕ)) (a b : A) (rest more : List ℕ) → IsNamed keep cells_of names a → IsNamed keep cells_of names b
      → record_text names (cells_of a) ++ rest ≡ record_text names (cells_of b) ++ more → (a ≡ b) × (rest ≡ more)
  one_value names a b rest more is are e =
      let same = one_record names (cells_of a) (cells_of b) rest more (fits names a is) (fits names b are) e in
      (columns.one a b is.kept are.kept same.0, same.1)

  -- where something follows a record, it is not the whole text
  pub not_whole : (text : List ℕ) (names : List (List ℕ)) (a : A) (rest : List ℕ) → IsNamed keep cells_of names a → text ≡ record_text names (cells_of a) ++ rest
      → rest ≢ [] → (b : A) → IsNamed keep cells_of names b × (text ≡ record_text names (cells_of b)) → ⊥
  not_whole text names a rest is e more b whole =
      more (one_value names a b rest [] is whole.0 (sym e ∙ whole.1 ∙ sym (append-nil (record_text names (cells_of b))))).1

-- ---- what was read

-- the first member by the first name, and what follows it by the others
pub first_member : (later : Bool) (names : List (Bor (List ℕ))) (d : Bor (List ℕ)) (cell : Held) (cells : List Held) (rest : List ℕ) → 1 ≤ length names
    → members_text later (map now names) (cell ∷ cells) ++ rest
    ≡ behind_named later (get_or names 0 d).now (cell_text cell ++ (members_text true (map now (others names)) cells ++ rest))
first_member later [] d cell cells rest some = absurd (omega (arith, some))
first_member later (n ∷ ns) d cell cells rest some =
    spread later n.now (map now ns) cell cells rest
    ∙ ap (λ (ms : List (Bor (List ℕ))). behind_named later n.now (cell_text cell ++ (members_text true (map now ms) cells ++ rest))) (sym (others-cons n ns))

-- there is one name fewer behind the first
pub fewer : (names : List (Bor (List ℕ))) (n : ℕ) → length (map now names) ≡ suc n → length (map now (others names)) ≡ n
fewer [] n e = absurd (omega (arith, e))
fewer (m ∷ ms) n e = ap (λ (xs : List (Bor (List ℕ))). length (map now xs)) (others-cons m ms) ∙ omega (arith, e)

-- the member that was read is that of any cells that stand there
pub same_member : (later : Bool) (names : List (Bor (List ℕ))) (d : Bor (List ℕ)) (whole : List ℕ) (told : Held) (behind : List ℕ)
    (cell : Held) (cells : List Held) (rest : List ℕ) → 1 ≤ length names → IsTellable told → BeginsWithStop behind
    → whole ≡ behind_named later (get_or names 0 d).now (cell_text told ++ behind) → IsTellable cell
    → whole ≡ members_text later (map now names) (cell ∷ cells) ++ rest
    → (told ≡ cell) × (behind ≡ members_text true (map now (others names)) cells ++ rest)
same_member later names d whole told behind cell cells rest some is stops e are f =
    let more = members_text true (map now (others names)) cells ++ rest in
    one_cell told cell behind more is are stops (begins (map now (others names)) cells rest)
    (one_rest later (get_or names 0 d).now (cell_text told ++ behind) (cell_text cell ++ more)
    (sym e ∙ f ∙ first_member later names d cell cells rest some))
