-- A body says its values in one way.
use Rattle.std.proofs.Common.{◌≡◌, ◌≢◌, ◌∙◌, ℕ, ◌+◌, List, [], ◌∷◌, ◌++◌, Some, length, map, refl, ap, sym, subst, arith}
use Rattle.std.proofs.lemmas.List.{length-append}
use Rattle.serde_json.specs.Data.{Data}
use Rattle.serde_json.specs.Read.{read}
use Rattle.records.specs.Cell.{Held, text}
use Rattle.records.specs.Json.{HasMembers, IsObject}
use Rattle.records.proofs.ObjectLemmas.{one_found}
use Rattle.tariff.specs.Steps.{IsSteps}
use Rattle.tariff.specs.StepsText.{IsStepsText, steps_text}
use Rattle.tariff.specs.declared.step.Step.{Step}
use Rattle.asks.specs.Body.{AreRows, BodySays, FitsNames, FitsShape, IsNothing, SaysCells, body_cells, bulk_cells, rows_text}
use Rattle.asks.specs.Endpoint.{Shape, unread, rows, object}
use Rattle.asks.specs.Value.{AreOf, DaysAreRead, bare_text, cell_of}
use Rattle.asks.specs.declared.ask.Bulk.{Bulk}
use Rattle.asks.specs.declared.ask.Bulk.TheVariants.{Nothing, Rows, Steps}
use Rattle.asks.specs.declared.value.Value.{Value}
use Rattle.asks.specs.declared.value.ValueKind.{ValueKind}
use Rattle.asks.proofs.ValueLemmas.{one_value}

-- what is known of steps: they are read of their text, and no others are
pub record StepsAreRead : Type 0 where
  pub reads : (steps : List Step) → IsSteps steps → IsStepsText (steps_text steps) steps
  pub one_list : (bytes : List ℕ) (steps others : List Step) → IsStepsText bytes steps → IsStepsText bytes others → steps ≡ others

-- two lists of steps have two texts
pub one_steps : StepsAreRead → (s t : List Step) → IsSteps s → IsSteps t → steps_text s ≡ steps_text t → s ≡ t
one_steps laws s t is are e = laws.one_list (steps_text t) s t (subst (λ bytes. IsStepsText bytes s) e (laws.reads s is)) (laws.reads t are)

one_bulk : StepsAreRead → (names : List (List ℕ)) (kinds : List ValueKind) (b c : Bulk) → FitsNames names kinds b → FitsNames names kinds c
    → bulk_cells b ≡ bulk_cells c → b ≡ c
one_bulk laws names kinds Nothing Nothing fits fit e = refl
one_bulk laws names kinds Nothing (Rows csv) fits fit e = absurd fit
one_bulk laws names kinds Nothing (Steps t) fits fit e = cc
one_bulk laws names kinds (Rows csv) c fits fit e = absurd fits
one_bulk laws names kinds (Steps s) Nothing fits fit e = cc
one_bulk laws names kinds (Steps s) (Rows csv) fits fit e = absurd fit
one_bulk laws names kinds (Steps s) (Steps t) fits fit e =
    let same : steps_text s ≡ steps_text t = cc in
    ap Steps (one_steps laws s t fits.1 fit.1 same)

-- ---- cells

-- there are as many values as kinds
pub are_length : (kinds : List ValueKind) (values : List Value) → AreOf kinds values → length values ≡ length kinds
are_length [] [] are = refl
are_length [] (v ∷ vs) are = absurd are
are_length (k ∷ ks) [] are = absurd are
are_length (k ∷ ks) (v ∷ vs) are = omega (arith, are_length ks vs are.1)

cells_count : (values : List Value) (bulk : Bulk) → length (body_cells values bulk) ≡ length values + length (bulk_cells bulk)
cells_count [] bulk = omega arith
cells_count (v ∷ vs) bulk = omega (arith, cells_count vs bulk)

bulk_count : (names : List (List ℕ)) (kinds : List ValueKind) (b : Bulk) → FitsNames names kinds b → length names ≡ length kinds + length (bulk_cells b)
bulk_count names kinds Nothing fits = omega (arith, fits)
bulk_count names kinds (Rows csv) fits = absurd fits
bulk_count names kinds (Steps s) fits = omega (arith, fits.0)

-- there are as many cells as names
pub cells_named : (names : List (List ℕ)) (kinds : List ValueKind) (values : List Value) (b : Bulk) → AreOf kinds values → FitsNames names kinds b
    → length names ≡ length (body_cells values b)
cells_named names kinds values b are fits = omega (arith, are_length kinds values are, cells_count values b, bulk_count names kinds b fits)

-- an object has one list of cells for so many names
pub one_cells : (json : Data) (names : List (List ℕ)) (a b : List Held) → length names ≡ length a → length names ≡ length b
    → HasMembers json names a → HasMembers json names b → a ≡ b
one_cells json [] [] [] la lb has have = refl
one_cells json [] [] (c ∷ cs) la lb has have = absurd (omega (arith, lb))
one_cells json [] (c ∷ cs) b la lb has have = absurd (omega (arith, la))
one_cells json (n ∷ ns) [] b la lb has have = absurd (omega (arith, la))
one_cells json (n ∷ ns) (c ∷ cs) [] la lb has have = absurd (omega (arith, lb))
one_cells json (n ∷ ns) (c ∷ cs) (d ∷ ds) la lb has have =
    let first = one_found json n c d has.0 have.0 in
    let others = one_cells json ns cs ds (omega (arith, la)) (omega (arith, lb)) has.1 have.1 in
    cc

-- one list of cells is that of one list of values, and of one bulk
pub one_told : DaysAreRead → (kinds : List ValueKind) (vs ws : List Value) (b c : Bulk) → AreOf kinds vs → AreOf kinds ws
    → (bulk_cells b ≡ bulk_cells c → b ≡ c) → body_cells vs b ≡ body_cells ws c → (vs ≡ ws) × (b ≡ c)
one_told days [] [] [] b c is are bulks e = (refl, bulks e)
one_told days [] [] (w ∷ ws) b c is are bulks e = absurd are
one_told days [] (v ∷ vs) ws b c is are bulks e = absurd is
one_told days (k ∷ ks) [] ws b c is are bulks e = absurd is
one_told days (k ∷ ks) (v ∷ vs) [] b c is are bulks e = absurd are
one_told days (k ∷ ks) (v ∷ vs) (w ∷ ws) b c is are bulks e =
    let cells : cell_of v ≡ cell_of w = cc in
    let rest : body_cells vs b ≡ body_cells ws c = cc in
    let first = one_value days v w (is.0.of_kind ∙ sym are.0.of_kind) is.0.kept are.0.kept (ap bare_text cells) in
    let others = one_told days ks vs ws b c is.1 are.1 bulks rest in
    let values = others.0 in
    (cc, others.1)

-- ---- bodies

none_of : (vs ws : List Value) → AreOf [] vs → AreOf [] ws → vs ≡ ws
none_of [] [] is are = refl
none_of [] (w ∷ ws) is are = absurd are
none_of (v ∷ vs) ws is are = absurd is

both_nothing : (b c : Bulk) → IsNothing b → IsNothing c → b ≡ c
both_nothing Nothing Nothing is are = refl
both_nothing Nothing (Rows csv) is are = absurd are
both_nothing Nothing (Steps s) is are = absurd are
both_nothing (Rows csv) c is are = absurd is
both_nothing (Steps s) c is are = absurd is

both_rows : (b c : Bulk) → AreRows b → AreRows c → rows_text b ≡ rows_text c → b ≡ c
both_rows (Rows csv) (Rows other) is are e = ap Rows e
both_rows (Rows csv) Nothing is are e = absurd are
both_rows (Rows csv) (Steps s) is are e = absurd are
both_rows Nothing c is are e = absurd is
both_rows (Steps s) c is are e = absurd is

one_json : (names : List (List ℕ)) (a b : List Held) (body : List ℕ) → length names ≡ length a → length names ≡ length b
    → SaysCells names a body → SaysCells names b body → a ≡ b
one_json names a b body la lb says say =
    let whole : Some says.json ≡ Some say.json = sym says.is_json.reads ∙ say.is_json.reads in
    let same : says.json ≡ say.json = cc in
    one_cells say.json names a b la lb (subst (λ (json : Data). HasMembers json names a) same says.members.each) say.members.each

-- a body of a shape says one list of values, and one bulk
pub one_body : DaysAreRead → StepsAreRead → (shape : Shape) (vs ws : List Value) (b c : Bulk) (body : List ℕ) → FitsShape shape vs b → FitsShape shape ws c
    → BodySays shape vs b body → BodySays shape ws c body → (vs ≡ ws) × (b ≡ c)
one_body days laws unread vs ws b c body fits fit says say = (none_of vs ws fits.0 fit.0, both_nothing b c fits.1 fit.1)
one_body days laws rows vs ws b c body fits fit says say = (none_of vs ws fits.0 fit.0, both_rows b c fits.1 fit.1 (sym says ∙ say))
one_body days laws (object names kinds) vs ws b c body fits fit says say =
    one_told days kinds vs ws b c fits.0 fit.0 (one_bulk laws names kinds b c fits.1 fit.1)
    (one_json names (body_cells vs b) (body_cells ws c) body (cells_named names kinds vs b fits.0 fits.1) (cells_named names kinds ws c fit.0 fit.1) says say)
