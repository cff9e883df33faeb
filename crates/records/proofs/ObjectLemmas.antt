-- The members of an object of JSON, by their names.
use Rattle.std.proofs.Common.{◌≡◌, ◌∙◌, ℕ, ◌≤◌, List, [], ◌∷◌, Some, String, Global, nat_eq, length, map, get_or, ap, sym, subst, arith}
use Rattle.std.specs.Prelude.{◌↔◌, IsTrue, option_map}
use Rattle.std.specs.Borrow.{Bor}
use Rattle.std.proofs.lemmas.Bool.Decides.{nat_tests}
use Rattle.serde_json.specs.Data.{Data}
use Rattle.serde_json.specs.Events.{members_len}
use Rattle.serde_json.specs.Find.{as_object, get}
use Rattle.serde_json.specs.View.{members_view}
use Rattle.serde_json.specs.declared.value.Value.{Value}
use Rattle.serde_json.proofs.Views.{members_len-members_view}
use Rattle.records.specs.Cell.{Held, number, text, nothing}
use Rattle.records.specs.Json.{HasMemberCount, HasMembers, cell_data}
use Rattle.records.specs.Record.{now}
use Rattle.records.proofs.MemberLemmas.{others, others-cons}

-- a map has as many entries as its object has members
pub count_is : (json : Data) (entries : List (String Global × Value)) (len count : ℕ)
    → Some (members_view entries) ≡ as_object json → len ≡ length entries
    → IsTrue (nat_eq len count) ↔ HasMemberCount json count
count_is json entries len count found is =
    let counted : option_map members_len (as_object json) ≡ Some len =
    ap (option_map members_len) (sym found) ∙ ap Some (members_len-members_view entries ∙ sym is) in (
      λ test. let same : len ≡ count = grind (arith, nat_tests) in counted ∙ ap Some same,
      λ other. let same : len ≡ count = cc in grind (arith, nat_tests),
    )

-- one value of JSON is one cell
pub one_data : (a b : Held) → cell_data a ≡ cell_data b → a ≡ b
one_data (number m) (number n) = λ e. cc
one_data (number m) (text bytes) = λ e. cc
one_data (number m) nothing = λ e. cc
one_data (text bytes) (number n) = λ e. cc
one_data (text bytes) (text other) = λ e. cc
one_data (text bytes) nothing = λ e. cc
one_data nothing (number n) = λ e. cc
one_data nothing (text other) = λ e. cc
one_data nothing nothing = λ e. cc

-- one member is one cell
pub one_found : (json : Data) (name : List ℕ) (a b : Held) → get name json ≡ Some (cell_data a) → get name json ≡ Some (cell_data b) → a ≡ b
one_found json name a b e f =
    let same : Some (cell_data a) ≡ Some (cell_data b) = sym e ∙ f in
    one_data a b (cc)
