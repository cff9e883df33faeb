use Rattle.std.proofs.Common.{List, ℕ, Bor, ap, map, sym, ◌∙◌}
use Rattle.std.specs.List.{drop-map}
use Rattle.book_tables.proofs.format.tables.tables_after.Goals as goal

pub returns-clause-names : goal.returns-clause-names
returns-clause-names c =
    let now : Bor (List ℕ) → List ℕ = λ n. n.now in
    ap (map now) c.split_at.ensures.back ∙ sym (drop-map now c.count_of-count.result _) ∙ c.count_of-count.ensures.later_names c.requires

pub returns-clause-texts : goal.returns-clause-texts
returns-clause-texts c =
    let now : Bor (List ℕ) → List ℕ = λ t. t.now in
    ap (map now) c.split_at-2.ensures.back ∙ sym (drop-map now c.count_of-count.result _) ∙ c.count_of-count.ensures.later_texts c.requires
