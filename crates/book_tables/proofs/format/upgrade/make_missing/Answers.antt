use Rattle.std.proofs.Common.{rules, ◌≡◌, ◌∙◌, ◌<◌, Bor, ℕ, List, length, ap, subst, sym}
use Rattle.std.proofs.lemmas.List.{length-map}
use Rattle.std.proofs.lemmas.List.Folds.{list_all-map}
use Rattle.std.specs.List.{list_all}
use Rattle.sqlite.specs.Held.{state}
use Rattle.one_table.proofs.ChangeLemmas.{transaction_off, transaction_on}
use Rattle.one_table.specs.Making.{AreDefined, is_creation}
use Rattle.book_tables.specs.Kept.{kept_tables, kept_texts, later}
use Rattle.book_tables.proofs.FormatLemmas.MakingLemmas.{lacks_some, makes_missing}
use Rattle.book_tables.proofs.FormatLemmas.TextLemmas.{are_creations, are_defined, later_texts}
use Rattle.book_tables.proofs.format.upgrade.make_missing.Goals as goal

pub create_tables-requires-clause-some : goal.create_tables-requires-clause-some
create_tables-requires-clause-some g c =
    let texts = c.tables_after.result.texts.now in
    let same : length texts ≡ length (kept_texts (later c.args.from)) = sym (length-map texts (λ t. t.now)) ∙ ap length c.tables_after.ensures.texts in
    subst (λ n. 0 < n) (sym same) (lacks_some c.args.from c.requires)

pub create_tables-requires-clause-creations : goal.create_tables-requires-clause-creations
create_tables-requires-clause-creations g c =
    sym (list_all-map is_creation (λ (t : Bor (List ℕ)). t.now) c.tables_after.result.texts.now)
    ∙ ap (λ l. list_all is_creation l) c.tables_after.ensures.texts ∙ are_creations (later c.args.from) (later_texts c.args.from)

pub returns-in_err-create_tables-clause-made : goal.returns-in_err-create_tables-clause-made
returns-in_err-create_tables-clause-made g c = record {
  same_reference = search rules;
  transaction = transaction_off _ c.from_residual.result c.from_residual.ensures.1 c.in_err-create_tables.ensures.added.transaction.kept
      c.in_err-create_tables.ensures.added.transaction.survives;
  says = search rules;
}

pub returns-clause-made : goal.returns-clause-made
returns-clause-made g c = record {
  same_reference = search rules;
  transaction = transaction_on c.in_ok-create_tables.ensures.added.transaction;
  says = λ clean has.
      let old = state g.S.Store c.args.tx.now.conn.now in
      let new = state g.S.Store c.create_tables.new.tx.conn.now in
      let from = c.args.from in
      let texts = subst (λ l. AreDefined l (kept_tables (later from))) (sym c.tables_after.ensures.texts) (are_defined (later from) (later_texts from)) in
      let inside = c.in_ok-create_tables.ensures.inside clean in
      let made = c.in_ok-create_tables.ensures.added.says clean (λ runs. (has runs).0) (kept_tables (later from)) texts in
      makes_missing from c.requires old.now new.now (has inside.was_open).1 made;
}
