use Rattle.std.proofs.Common.{◌≡◌, ◌-◌, ℕ, arith, subst, suc}
use Rattle.std.specs.Prelude.{codes}
use Rattle.sqlite.specs.Held.{state}
use Rattle.one_table.proofs.ChangeLemmas.{on_ok}
use Rattle.one_table.specs.Standing.{place_in, tree_in}
use Rattle.book_tables.specs.Tables.{about_table}
use Rattle.book_tables.specs.format.Making.{TellsPresent}
use Rattle.book_tables.specs.writing.Writes.{format_write}
use Rattle.book_tables.specs.writing.Writing.{WritesTables}
use Rattle.book_tables.proofs.OfficeTableLemmas.{about_in}
use Rattle.book_tables.proofs.FormatLemmas.MakingLemmas.{new_format_means, new_format_terms, new_format_whole, tells_first}
use Rattle.book_tables.proofs.FormatLemmas.TellingLemmas.{format_set_means, format_set_query, format_set_whole, tells_present}
use Rattle.book_tables.proofs.format.upgrade.tell_present.Goals as goal

pub returns-then-before-eq0 : goal.returns-then-before-eq0
returns-then-before-eq0 g c =
    let old = state g.S.Store c.args.tx.now.conn.now in
    let new = state g.S.Store c.put.new.tx.conn.now in
    let s = c.args.tx.now.conn.now.schema in
    let tree = tree_in s (codes "about") in
    let none : 0 ≡ c.args.before = omega (arith, c.if-before-eq0.true) in
    record {
      writes = record {
        same_reference = c.put.ensures.added.same_reference;
        transaction = c.put.ensures.added.transaction;
        says = subst (λ (n : ℕ). WritesTables (format_write n) (TellsPresent n) old new c.put.result) none (record {
          made = λ clean has.
              on_ok c.put.result (tells_first old new) (c.put.ensures.added.says clean (about_table tree) (place_in s (codes "about"))
              new_format_terms (new_format_means tree) (λ runs. (about_in.there s (has runs)).0.has));
          ends = λ clean has. c.put.ensures.ends clean (about_table tree) (place_in s (codes "about")) new_format_terms (new_format_means tree)
              new_format_whole (λ runs. (about_in.there s (has runs)).0.has);
        });
      };
    }

pub returns-else-before-eq0 : goal.returns-else-before-eq0
returns-else-before-eq0 g c =
    let old = state g.S.Store c.args.tx.now.conn.now in
    let new = state g.S.Store c.set.new.tx.conn.now in
    let s = c.args.tx.now.conn.now.schema in
    let tree = tree_in s (codes "about") in
    let below = c.args.before - 1 in
    let some : suc below ≡ c.args.before = omega (arith, c.if-before-eq0.false) in
    record {
      writes = record {
        same_reference = c.set.ensures.changed.same_reference;
        transaction = c.set.ensures.changed.transaction;
        says = subst (λ (n : ℕ). WritesTables (format_write n) (TellsPresent n) old new c.set.result) some (record {
          made = λ clean has.
              on_ok c.set.result (tells_present old new below)
              (c.set.ensures.changed.says clean (about_table tree) (place_in s (codes "about")) (format_set_query tree) (format_set_means tree)
              (λ runs. let there = about_in.there s (has runs) in (there.0.has, there.1)));
          ends = λ clean has. c.set.ensures.ends clean (about_table tree) (place_in s (codes "about")) (format_set_query tree)
              (format_set_means tree) format_set_whole (λ runs. (about_in.there s (has runs)).0.has);
        });
      };
    }
