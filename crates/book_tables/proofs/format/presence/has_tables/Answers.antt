use Rattle.std.proofs.Common.{subst, sym, ap, ◌∙◌}
use Rattle.std.specs.List.{AllByRecursion, list_all}
use Rattle.std.proofs.lemmas.Bool.{false≢true}
use Rattle.one_table.specs.Comparing.{StandsAs}
use Rattle.one_table.specs.Referring.{is_left_alone}
use Rattle.one_table.specs.Standing.{tree_in}
use Rattle.book_tables.proofs.FormatLemmas.RecognisingLemmas.{all_alone, all_stand, alone_of, stand_lent, stand_of, tables_found}
use Rattle.book_tables.proofs.format.presence.has_tables.Goals as goal

pub returns-then-not-are_left_alone : goal.returns-then-not-are_left_alone
returns-then-not-are_left_alone c =
    let s = c.args.schema.now in
    let is = c.are_left_alone.ensures ∙ alone_of s c.tables_upto-tables.result.names.now
    ∙ ap (list_all (λ name. is_left_alone s (tree_in s name))) c.tables_upto-tables.ensures.names in
    (λ no. absurd (false≢true no), λ has. absurd (false≢true (sym c.if-not-are_left_alone.true ∙ is ∙ all_alone s c.args.format has)))

pub returns-in-Ok : goal.returns-in-Ok
returns-in-Ok c =
    let s = c.args.schema.now in
    let is = c.are_left_alone.ensures ∙ alone_of s c.tables_upto-tables.result.names.now
    ∙ ap (list_all (λ name. is_left_alone s (tree_in s name))) c.tables_upto-tables.ensures.names in
    let alone = sym is ∙ c.if-not-are_left_alone.false in (
      λ all. tables_found s c.args.format alone (subst (AllByRecursion (StandsAs s)) c.tables_upto-tables.ensures.texts
          (stand_of s c.tables_upto-tables.result.texts.now (c.in-Ok.ensures.told.0 all))),
      λ has. c.in-Ok.ensures.told.1 (stand_lent s c.tables_upto-tables.result.texts.now
          (subst (AllByRecursion (StandsAs s)) (sym c.tables_upto-tables.ensures.texts) (all_stand s c.args.format has))),
    )
