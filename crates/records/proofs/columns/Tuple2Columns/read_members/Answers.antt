use Rattle.std.proofs.Common.{◌∙◌, ◌++◌, map, sym}
use Rattle.records.specs.Record.{members_text, now}
use Rattle.records.proofs.MemberLemmas.{begins, fewer, first_member, others, same_member}
use Rattle.records.proofs.columns.Tuple2Columns.read_members.Goals as goal

pub returns-in_default-member_at : goal.returns-in_default-member_at
returns-in_default-member_at g c = λ item rest is e.
    let names = c.args.names.now in
    let cell = g.A.Column.cell_of item.0 in
    let cells = g.B.Columns.cells_of item.1 in
    c.in_default-member_at.ensures cell (members_text _ (map now (others names)) cells ++ rest) (c.column_law.ensures.tellable item.0 is.kept.0)
    (begins (map now (others names)) cells rest) (e ∙ first_member c.args.later names _ cell cells rest c.in-len1-up.len_at_least)

pub returns-in_default-of_cell : goal.returns-in_default-of_cell
returns-in_default-of_cell g c = λ item rest is e.
    let found = c.in-Some.ensures in
    let same = same_member c.args.later c.args.names.now _ c.args.text.now _ c.in-Some.rest.now (g.A.Column.cell_of item.0) (g.B.Columns.cells_of item.1) rest
    c.in-len1-up.len_at_least found.0 found.1 found.2 (c.column_law.ensures.tellable item.0 is.kept.0) e in
    c.in_default-of_cell.ensures item.0 (is.kept.0, sym same.0)

pub returns-in-None : goal.returns-in-None
returns-in-None g c = λ item rest is e.
    let found = c.in-Some.ensures in
    let cells = g.B.Columns.cells_of item.1 in
    let same = same_member c.args.later c.args.names.now _ c.args.text.now _ c.in-Some.rest.now (g.A.Column.cell_of item.0) cells rest
    c.in-len1-up.len_at_least found.0 found.1 found.2 (c.column_law.ensures.tellable item.0 is.kept.0) e in
    c.in-None.ensures item.1 rest (record { kept = is.kept.1; named = fewer c.args.names.now _ is.named }) same.1
