use Rattle.std.proofs.Common.{◌≡◌, ◌∙◌, [], ℕ, List, append-nil, arith, length, map, ap, sym}
use Rattle.std.proofs.lemmas.Bool.Decides.{nat_tests}
use Rattle.records.specs.Record.{now}
use Rattle.records.proofs.MemberLemmas.{not_whole}
use Rattle.records.proofs.columns.read_whole.Goals as goal

pub returns-in_default : goal.returns-in_default
returns-in_default g c = λ values h. c.in_default.ensures values [] h.0 (h.1 ∙ sym (append-nil _))

pub returns-else-is_empty : goal.returns-else-is_empty
returns-else-is_empty g c =
    let found = c.in-Some.ensures in
    not_whole g.T.Columns.keep g.T.Columns.cells_of c.columns_law.ensures c.args.text.now (map now c.args.names.now) c.in-Some.values c.in-Some.rest.now found.0 found.1
    (λ none. let test = c.if-is_empty.ensures in let nothing : length c.in-Some.rest.now ≡ 0 = ap length none in grind (arith, nat_tests))
