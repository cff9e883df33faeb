use Rattle.std.proofs.Common.{inr, rules}
use Rattle.std.proofs.lemmas.Bool.{false≢true}
use Rattle.vend_core.specs.Lists.{recorded}
use Rattle.vend_core.proofs.ListsLemmas.FitsLemmas.{adds_if_decided, fits_if_decided, room_if_taken}
use Rattle.vend_core.proofs.lists.Lists.served.Goals as goal

pub apply-requires : goal.apply-requires
apply-requires g c =
    let now = c.args.self.now in
    let o = recorded now.records in
    fits_if_decided (g.T.BlockTransform.forwards now.transform) o c.args.at.now c.in_ok-edit.field-0 c.in-Some.edit
    (c.in_ok-edit.ensures.decided o c.in_ok-facts.ensures.facts) c.in-Some.is

pub returns-in_err-apply-clause-memory : goal.returns-in_err-apply-clause-memory
returns-in_err-apply-clause-memory g c = λ none.
    let now = c.args.self.now in
    let o = recorded now.records in
    inr (adds_if_decided (g.T.BlockTransform.forwards now.transform) o c.args.at.now c.in_ok-edit.field-0 c.in-Some.edit
    (c.in_ok-edit.ensures.decided o c.in_ok-facts.ensures.facts) c.in-Some.is (λ sets. absurd (false≢true (c.in_err-apply.ensures.exact sets))))

pub returns-in_err-edit-clause-memory : goal.returns-in_err-edit-clause-memory
returns-in_err-edit-clause-memory g c = λ none.
    let now = c.args.self.now in
    room_if_taken (g.T.BlockTransform.forwards now.transform) (recorded now.records) c.args.at.now.moment c.args.at.now.nibble c.args.at.now.request
    (c.in_err-edit.ensures.memory (recorded now.records) c.in_ok-facts.ensures.facts (search rules))
