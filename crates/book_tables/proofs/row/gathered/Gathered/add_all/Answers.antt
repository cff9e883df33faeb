use Rattle.std.proofs.Common.{◌<◌, ◌∙◌, ◌^◌, List, [], ◌∷◌, ◌++◌, append-nil, append_assoc, ap, arith, length, subst, sym, take}
use Rattle.std.proofs.lemmas.List.{length-append, length-take-le, take_all, take_more}
use Rattle.office_rules.specs.declared.office.sale.Sale.{Sale}
use Rattle.book_tables.specs.row.Gathered.{IsGathered}
use Rattle.book_tables.proofs.row.gathered.Gathered.add_all.Goals as goal

pub all-init : goal.all-init
all-init c = record {
  within = omega arith;
  gathered = λ before few held. subst (λ (l : List Sale). IsGathered l c.args.self.now) (sym (append-nil before)) held;
}

pub all-preserved : goal.all-preserved
all-preserved c =
    let items = c.args.sales.now in
    let i = c.all.sale-index in
    let s = c.sale-item.result in
    record {
      within = omega (arith, c.all-test.true);
      gathered = λ before few held.
          let first = c.all.invariant.gathered before few held in
          let short : length (before ++ take i items) < 2 ^ 32 =
          omega (arith, length-append before (take i items), length-take-le i items c.all.invariant.within, c.all-test.true, few) in
          let more = c.in_ok-add.ensures (before ++ take i items) short first in
          let next = take_more items i s c.all-test.true ∙ ap (λ (x : Sale). take i items ++ x ∷ []) (sym c.sale-item.is) in
          subst (λ (l : List Sale). IsGathered l c.add.new.self)
          (append_assoc before (take i items) (s ∷ []) ∙ ap (λ (l : List Sale). before ++ l) (sym next)) more;
    }

pub returns : goal.returns
returns c = λ before few held. subst (λ (l : List Sale). IsGathered (before ++ l) c.all.self)
    (take_all c.all.sale-index c.args.sales.now c.all-test.false) (c.all.invariant.gathered before few held)
