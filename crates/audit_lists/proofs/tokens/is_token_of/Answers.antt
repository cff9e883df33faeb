use Rattle.std.proofs.Common.{◌≡◌, Ok, ap, sym, ◌∙◌, arith}
use Rattle.std.proofs.lemmas.Bool.{false≢true}
use Rattle.std.proofs.lemmas.Bool.Decides.{nat_tests}
use Rattle.office_rules.specs.Law.NewSale.{fields_of}
use Rattle.audit_lists.proofs.TokenLemmas.{fields_same, same_fields}
use Rattle.audit_lists.proofs.tokens.is_token_of.Goals.{then-read-sale, else-read-sale}
use Rattle.audit_lists.proofs.tokens.is_token_of.Goals as goal

pub returns-then-read-sale-2 : goal.returns-then-read-sale-2
returns-then-read-sale-2 g c fields =
    let f = fields_of c.args.sale.now in
    let token = c.in-Ok.ensures.token f fields in
    let here = c.read-in-Ok.inside in
    let amount = c.tenths.ensures.value in
    let tenths = c.tenths-then-read-sale-2.ensures.value in
    elim c.if-read-sale.branch [
      | then-read-sale w ↦
          let value = w.value-is in
          let tid : here.tid ≡ f.tid = grind (arith, nat_tests, value, c.if-read-sale-2.true) in (
            λ t. token.0 (ap Ok (same_fields here.rnd here.tid here.amount c.in-Ok.read f c.read-in-Ok.view_is w.if-read-sale.true tid
                (grind (arith, nat_tests, t, amount, tenths)))),
            λ is.
                let e = token.1 is in
                let same : c.in-Ok.read ≡ f = cc in
                let last = (fields_same here.rnd here.tid here.amount c.in-Ok.read f c.read-in-Ok.view_is same).2 in
                grind (arith, nat_tests, last, amount, tenths),
          )
      | else-read-sale w ↦ let value = w.value-is in let other = w.if-read-sale.false in absurd (grind (arith, nat_tests, value, other, c.if-read-sale-2.true))
    ]

pub returns-else-read-sale-2 : goal.returns-else-read-sale-2
returns-else-read-sale-2 g c fields =
    let f = fields_of c.args.sale.now in
    let token = c.in-Ok.ensures.token f fields in
    let here = c.read-in-Ok.inside in (
      λ t. absurd (false≢true (sym c.if-read-sale-2.false ∙ t)),
      λ is.
          let e = token.1 is in
          let same : c.in-Ok.read ≡ f = cc in
          let all = fields_same here.rnd here.tid here.amount c.in-Ok.read f c.read-in-Ok.view_is same in
          let first = all.0 in
          let second = all.1 in
          elim c.if-read-sale.branch [
            | then-read-sale w ↦ let value = w.value-is in grind (arith, nat_tests, value, second)
            | else-read-sale w ↦ absurd (w.if-read-sale.false first)
          ],
    )

pub returns-in-Err : goal.returns-in-Err
returns-in-Err g c fields = (λ t. absurd (false≢true t), λ is. absurd (let e = (c.in-Err.ensures.token (fields_of c.args.sale.now) fields).1 is in cc))
