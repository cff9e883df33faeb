use Rattle.std.proofs.Common.{◌≡◌, ◌↔◌, ◌∙◌, Result, Ok, Err, refl, subst, sym, arith}
use Rattle.sts_token.specs.Fields.{TokenFields}
use Rattle.sts_token.specs.Reading.{Reads, reading_of}
use Rattle.sts_token.specs.Transform.{IsTransform}
use Rattle.sts_token.specs.declared.fault.TokenFault.{TokenFault}
use Rattle.sts_token.specs.declared.fault.TokenFault.TheVariants.{NotTwentyDigits, TooLarge, WrongClass, BadCheck, WrongSubclass}
use Rattle.sts_token.proofs.DecimalLemmas.{read_chain}
use Rattle.sts_token.proofs.reading.read.Given.{Over}
use Rattle.sts_token.proofs.reading.read.Goals as goal

-- what the calls computed
computed : (g : Over) (c : goal.After-and_then-2 g) → c.and_then-2.result
    ≡ reading_of (g.T.BlockTransform.inverses c.args.transform.now) c.args.key c.args.text.now
computed g c =
    read_chain (g.T.BlockTransform.inverses c.args.transform.now) c.args.key c.args.text.now c.decimal.result c.ok_or.result
    c.and_then.result c.and_then-2.result
    c.decimal.ensures c.ok_or.ensures.value c.and_then.ensures c.and_then-2.ensures

-- it is one reading exactly if the text reads so
means : (g : Over) (c : goal.After-and_then-2 g) (r : Result TokenFields TokenFault)
    → (c.and_then-2.result ≡ r)
    ↔ Reads (g.T.BlockTransform.forwards c.args.transform.now)
    (g.T.BlockTransform.inverses c.args.transform.now) c.args.key c.args.text.now r
means g c r =
    let laws = g.met.T.BlockTransform in
    let t = c.args.transform.now in
    let transform : IsTransform (g.T.BlockTransform.forwards t) (g.T.BlockTransform.inverses t) =
    record {
      forward_range = laws.forward_range t;
      inverse_range = laws.inverse_range t;
      inverse_undoes = laws.inverse_undoes t;
      forward_undoes = laws.forward_undoes t;
    } in
    let law = c.read_law.ensures in
    let reads = law.computed (g.T.BlockTransform.forwards t) (g.T.BlockTransform.inverses t) c.args.key c.args.text.now transform (omega arith) in (
      λ same. subst (Reads (g.T.BlockTransform.forwards t)
          (g.T.BlockTransform.inverses t) c.args.key c.args.text.now) (sym (computed g c) ∙ same) reads,
      λ other. computed g c
          ∙ law.one_reading (g.T.BlockTransform.forwards t)
          (g.T.BlockTransform.inverses t) c.args.key c.args.text.now _ r transform
          (omega arith) reads other,
    )

pub returns-clause-reading : goal.returns-clause-reading
returns-clause-reading g c = (means g c c.and_then-2.result).0 refl

pub returns-clause-value : goal.returns-clause-value
returns-clause-value g c = computed g c

pub returns-clause-token : goal.returns-clause-token
returns-clause-token g c =
    λ f fields. (λ is. ((means g c (Ok f)).0 is).1, λ token. (means g c (Ok f)).1 (fields, token))

pub returns-clause-not_twenty_digits : goal.returns-clause-not_twenty_digits
returns-clause-not_twenty_digits g c = means g c (Err NotTwentyDigits)

pub returns-clause-too_large : goal.returns-clause-too_large
returns-clause-too_large g c = means g c (Err TooLarge)

pub returns-clause-wrong_class : goal.returns-clause-wrong_class
returns-clause-wrong_class g c = means g c (Err WrongClass)

pub returns-clause-bad_check : goal.returns-clause-bad_check
returns-clause-bad_check g c = means g c (Err BadCheck)

pub returns-clause-wrong_subclass : goal.returns-clause-wrong_subclass
returns-clause-wrong_subclass g c = means g c (Err WrongSubclass)
