use Rattle.std.proofs.Common.{◌≡◌, ◌↔◌, ◌⊎◌, inl, inr, List, Err, take, subst, arith}
use Rattle.std.specs.Prelude.{IsOk}
use Rattle.tariff.specs.declared.fault.StepsFault.TheVariants.{BadPrice, EndMissing, Memory, NotRising, TooMany}
use Rattle.tariff.specs.Steps.{IsSteps}
use Rattle.tariff.specs.StepsFault.{FirstFault}
use Rattle.tariff.specs.declared.step.Step.{Step}
use Rattle.tariff.proofs.PiecesLemmas.{are_first_all}
use Rattle.tariff.proofs.OutcomeLemmas.{IsTextOf, steps_iff, too_many_iff}
use Rattle.tariff.proofs.steps.Steps.of_text.Goals as goal

pub returns-then-pieces-gt-MAX-clause-reads : goal.returns-then-pieces-gt-MAX-clause-reads
returns-then-pieces-gt-MAX-clause-reads c =
    let told = c.in-Some.ensures in
    let count = told.2.count in
    too_many_iff c.args.text.now IsSteps _ told.0 told.1 (omega arith) (λ s p. p.count.1) (λ q. elim q [ inl e ↦ cc | inr e ↦ cc ])

pub returns-then-pieces-gt-MAX-clause-end_missing :
    goal.returns-then-pieces-gt-MAX-clause-end_missing
returns-then-pieces-gt-MAX-clause-end_missing c =
    let told = c.in-Some.ensures in
    let count = told.2.count in
    too_many_iff c.args.text.now (λ s. FirstFault s EndMissing) _ told.0 told.1 (omega arith)
    (λ s p. p.0.1) (λ e. cc)

pub returns-then-pieces-gt-MAX-clause-not_rising :
    goal.returns-then-pieces-gt-MAX-clause-not_rising
returns-then-pieces-gt-MAX-clause-not_rising c =
    let told = c.in-Some.ensures in
    let count = told.2.count in
    too_many_iff c.args.text.now (λ s. FirstFault s NotRising) _ told.0 told.1 (omega arith)
    (λ s p. p.0.1) (λ e. cc)

pub returns-then-pieces-gt-MAX-clause-bad_price : goal.returns-then-pieces-gt-MAX-clause-bad_price
returns-then-pieces-gt-MAX-clause-bad_price c =
    let told = c.in-Some.ensures in
    let count = told.2.count in
    too_many_iff c.args.text.now (λ s. FirstFault s BadPrice) _ told.0 told.1 (omega arith)
    (λ s p. p.0.1) (λ e. cc)

-- the steps that are read are those of the text
same : (c : goal.After-read) → take c.in-Some.pieces.count c.in-Some.pieces.first
    ≡ c.in-Some.ensures.0
same c = are_first_all c.in-Some.ensures.0 c.in-Some.pieces.first c.in-Some.pieces.count c.if-pieces-gt-MAX.false c.in-Some.ensures.2

-- what they are answered, the text is
told : (c : goal.After-read) (P : List Step → Type 0) (Q : Type 0)
    → Q ↔ P (take c.in-Some.pieces.count c.in-Some.pieces.first) → Q ↔ IsTextOf c.args.text.now P
told c P Q iff = steps_iff c.args.text.now P Q c.in-Some.ensures.0 c.in-Some.ensures.1
    (subst (λ (s : List Step). Q ↔ P s) (same c) iff)

pub returns-clause-reads : goal.returns-clause-reads
returns-clause-reads c =
    told c IsSteps (IsOk c.read.result ⊎ (c.read.result ≡ Err Memory)) c.read.ensures.reads

pub returns-clause-too_many : goal.returns-clause-too_many
returns-clause-too_many c =
    told c (λ s. FirstFault s TooMany) (c.read.result ≡ Err TooMany) c.read.ensures.too_many

pub returns-clause-end_missing : goal.returns-clause-end_missing
returns-clause-end_missing c = told c (λ s. FirstFault s EndMissing)
    (c.read.result ≡ Err EndMissing) c.read.ensures.end_missing

pub returns-clause-not_rising : goal.returns-clause-not_rising
returns-clause-not_rising c =
    told c (λ s. FirstFault s NotRising) (c.read.result ≡ Err NotRising) c.read.ensures.not_rising

pub returns-clause-bad_price : goal.returns-clause-bad_price
returns-clause-bad_price c =
    told c (λ s. FirstFault s BadPrice) (c.read.result ≡ Err BadPrice) c.read.ensures.bad_price
