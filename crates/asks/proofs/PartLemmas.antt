-- An ask and its parts tell the same.
use Rattle.std.proofs.Common.{◌≡◌, ◌∙◌, List, [], ◌∷◌, Option, None, Some, refl, ap, sym, subst}
use Rattle.papers.specs.declared.file_kind.FileKind.TheVariants as files
use Rattle.office_rules.specs.declared.decision.request.Request.TheVariants as requests
use Rattle.asks.specs.Ask.{AreAskable, IsAskable}
use Rattle.asks.specs.Parts.{Parts, ask_of, parts_of}
use Rattle.asks.specs.declared.ask.Ask.{Ask}
use Rattle.asks.specs.declared.ask.Ask.TheVariants.{Import, Do, Receipt, Look}
use Rattle.asks.specs.declared.lookup.Lookup.TheVariants as lookups

-- An ask is the ask of its parts. The last clause stands for each ask that is not named before.
pub back : (ask : Ask) → IsAskable ask → ask_of (parts_of ask) ≡ Some ask
back (Import files.Meters csv) is = refl
back (Import files.Tariffs csv) is = refl
back (Do (requests.Import rows)) is = absurd is.body.1
back (Do (requests.OpenShift operator)) is = refl
back (Look (lookups.Tariffs None)) is = refl
back (Look (lookups.Meters None)) is = refl
back ask is = refl

-- two asks with the same parts are one
pub one_ask : (a b : Ask) → IsAskable a → IsAskable b → parts_of a ≡ parts_of b → a ≡ b
one_ask a b is are same =
    let whole : Some a ≡ Some b = sym (back a is) ∙ ap ask_of same ∙ back b are in
    cc
