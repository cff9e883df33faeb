use Rattle.std.proofs.Common.{◌∙◌, Some, lit<, subst, sym}
use Rattle.std.proofs.lemmas.Str.Pattern.{split_once_first}
use Rattle.command_line.specs.Values.{SaysOctet}
use Rattle.command_line.proofs.address.octet_before.Goals as goal

pub returns-in_err-octet : goal.returns-in_err-octet
returns-in_err-octet c =
    let parts = split_once_first 46 c.args.text.now (Some (c.in_ok-number.number, c.in_ok-number.rest)) c.in_ok-number.ensures.cases (lit< tt) in
    rw c.from_residual-in_err-octet.ensures
    (λ octet rest begins. c.in_err-octet.ensures octet (subst (λ digits. SaysOctet digits octet) (begins.1.before_is ∙ sym parts.1) begins.2))
