use Rattle.std.proofs.Common.{◌∙◌, Some, lit<, subst, sym}
use Rattle.std.proofs.lemmas.Str.Pattern.{split_once_first}
use Rattle.command_line.specs.Values.{SaysOctet}
use Rattle.command_line.proofs.address.octet_and_port.Goals as goal

pub returns-in_err-octet : goal.returns-in_err-octet
returns-in_err-octet c =
    let parts = split_once_first 58 c.args.text.now (Some (c.in_ok-number.number, c.in_ok-number.port)) c.in_ok-number.ensures.cases (lit< tt) in
    rw c.from_residual-in_err-octet.ensures
    (λ octet port ends. c.in_err-octet.ensures octet (subst (λ digits. SaysOctet digits octet) (ends.2.before_is ∙ sym parts.1) ends.3))
