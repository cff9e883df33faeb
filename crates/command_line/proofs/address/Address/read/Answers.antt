use Rattle.std.proofs.Common.{subst}
use Rattle.command_line.specs.Address.{BeginsWithOctet, EndsWithPort}
use Rattle.command_line.proofs.AddressLemmas.{same_rest}
use Rattle.command_line.proofs.address.Address.read.Goals as goal

pub returns-in_err-first : goal.returns-in_err-first
returns-in_err-first c = rw c.from_residual.ensures (λ address says. c.in_err-first.ensures address.first says.from_second says.first)

pub returns-in_err-second : goal.returns-in_err-second
returns-in_err-second c =
    rw c.from_residual-in_err-second.ensures
    (λ address says.
    let after1 = same_rest says.first c.in_ok-first.ensures in
    c.in_err-second.ensures address.second says.from_third (subst (λ rest. BeginsWithOctet rest address.second says.from_third) after1 says.second))

pub returns-in_err-third : goal.returns-in_err-third
returns-in_err-third c =
    rw c.from_residual-in_err-third.ensures
    (λ address says.
    let after1 = same_rest says.first c.in_ok-first.ensures in
    let after2 = same_rest (subst (λ rest. BeginsWithOctet rest address.second says.from_third) after1 says.second) c.in_ok-second.ensures in
    c.in_err-third.ensures address.third says.from_fourth (subst (λ rest. BeginsWithOctet rest address.third says.from_fourth) after2 says.third))

pub returns-in_err-fourth : goal.returns-in_err-fourth
returns-in_err-fourth c =
    rw c.from_residual-in_err-fourth.ensures
    (λ address says.
    let after1 = same_rest says.first c.in_ok-first.ensures in
    let after2 = same_rest (subst (λ rest. BeginsWithOctet rest address.second says.from_third) after1 says.second) c.in_ok-second.ensures in
    let after3 = same_rest (subst (λ rest. BeginsWithOctet rest address.third says.from_fourth) after2 says.third) c.in_ok-third.ensures in
    c.in_err-fourth.ensures address.fourth address.port (subst (λ rest. EndsWithPort rest address.fourth address.port) after3 says.fourth))

pub returns : goal.returns
returns c = record {
  from_second = c.in_ok-first.rest.now;
  from_third = c.in_ok-second.rest.now;
  from_fourth = c.in_ok-third.rest.now;
  first = c.in_ok-first.ensures;
  second = c.in_ok-second.ensures;
  third = c.in_ok-third.ensures;
  fourth = c.in_ok-fourth.ensures;
}
