-- The command line is one of which `clap` states what it makes of the words.
use Rattle.std.proofs.Common.{◌≡◌, ◌∙◌, List, [], option_map, Option, Some, None, Result, Ok, Err, refl, true, ap, subst}
use Rattle.std.specs.Box.{box_value}
use Rattle.std.specs.Borrow.{Bor}
use Rattle.std.specs.Prelude.{Box, IfOk, MatchResult}
use Rattle.clap.proofs.OnLiterals.{clap_on_literals}
use Rattle.clap.specs.Faults.{fault_of, is_simple_and_free}
use Rattle.clap.specs.Kinds.{FailsBy, HasKind}
use Rattle.clap.specs.Matches.{found_of, subcommand_name_of}
use Rattle.clap.specs.declared.parser.matches.SubCommand.{SubCommand}
use Rattle.clap.specs.declared.parser.matches.ArgMatches.TheViews.{out-ArgMatches, out-SubCommand}
use Rattle.clap.specs.Simple.{App, HasMatchesOf, is_simple, subcommand_of, subcommand_rows, subcommand_rows_of}
use Rattle.clap.specs.Walk.{Row, rows_of}
use Rattle.clap.specs.declared.error.Error.{Error}
use Rattle.clap.specs.declared.parser.matches.ArgMatches.{ArgMatches}
use Rattle.sts_fields.specs.Text.{Text}
use Rattle.command_line.specs.Line.{trial_command, import_command, tariff_command, withdraw_command, base_command, key_command, shift_command, sell_command, report_command, show_command, list_command, offer_command, meter_command, quote_command, serve_command, selfcheck_command, audit_command}
use Rattle.command_line.specs.Line.{command_in, faults_in, meant_by, vend_line}
use Rattle.command_line.specs.Said.{argument_rows}

-- the line of `vend` is simple: `clap` states what a parse of it matches
pub is_simple_line : is_simple vend_line ≡ true
unfolding clap_on_literals trial_command import_command tariff_command withdraw_command base_command key_command shift_command sell_command report_command show_command list_command
    offer_command meter_command quote_command serve_command selfcheck_command audit_command
is_simple_line = refl

-- and no argument of it has a rule on another: `clap` states the faults of words
pub is_free_line : is_simple_and_free vend_line ≡ true
unfolding clap_on_literals trial_command import_command tariff_command withdraw_command base_command key_command shift_command sell_command report_command show_command list_command
    offer_command meter_command quote_command serve_command selfcheck_command audit_command
is_free_line = refl

-- what a parse of the line gives
pub parsed : (r : Result ArgMatches Error) (app : App) (meant words : List Text) → meant ≡ meant_by words → app ≡ vend_line
    → (is_simple_and_free app ≡ true → FailsBy (fault_of app meant) r) → IfOk r (HasMatchesOf app meant)
    → MatchResult r (λ matches. (faults_in words ≡ []) × (subcommand_rows_of matches ≡ command_in words)) (HasKind (faults_in words))
unfolding faults_in command_in
parsed (Ok m) app meant words means is kinds matches =
    let same = subst (λ (a : App). FailsBy (fault_of a meant) (Ok m)) is (kinds (ap is_simple_and_free is ∙ is_free_line)) in
    let rows = subst (λ (a : App). HasMatchesOf a meant m) is matches in
    subst (λ (texts : List Text). (fault_of vend_line texts ≡ []) × (subcommand_rows_of m ≡ subcommand_of vend_line texts)) means
    (same, (rows is_simple_line).1)
parsed (Err e) app meant words means is kinds matches =
    let same = subst (λ (a : App). HasKind (fault_of a meant) e) is (kinds (ap is_simple_and_free is ∙ is_free_line)) in
    subst (λ (texts : List Text). HasKind (fault_of vend_line texts) e) means same

-- the name and the rows of the command that was met
module _ {Z : Type 0} where
  name_there : (o : Option (Box SubCommand Z)) → option_map (λ b. (out-SubCommand (box_value b)).name.now) o ≡ option_map (λ p. p.0) (subcommand_rows o)
  name_there None = refl
  name_there (Some b) = refl

-- the command that was met has the name that stands beside its rows
pub met_name : (m : ArgMatches) → subcommand_name_of m ≡ option_map (λ p. p.0) (subcommand_rows_of m)
met_name m = name_there (out-ArgMatches m).subcommand

-- the command that was met, by its name and its rows
pub met : (r : Option (Bor Text × Bor ArgMatches)) (o : Option (Text × List Row)) → option_map (λ p. p.0.now) r ≡ option_map (λ p. p.0) o
    → option_map (λ p. rows_of (found_of p.1.now)) r ≡ option_map (λ p. p.1) o
    → option_map (λ p. (p.0.now, argument_rows p.1.now)) r ≡ o
unfolding argument_rows
met None None name rows = refl
met None (Some y) name rows = cc
met (Some x) None name rows = cc
met (Some x) (Some y) name rows =
    let same_name : x.0.now ≡ y.0 = cc in
    let same_rows : rows_of (found_of x.1.now) ≡ y.1 = cc in
    ap Some (λ i. (same_name i, same_rows i))
