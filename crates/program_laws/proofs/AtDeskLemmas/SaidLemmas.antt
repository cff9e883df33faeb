-- What the words of a command ask can be asked of a desk.
use Rattle.std.proofs.Common.{◌≡◌, ◌∙◌, ℕ, ◌≤◌, Bool, true, false, length, Option, None, Some, refl, sym, ap, subst, arith}
use Rattle.std.specs.Prelude.{List, codes}
use Rattle.clap.specs.Walk.{Row}
use Rattle.sts_fields.specs.Text.{Text}
use Rattle.papers.specs.declared.file_kind.FileKind.{FileKind}
use Rattle.papers.specs.declared.file_kind.FileKind.TheVariants as files
use Rattle.office_rules.specs.declared.decision.request.Request.{Request}
use Rattle.office_rules.specs.declared.decision.request.Request.TheVariants as requests
use Rattle.conversation.specs.message.Framing.{longest_body}
use Rattle.asks.specs.declared.ask.Ask.{Ask}
use Rattle.asks.specs.declared.ask.Ask.TheVariants as asks
use Rattle.asks.specs.declared.lookup.Lookup.{Lookup}
use Rattle.asks.specs.declared.lookup.Lookup.TheVariants as lookups
use Rattle.asks.specs.declared.value.Value.TheVariants as values
use Rattle.desk_client.specs.Sent.{CanSend}
use Rattle.command_line.specs.Commands.{SaysAsk, SaysAskWords, SaysListed, SaysOffice, SaysRequest}
use Rattle.command_line.specs.Said.{IsArgumentOr, IsOptionalArgument, parsed_argument}
use Rattle.command_line.specs.Values.{SaysFlag, SaysMeterNo, SaysTariff, flag_text, no_flag}
use Rattle.command_line.specs.declared.office_words.AskWords.{AskWords}
use Rattle.command_line.specs.declared.office_words.AskWords.TheVariants as words
use Rattle.command_line.specs.declared.office_words.OfficeWords.{OfficeWords}
use Rattle.desk_commands.specs.ListedAtDesk.{IsNoList}
use Rattle.program_laws.specs.AtDesk.{AskForOne, AskForPages, IsAskedByOne}
use Rattle.program_laws.proofs.LookupLemmas.{lookup_said}
use Rattle.program_laws.proofs.AtDeskLemmas.ArgumentLemmas.{is_of, says_day, says_item, says_key, says_meter, says_operator, says_ref, says_start, says_tariff, says_tender}
use Rattle.program_laws.proofs.AtDeskLemmas.PageLemmas.{CanAsk, can_list_meters, can_list_sales, can_list_shifts, can_list_tariffs}

-- the file of an import fits into a message
import_can : (kind : FileKind) (csv : List ℕ) → length csv ≤ longest_body → CanSend (asks.Import kind csv)
import_can files.Meters csv few = record { askable = record { target = tt; body = (tt, tt) }; fits = few }
import_can files.Tariffs csv few = record { askable = record { target = tt; body = (tt, tt) }; fits = few }

request_can : (name : Text) (rows : List Row) (request : Request) → SaysRequest name rows request → CanSend (asks.Do request)
request_can name rows (requests.SetTariff meter tariff) says = record {
  askable = record {
    target = (is_of (values.Meter meter) (says_meter _ meter says.1), tt);
    body = ((is_of (values.Tariff tariff) (says_tariff _ tariff says.2), tt), refl);
  };
  fits = tt;
}
request_can name rows (requests.WithdrawSteps tariff from) says = record {
  askable = record {
    target = (is_of (values.Tariff tariff) (says_tariff _ tariff says.1), (is_of (values.Day from) (says_day _ from says.2), tt));
    body = (tt, tt);
  };
  fits = tt;
}
request_can name rows (requests.MoveBase meter base) says = record {
  askable = record {
    target = (is_of (values.Meter meter) (says_meter _ meter says.1), tt);
    body = ((is_of (values.Base base) tt, tt), refl);
  };
  fits = tt;
}
request_can name rows (requests.SetKey meter key) says = record {
  askable = record {
    target = (is_of (values.Meter meter) (says_meter _ meter says.1), tt);
    body = ((is_of (values.Key key) (says_key _ key says.2), tt), refl);
  };
  fits = tt;
}
request_can name rows (requests.OpenShift operator) says = record {
  askable = record { target = tt; body = ((is_of (values.Operator operator) (says_operator _ operator says.2), tt), refl) };
  fits = tt;
}
request_can name rows (requests.CloseShift operator) says = record {
  askable = record { target = tt; body = ((is_of (values.Operator operator) (says_operator _ operator says.2), tt), refl) };
  fits = tt;
}
request_can name rows (requests.Sell order) says = record {
  askable = record {
    target = tt;
    body = (
      (
        is_of (values.Meter order.meter) (says_meter _ order.meter says.1.meter),
        (
          is_of (values.Operator order.operator) (says_operator _ order.operator says.1.operator),
          (
            is_of (values.Ref order.order_ref) (says_ref _ order.order_ref says.1.order_ref),
            (is_of (values.Tender order.tender) (says_tender _ order.tender says.1.tender), tt),
          ),
        ),
      ),
      refl,
    );
  };
  fits = tt;
}
request_can name rows (requests.ShiftReport number) says = record {
  askable = record { target = (is_of (values.Number number) (says_item _ number says.2), tt); body = (tt, tt) };
  fits = tt;
}
request_can name rows request says = absurd says

ask_can : (name : Text) (rows : List Row) (ask : Ask) → SaysAsk name rows ask → CanSend ask
ask_can name rows (asks.Import kind csv) says = absurd says
ask_can name rows (asks.Do request) says = request_can name rows request says
ask_can name rows (asks.Receipt number) says = record {
  askable = record { target = (is_of (values.Number number) (says_item _ number says.2), tt); body = (tt, tt) };
  fits = tt;
}
ask_can name rows (asks.Look lookup) says = (lookup_said name rows lookup says).can

-- a flag says one thing
one_flag : (text : Text) (flag : Bool) → text ≡ flag_text false → text ≡ flag_text flag → flag ≡ false
one_flag text false lines says = refl
one_flag text true lines says = absurd (omega (arith, ap length (sym lines ∙ says)))

says_lines : (text : Option Text) (json : Bool) → IsArgumentOr SaysFlag no_flag text false → IsArgumentOr SaysFlag no_flag text json → json ≡ false
says_lines None json lines says = one_flag no_flag json lines says
says_lines (Some text) json lines says = one_flag text json lines says

-- one thing is asked by one message
by_one : (name : Text) (rows : List Row) (json : Bool) (ask : Ask) → SaysAsk name rows ask
    → IsArgumentOr SaysFlag no_flag (parsed_argument (codes "json") rows) json → IsAskedByOne json ask
by_one name rows json (asks.Look (lookups.LastSale meter)) says flag = says_lines _ json says.2 flag
by_one name rows json (asks.Look lookups.Health) says flag = says
by_one name rows json (asks.Look (lookups.Tariffs after)) says flag = says
by_one name rows json (asks.Look (lookups.Meters after)) says flag = says
by_one name rows json (asks.Look (lookups.Shifts after)) says flag = says
by_one name rows json (asks.Look (lookups.Sales after)) says flag = says
by_one name rows json ask says flag = tt

one_can : (name : Text) (rows : List Row) (json : Bool) (ask : Ask) → SaysAsk name rows ask
    → IsArgumentOr SaysFlag no_flag (parsed_argument (codes "json") rows) json → CanSend ask × IsAskedByOne json ask
one_can name rows json ask says flag = (ask_can name rows ask says, by_one name rows json ask says flag)

-- what the words ask can be asked of a desk by one message
pub says_askable : (name : Text) (rows : List Row) (it : OfficeWords) (ask : Ask) → SaysOffice name rows it → AskForOne it.ask ask
    → CanSend ask × IsAskedByOne it.json ask
says_askable name rows it ask says asked = by_words it.ask says.ask asked
  where
    by_words : (asked_by : AskWords) → SaysAskWords name rows asked_by → AskForOne asked_by ask → CanSend ask × IsAskedByOne it.json ask
    by_words (words.Import kind path) said (csv, few, is) =
        subst (λ (ask : Ask). CanSend ask × IsAskedByOne it.json ask) (sym is) (import_can kind csv few, tt)
    by_words (words.Ask one) said is =
        subst (λ (ask : Ask). CanSend ask × IsAskedByOne it.json ask) (sym is) (one_can name rows it.json one said says.json)
    by_words (words.List list) said none = absurd none
    by_words words.Export said none = absurd none

-- ---- lists

tariffs_can : (text : Option Text) (after : Option Text) → IsOptionalArgument SaysTariff text after → CanAsk (lookups.Tariffs after)
tariffs_can None None says = record { askable = record { target = tt; body = (tt, tt) }; fits = tt }
tariffs_can None (Some name) says = absurd says
tariffs_can (Some text) None says = absurd says
tariffs_can (Some text) (Some name) says = can_list_tariffs name says.1

meters_can : (text : Option Text) (after : Option Text) → IsOptionalArgument SaysMeterNo text after → CanAsk (lookups.Meters after)
meters_can None None says = record { askable = record { target = tt; body = (tt, tt) }; fits = tt }
meters_can None (Some meter) says = absurd says
meters_can (Some text) None says = absurd says
meters_can (Some text) (Some meter) says = can_list_meters meter says.1

listed_can : (rows : List Row) (list : Lookup) → SaysListed rows list → CanAsk list × (¬ IsNoList list)
listed_can rows (lookups.Tariffs after) says = (tariffs_can _ after says.1, λ none. none)
listed_can rows (lookups.Meters after) says = (meters_can _ after says.1, λ none. none)
listed_can rows (lookups.Shifts after) says = (can_list_shifts after (says_start _ after says.1).most, λ none. none)
listed_can rows (lookups.Sales after) says = (can_list_sales after (says_start _ after says.1).most, λ none. none)
listed_can rows list says = absurd says

-- so can the first page of a list
pub says_listed : (name : Text) (rows : List Row) (it : OfficeWords) (list : Lookup) → SaysOffice name rows it → AskForPages it.ask list
    → CanSend (asks.Look list) × (¬ IsNoList list)
says_listed name rows it list says asked = by_words it.ask says.ask asked
  where
    by_words : (asked_by : AskWords) → SaysAskWords name rows asked_by → AskForPages asked_by list → CanAsk list × (¬ IsNoList list)
    by_words (words.List other) said is = subst (λ (list : Lookup). CanAsk list × (¬ IsNoList list)) (sym is) (listed_can rows other said.1)
    by_words words.Export said is = subst (λ (list : Lookup). CanAsk list × (¬ IsNoList list)) (sym is) (can_list_sales 0 (omega arith), λ none. none)
    by_words (words.Import kind path) said none = absurd none
    by_words (words.Ask one) said none = absurd none
