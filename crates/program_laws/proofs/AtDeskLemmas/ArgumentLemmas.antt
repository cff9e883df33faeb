-- An argument of a command keeps the rule of its value.
use Rattle.std.proofs.Common.{ℕ, ◌<◌, ◌^◌, Option, None, Some, refl, arith}
use Rattle.sts_fields.specs.Day.{IsDay}
use Rattle.sts_fields.specs.Text.{Text}
use Rattle.sts_token.proofs.KeyLemmas.{key_within}
use Rattle.tariff.specs.Tender.{IsTender}
use Rattle.office_rules.specs.Name.{IsMeterNo, IsName, IsOperator}
use Rattle.asks.specs.Value.{IsOf, IsPageStart, IsTargetNumber, Keeps, kind_of}
use Rattle.asks.specs.declared.value.Value.{Value}
use Rattle.command_line.specs.Commands.{IsNumberOrNone}
use Rattle.command_line.specs.Said.{IsArgument}
use Rattle.command_line.specs.Values.{SaysDay, SaysItem, SaysKey, SaysMeterNo, SaysOperator, SaysRef, SaysTariff, SaysTender}

-- that of a meter's number
pub says_meter : (text : Option Text) (meter : Text) → IsArgument SaysMeterNo text meter → IsMeterNo meter
says_meter None meter says = absurd says
says_meter (Some text) meter says = says.1

-- of an operator's name
pub says_operator : (text : Option Text) (operator : Text) → IsArgument SaysOperator text operator → IsOperator operator
says_operator None operator says = absurd says
says_operator (Some text) operator says = says.1

-- of a ref
pub says_ref : (text : Option Text) (order_ref : Text) → IsArgument SaysRef text order_ref → IsName order_ref
says_ref None order_ref says = absurd says
says_ref (Some text) order_ref says = says.1

-- of a tender
pub says_tender : (text : Option Text) (tender : ℕ) → IsArgument SaysTender text tender → IsTender tender
says_tender None tender says = absurd says
says_tender (Some text) tender says = says.1

-- of a tariff's name
pub says_tariff : (text : Option Text) (name : Text) → IsArgument SaysTariff text name → IsName name
says_tariff None name says = absurd says
says_tariff (Some text) name says = says.1

-- of a day
pub says_day : (text : Option Text) (day : ℕ) → IsArgument SaysDay text day → IsDay day
says_day None day says = absurd says
says_day (Some text) day says = says.range

-- of a key
pub says_key : (text : Option Text) (key : ℕ) → IsArgument SaysKey text key → key < 2 ^ 64
says_key None key says = absurd says
says_key (Some text) key says = key_within key text says

-- of the number of a sale or a shift
pub says_item : (text : Option Text) (number : ℕ) → IsArgument SaysItem text number → IsTargetNumber number
says_item None number says = absurd says
says_item (Some text) number says = record { from_one = says.1; most = omega (arith, says.2) }

-- and of the number after which a page begins
pub says_start : (text : Option Text) (number : ℕ) → IsNumberOrNone text number → IsPageStart number
says_start None number says = record { most = omega (arith, says) }
says_start (Some text) number says = record { most = omega (arith, says.1) }

-- a value that keeps its rule is one of its kind
pub is_of : (v : Value) → Keeps v → IsOf (kind_of v) v
is_of v kept = record { of_kind = refl; kept = kept }
