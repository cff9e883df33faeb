-- Why a text is not read: the numbers and names of the faults.
use Rattle.std.specs.Prelude.{ℕ, codes}
use Rattle.sts_fields.specs.Text.{Text}
use Rattle.sts_token.specs.declared.fault.TokenFault.{TokenFault}
use Rattle.sts_token.specs.declared.fault.TokenFault.TheVariants.{NotTwentyDigits, TooLarge}
use Rattle.sts_token.specs.declared.fault.TokenFault.TheVariants.{WrongClass, BadCheck}
use Rattle.sts_token.specs.declared.fault.TokenFault.TheVariants.{WrongSubclass}

-- the number that a user meets
abbrev pub token_fault_number : TokenFault → ℕ
token_fault_number NotTwentyDigits = 1
token_fault_number TooLarge = 2
token_fault_number WrongClass = 3
token_fault_number BadCheck = 4
token_fault_number WrongSubclass = 5

-- the name that a user meets
abbrev pub token_fault_name : TokenFault → Text
token_fault_name NotTwentyDigits = codes "NotTwentyDigits"
token_fault_name TooLarge = codes "TooLarge"
token_fault_name WrongClass = codes "WrongClass"
token_fault_name BadCheck = codes "BadCheck"
token_fault_name WrongSubclass = codes "WrongSubclass"
