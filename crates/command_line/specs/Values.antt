-- What a word says: each kind of value with the texts that stand for it.
use Rattle.std.specs.Prelude.{◌≡◌, ℕ, ◌<◌, ◌≤◌, ◌^◌, ⊤, Bool, true, false, List, [], ◌∷◌, Option}
use Rattle.std.specs.Prelude.{Some, None, codes}
use Rattle.std.specs.Borrow.{Bor}
use Rattle.std.specs.Str.Parse.{IsNumeral, digits_value}
use Rattle.sts_fields.specs.Base.{year_of}
use Rattle.sts_fields.specs.Day.{IsDayText}
use Rattle.sts_fields.specs.Moment.{IsMoment}
use Rattle.sts_fields.specs.Text.{Text}
use Rattle.sts_fields.specs.declared.base.Base.{Base}
use Rattle.sts_token.specs.Key.{IsKeyText}
use Rattle.tariff.specs.Cost.{greatest_prior}
use Rattle.tariff.specs.Steps.{IsSteps}
use Rattle.tariff.specs.StepsText.{IsStepsText}
use Rattle.tariff.specs.Tender.{IsTender}
use Rattle.tariff.specs.declared.step.Step.{Step}
use Rattle.office_rules.specs.Name.{IsMeterNo, IsName, IsOperator}
use Rattle.command_line.specs.declared.syncs.Syncs.{Syncs}
use Rattle.command_line.specs.declared.syncs.Syncs.TheVariants.{Once, Twice}
use Rattle.command_line.specs.declared.transform.Shipped.{Shipped}
use Rattle.command_line.specs.declared.transform.Shipped.TheVariants.{Plain, Demo}

-- the text is the number in decimal digits; zeros may stand in front
abbrev pub SaysNumber : Text → ℕ → Type 0
SaysNumber text n = IsNumeral 10 text × (digits_value 10 text ≡ n)

-- a number of 64 bits
abbrev pub SaysCount : Text → ℕ → Type 0
SaysCount text n = SaysNumber text n × (n < 2 ^ 64)

-- an amount in tenths of a kWh, whether a token can carry it or not
abbrev pub SaysAmount : Text → ℕ → Type 0
SaysAmount text tenths = SaysNumber text tenths × (tenths < 2 ^ 32)

-- a moment, in Unix seconds
abbrev pub SaysMoment : Text → ℕ → Type 0
SaysMoment text seconds = SaysNumber text seconds × IsMoment seconds

-- a day of UTC, by its date as YYYY-MM-DD
abbrev pub SaysDay : Text → ℕ → Type 0
SaysDay text day = IsDayText text day

-- how many connections are served
abbrev pub SaysConnections : Text → ℕ → Type 0
SaysConnections text count = SaysNumber text count × (1 ≤ count) × (count ≤ 10 ^ 6)

-- for how many seconds a file is waited for: an hour at the most
abbrev pub SaysWait : Text → ℕ → Type 0
SaysWait text seconds = SaysNumber text seconds × (seconds ≤ 3600)

-- where they are left out a file is waited for for five seconds
abbrev pub default_wait : Text
default_wait = codes "5"

-- a number of an address, and its port
abbrev pub SaysOctet : Text → ℕ → Type 0
SaysOctet text octet = SaysNumber text octet × (octet < 256)

abbrev pub SaysPort : Text → ℕ → Type 0
SaysPort text port = SaysNumber text port × (port < 65536)

-- a base date, by its year
abbrev pub SaysBase : Text → Base → Type 0
SaysBase text base = SaysNumber text (year_of base)

-- a key, in sixteen lower-case hexadecimal digits
abbrev pub SaysKey : Text → ℕ → Type 0
SaysKey text key = IsKeyText key text

-- the steps of a tariff
abbrev pub SaysSteps : Text → List Step → Type 0
SaysSteps text steps = IsStepsText text steps × IsSteps steps

-- the tenths that a month had before
abbrev pub SaysPrior : Text → ℕ → Type 0
SaysPrior text prior = SaysNumber text prior × (prior ≤ greatest_prior)

-- a tender, in whole cents
abbrev pub SaysTender : Text → ℕ → Type 0
SaysTender text cents = SaysNumber text cents × IsTender cents

-- the number of a sale or a shift
abbrev pub SaysItem : Text → ℕ → Type 0
SaysItem text number = SaysNumber text number × (1 ≤ number) × (number ≤ 10 ^ 9)

abbrev pub SaysOperator : Text → Text → Type 0
SaysOperator text operator = (text ≡ operator) × IsOperator operator

abbrev pub SaysRef : Text → Text → Type 0
SaysRef text order_ref = (text ≡ order_ref) × IsName order_ref

abbrev pub SaysMeterNo : Text → Text → Type 0
SaysMeterNo text meter = (text ≡ meter) × IsMeterNo meter

-- the number after which a list begins: 0 for all of them
abbrev pub SaysAfter : Text → ℕ → Type 0
SaysAfter text number = SaysNumber text number × (number ≤ 10 ^ 9)

abbrev pub SaysTariff : Text → Text → Type 0
SaysTariff text tariff = (text ≡ tariff) × IsName tariff

-- whether a flag is among the words, as `clap` says it
abbrev pub flag_text : Bool → Text
flag_text true = codes "true"
flag_text false = codes "false"

abbrev pub SaysFlag : Text → Bool → Type 0
SaysFlag text flag = text ≡ flag_text flag

-- the text of a flag that a command does not have
abbrev pub no_flag : Text
no_flag = flag_text false

-- a path, or another text that has no rule
abbrev pub SaysText : Text → Bor Text → Type 0
SaysText text word = word.now ≡ text

-- a transform, by its name
abbrev pub transform_name : Shipped → Text
transform_name Plain = codes "plain"
transform_name Demo = codes "demo"

abbrev pub SaysTransform : Text → Shipped → Type 0
SaysTransform text transform = text ≡ transform_name transform

-- the transform where none is named
abbrev pub default_transform : Text
default_transform = transform_name Plain

-- how often a change is synced, by its name
abbrev pub sync_name : Syncs → Text
sync_name Once = codes "full"
sync_name Twice = codes "twice"

abbrev pub SaysSyncs : Text → Syncs → Type 0
SaysSyncs text syncs = text ≡ sync_name syncs

-- what is read of a text: a value that it says, and nothing exactly where it says none
abbrev pub ReadsBy : {V : Type 0} → (Text → V → Type 0) → Text → Option V → Type 0
ReadsBy Says text (Some v) = Says text v
ReadsBy {V} Says text None = (v : V) → ¬ Says text v

-- each text says the value at its place
abbrev pub SayEach : {V : Type 0} → (Text → V → Type 0) → List Text → List V → Type 0
SayEach Says [] [] = ⊤
SayEach Says [] (v ∷ vs) = ⊥
SayEach Says (text ∷ texts) [] = ⊥
SayEach Says (text ∷ texts) (v ∷ vs) = Says text v × SayEach Says texts vs
