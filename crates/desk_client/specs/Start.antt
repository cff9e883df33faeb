-- What replies begin with, up to the length of their body.
use Rattle.std.specs.Prelude.{◌≡◌, ℕ, List, [], ◌∷◌, ◌++◌, codes, Option, None, Some, ⊤}
use Rattle.httpdate.specs.declared.date.HttpDate.{HttpDate}
use Rattle.httpdate.specs.Date.{date_text}
use Rattle.office_rules.specs.declared.decision.category.Category.{Category}
use Rattle.office_rules.specs.declared.decision.category.Category.TheVariants as categories
use Rattle.desk_client.specs.declared.start.Start.{Start}
use Rattle.desk_client.specs.declared.start.Start.TheVariants.{Json, Paper, Missing, Forbidden}
use Rattle.desk_client.specs.declared.start.Start.TheVariants.{Unfit, Unable}

abbrev pub start_text : Start → List ℕ
start_text Json =
    codes "HTTP/1.1 200 OK\r\nContent-Type: application/json\r\nContent-Length: "
start_text Paper = codes "HTTP/1.1 200 OK\r\nContent-Type: text/plain\r\nContent-Length: "
start_text Missing =
    codes "HTTP/1.1 404 Not Found\r\nContent-Type: application/json\r\nContent-Length: "
start_text Forbidden =
    codes "HTTP/1.1 409 Conflict\r\nContent-Type: application/json\r\nContent-Length: "
start_text Unfit =
    codes "HTTP/1.1 422 Unprocessable Entity\r\nContent-Type: application/json\r\nContent-Length: "
start_text Unable =
    codes "HTTP/1.1 503 Service Unavailable\r\nContent-Type: application/json\r\nContent-Length: "

-- the input begins with this start, or is the front of it
abbrev pub BeginsAs : List ℕ → Start → Type 0
BeginsAs input start = (more rest : List ℕ) × (input ++ more ≡ start_text start ++ rest)

-- what stands behind the line with the length: a date, if there is one, and an empty line
abbrev pub date_end : Option (List ℕ) → List ℕ
date_end None = 13 ∷ 10 ∷ []
date_end (Some date) = codes "Date: " ++ (date ++ 13 ∷ 10 ∷ 13 ∷ 10 ∷ [])

-- and what stands behind the length
abbrev pub head_end : Option (List ℕ) → List ℕ
head_end dated = 13 ∷ 10 ∷ date_end dated

-- text is a date as HTTP writes it today (RFC 9110, 5.6.7), of any second
abbrev pub IsHttpDate : List ℕ → Type 0
IsHttpDate text = (date : HttpDate) × (text ≡ date_text date)

-- and so is that of a head, if there is one
abbrev pub IsDated : Option (List ℕ) → Type 0
IsDated None = ⊤
IsDated (Some date) = IsHttpDate date

-- what the reply to a refusal of this category begins with
abbrev pub category_start : Category → Start
category_start categories.Missing = Missing
category_start categories.Forbidden = Forbidden
category_start categories.Unfit = Unfit
category_start (categories.UnfitRow row cause) = Unfit
category_start categories.Unable = Unable
