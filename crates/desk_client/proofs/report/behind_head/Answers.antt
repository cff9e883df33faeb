use Rattle.std.proofs.Common.{◌≡◌, ◌≢◌, ◌∙◌, ℕ, List, ◌∷◌, ◌++◌, codes, length, map, take, ap, sym, refl, arith}
use Rattle.std.specs.Prelude.{decimal}
use Rattle.std.proofs.lemmas.List.{append_cancel_left}
use Rattle.office_rules.specs.declared.office.shift.Shift.{Shift}
use Rattle.desk_client.specs.Report.{head_ends, head_values}
use Rattle.records.specs.Record.{now}
use Rattle.desk_client.specs.Text.{woven}
use Rattle.desk_client.proofs.ReportLemmas.{behind_number, head-parts, head_again, head_read, plain_head}
use Rattle.desk_client.proofs.TimeLemmas.{plain_time}
use Rattle.desk_client.proofs.report.behind_head.Goals as goal

pub returns-in_default : goal.returns-in_default
returns-in_default c = λ shift rest told named is. c.in_default.ensures _ (is ∙ head-parts shift rest)

pub returns-in_default-behind : goal.returns-in_default-behind
returns-in_default-behind c = λ shift rest told named is.
    let digits = c.as_bytes.ensures.value ∙ c.format.ensures.text in
    let first = append_cancel_left (codes "SHIFT ") c.in-Some.behind_word.now _ (sym c.in-Some.ensures ∙ is ∙ head-parts shift rest) in
    c.in_default-behind.ensures _ (first ∙ ap (λ (d : List ℕ). d ++ (codes " " ++ woven (head_values shift) head_ends rest)) (ap decimal named ∙ sym digits))

pub returns-in_default-read_front_values : goal.returns-in_default-read_front_values
returns-in_default-read_front_values c = λ shift rest told named is.
    let digits = c.as_bytes.ensures.value ∙ c.format.ensures.text in
    let behind = behind_number c.args.number shift c.args.text.now c.in-Some.behind_word.now c.as_bytes.result.now c.in-Some-behind.behind_number.now rest
    digits named c.in-Some.ensures c.in-Some-behind.ensures is in
    c.in_default-read_front_values.ensures (head_values shift) rest refl (plain_head (plain_time c.calendar_law.ensures.each_moment c.calendar_law.ensures.ranges) shift told) behind

pub returns-in-Some-shift_of : goal.returns-in-Some-shift_of
returns-in-Some-shift_of c =
    let shift = c.in-Some-shift_of.field-0 in
    let found = c.in-Some-shift_of.ensures in
    let digits = c.as_bytes.ensures.value ∙ c.format.ensures.text in
    record {
      shift = shift;
      told = found.0.0;
      named = found.0.1;
      written = head_read c.args.number shift c.args.text.now c.in-Some.behind_word.now c.as_bytes.result.now c.in-Some-behind.behind_number.now
          c.in-Some-read_front_values.values.of c.in-Some-read_front_values.rest.now digits found.0.1 c.in-Some.ensures c.in-Some-behind.ensures
          c.in-Some-read_front_values.ensures.1 found.1;
    }

pub returns-in-None : goal.returns-in-None
returns-in-None c = λ shift rest told named is.
    let digits = c.as_bytes.ensures.value ∙ c.format.ensures.text in
    let behind = behind_number c.args.number shift c.args.text.now c.in-Some.behind_word.now c.as_bytes.result.now c.in-Some-behind.behind_number.now rest
    digits named c.in-Some.ensures c.in-Some-behind.ensures is in
    let read = c.in-Some-read_front_values.ensures in
    c.in-None.ensures shift (
      (told, named),
      head_again (plain_time c.calendar_law.ensures.each_moment c.calendar_law.ensures.ranges) shift c.in-Some-behind.behind_number.now
          c.in-Some-read_front_values.values.of c.in-Some-read_front_values.rest.now rest told read.2 read.0 read.1 behind,
    )
