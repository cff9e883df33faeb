use Rattle.std.proofs.Common.{◌≡◌, ◌∙◌, ℕ, List, ◌∷◌, ◌++◌, sym}
use Rattle.desk_client.proofs.ColumnLemmas.{one_number, same_start}
use Rattle.desk_client.proofs.report_line.columns_in.Goals as goal

tail : {x y : ℕ} {xs ys : List ℕ} → x ∷ xs ≡ y ∷ ys → xs ≡ ys
tail e = cc

pub returns-in_default-column : goal.returns-in_default-column
returns-in_default-column c = λ d rest fits is.
    let first = c.in-Some.ensures in
    let number = one_number 10 c.in-Some.number d.number 32 _ _ first.0 fits.number (sym first.1 ∙ is) in
    c.in_default-column.ensures d.meter.now _ fits.meter number.1

pub returns-in_default-number_column : goal.returns-in_default-number_column
returns-in_default-number_column c = λ d rest fits is.
    let first = c.in-Some.ensures in
    let second = c.in-Some-column.ensures in
    let number = one_number 10 c.in-Some.number d.number 32 _ _ first.0 fits.number (sym first.1 ∙ is) in
    let meter = same_start c.in-Some-column.meter.now d.meter.now _ _ (second.0 ∙ sym fits.meter) (sym second.1 ∙ number.1) in
    c.in_default-number_column.ensures d.tenths _ fits.tenths (tail meter.1)

pub returns-in_default-number_column-2 : goal.returns-in_default-number_column-2
returns-in_default-number_column-2 c = λ d rest fits is.
    let first = c.in-Some.ensures in
    let second = c.in-Some-column.ensures in
    let third = c.in-Some-number_column.ensures in
    let number = one_number 10 c.in-Some.number d.number 32 _ _ first.0 fits.number (sym first.1 ∙ is) in
    let meter = same_start c.in-Some-column.meter.now d.meter.now _ _ (second.0 ∙ sym fits.meter) (sym second.1 ∙ number.1) in
    let tenths = one_number 8 c.in-Some-number_column.tenths d.tenths 32 _ _ third.0 fits.tenths (sym third.1 ∙ tail meter.1) in
    c.in_default-number_column-2.ensures d.price _ fits.price tenths.1

pub returns-in_default-number_column-3 : goal.returns-in_default-number_column-3
returns-in_default-number_column-3 c = λ d rest fits is.
    let first = c.in-Some.ensures in
    let second = c.in-Some-column.ensures in
    let third = c.in-Some-number_column.ensures in
    let fourth = c.in-Some-number_column-2.ensures in
    let number = one_number 10 c.in-Some.number d.number 32 _ _ first.0 fits.number (sym first.1 ∙ is) in
    let meter = same_start c.in-Some-column.meter.now d.meter.now _ _ (second.0 ∙ sym fits.meter) (sym second.1 ∙ number.1) in
    let tenths = one_number 8 c.in-Some-number_column.tenths d.tenths 32 _ _ third.0 fits.tenths (sym third.1 ∙ tail meter.1) in
    let price = one_number 9 c.in-Some-number_column-2.price d.price 32 _ _ fourth.0 fits.price (sym fourth.1 ∙ tenths.1) in
    c.in_default-number_column-3.ensures d.tender _ fits.tender price.1

pub returns-in_default-number_column-4 : goal.returns-in_default-number_column-4
returns-in_default-number_column-4 c = λ d rest fits is.
    let first = c.in-Some.ensures in
    let second = c.in-Some-column.ensures in
    let third = c.in-Some-number_column.ensures in
    let fourth = c.in-Some-number_column-2.ensures in
    let fifth = c.in-Some-number_column-3.ensures in
    let number = one_number 10 c.in-Some.number d.number 32 _ _ first.0 fits.number (sym first.1 ∙ is) in
    let meter = same_start c.in-Some-column.meter.now d.meter.now _ _ (second.0 ∙ sym fits.meter) (sym second.1 ∙ number.1) in
    let tenths = one_number 8 c.in-Some-number_column.tenths d.tenths 32 _ _ third.0 fits.tenths (sym third.1 ∙ tail meter.1) in
    let price = one_number 9 c.in-Some-number_column-2.price d.price 32 _ _ fourth.0 fits.price (sym fourth.1 ∙ tenths.1) in
    let tender = one_number 9 c.in-Some-number_column-3.tender d.tender 32 _ _ fifth.0 fits.tender (sym fifth.1 ∙ price.1) in
    c.in_default-number_column-4.ensures d.change _ fits.change tender.1
