-- The asks of the tests keep the rules of their kinds.
use Rattle.std.proofs.Common.{ℕ, codes, refl, arith}
use Rattle.std.specs.Char.{is_ascii_alphanumeric, is_ascii_digit}
use Rattle.std.proofs.lemmas.List.Sums.{AllPass-from_list_all}
use Rattle.office_rules.specs.Name.{IsMeterNo, IsName, IsOperator, is_name_byte}
use Rattle.asks.specs.Ask.{IsAskable}
use Rattle.asks.specs.Examples.{order_ask, sale_ask}

ann : IsOperator (codes "ann")
ann = record { some = omega arith; short = omega arith; bytes = AllPass-from_list_all is_ascii_alphanumeric (codes "ann") refl }

first_ref : IsName (codes "A-1")
first_ref = record { some = omega arith; short = omega arith; bytes = AllPass-from_list_all is_name_byte (codes "A-1") refl }

meter : IsMeterNo (codes "12345678903")
meter = record { eleven = refl; digits = AllPass-from_list_all is_ascii_digit (codes "12345678903") refl; luhn = refl }

-- the sale of Ann's order can be asked
pub sale_askable : IsAskable sale_ask
sale_askable = record {
  target = (record { of_kind = refl; kept = ann }, (record { of_kind = refl; kept = first_ref }, tt));
  body = (tt, tt);
}

-- and so can the order
pub order_askable : IsAskable order_ask
order_askable = record {
  target = tt;
  body = (
    (
      record { of_kind = refl; kept = meter },
      (
        record { of_kind = refl; kept = ann },
        (
          record { of_kind = refl; kept = first_ref },
          (record { of_kind = refl; kept = (omega arith, omega arith) }, tt),
        ),
      ),
    ),
    refl,
  );
}
