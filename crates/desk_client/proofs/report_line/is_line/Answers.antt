use Rattle.std.proofs.Common.{[], refl, sym, subst, arith}
use Rattle.office_rules.specs.Name.{IsMeterNo}
use Rattle.sts_fields.specs.declared.base.Base.TheVariants.{Y1993}
use Rattle.desk_client.proofs.report_line.is_line.Goals as goal

pub returns-in-Some-Some : goal.returns-in-Some-Some
returns-in-Some-Some c =
    let of = c.args.c.now in
    let meter = c.in-Some-Some.ensures in
    let tender = c.in-Some-Some.ensures' in (
      λ yes. (
        record {
          number = of.number;
          moment = 0;
          shift = 0;
          operator = [];
          order_ref = [];
          meter = of.meter.now;
          base = Y1993;
          tid = 0;
          rnd = 0;
          tenths = of.tenths;
          price = of.price;
          tender = of.tender;
          digits = [];
        },
        omega (arith, c.if-c-after.false),
        record {
          number = record { from_one = omega (arith, c.if-c-after.false); most = omega (arith, c.if-c-gt-GREATEST_COUNT.false) };
          meter = subst IsMeterNo (sym meter.1) meter.0;
          tenths = c.is_amount.ensures.0 c.if-not-is_amount.false;
          price = omega (arith, c.if-c.false);
          tender = tender.range.0 refl;
        },
        record { number = refl; meter = refl; tenths = refl; price = refl; tender = refl; change = omega (arith, c.if-c-2.false) },
      ),
      λ is. refl,
    )
