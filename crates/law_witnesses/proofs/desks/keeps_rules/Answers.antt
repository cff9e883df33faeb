use Rattle.std.proofs.Common.{refl, subst}
use Rattle.tariff.specs.Tender.{IsTender}
use Rattle.law_witnesses.proofs.desks.keeps_rules.Goals as goal

pub returns : goal.returns
returns c = record {
  askable = record {
    target = tt;
    body = (
      (
        record { of_kind = refl; kept = c.as_bytes-meter.ensures.rule },
        (
          record { of_kind = refl; kept = c.as_bytes-operator.ensures.rule },
          (record { of_kind = refl; kept = c.as_bytes-ref.ensures.rule }, (record { of_kind = refl; kept = subst IsTender c.cents-tender.ensures.value c.cents-tender.ensures.range }, tt)),
        ),
      ),
      refl,
    );
  };
  fits = tt;
}
