use Rattle.desk_client.proofs.PageLemmas.{one_page}
use Rattle.desk_client.proofs.RecordLemmas.{same_listed_meter, same_listed_shift, same_sale}
use Rattle.desk_client.proofs.page.page_law.Goals as goal

pub returns : goal.returns
returns c = record {
  one = one_page
      (record { way = c.item_law.ensures; one = c.tariff_law.ensures })
      (record { way = c.item_law-2.ensures; one = same_listed_meter c.columns_law.ensures })
      (record { way = c.item_law-3.ensures; one = same_listed_shift c.columns_law-2.ensures })
      (record { way = c.item_law-4.ensures; one = same_sale c.columns_law-3.ensures });
}
