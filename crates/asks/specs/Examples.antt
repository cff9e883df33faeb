-- Two asks of Ann, and their messages, as docs/DESK.md has them.
use Rattle.std.specs.Prelude.{◌++◌, [], codes, decimal, false}
use Rattle.conversation.specs.declared.message.method.Method.TheVariants.{Get, Post}
use Rattle.conversation.specs.message.Messages.{Message}
use Rattle.office_rules.specs.declared.decision.request.Request.TheVariants as requests
use Rattle.asks.specs.declared.ask.Ask.{Ask}
use Rattle.asks.specs.declared.ask.Ask.TheVariants.{Do, Look}
use Rattle.asks.specs.declared.lookup.Lookup.TheVariants as lookups

-- the sale of her order A-1
abbrev pub sale_ask : Ask
sale_ask = Look (lookups.SaleOfRef (codes "ann") (codes "A-1"))

abbrev pub sale_message : Message
sale_message = record {
  method = Get;
  target = codes "/operators/ann/sales/A-1";
  body = [];
  closes = false;
  expects = false;
}

-- the order itself, for 10 cents
abbrev pub order_ask : Ask
order_ask = Do (requests.Sell (record {
  operator = codes "ann";
  order_ref = codes "A-1";
  meter = codes "12345678903";
  tender = 10;
}))

abbrev pub order_message : Message
order_message = record {
  method = Post;
  target = codes "/sales";
  body = codes "{\"meter\":\"12345678903\",\"operator\":\"ann\",\"ref\":\"A-1\",\"tender\":"
      ++ (decimal 10 ++ codes "}");
  closes = false;
  expects = false;
}
