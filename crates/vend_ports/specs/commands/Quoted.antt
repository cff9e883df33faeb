-- What `quote` prints, and how it ends: the purchase, or that the tender buys nothing.
use Rattle.std.specs.Prelude.{[], Option, Some, None}
use Rattle.sts_fields.specs.Text.{Text}
use Rattle.tariff.specs.declared.bought.Buy.{Buy}
use Rattle.office_rules.specs.declared.decision.refusal.Refusal.TheVariants.{TooLittle}
use Rattle.tariff.specs.Purchase.{purchase_of}
use Rattle.vend_ports.specs.print.Printed.{quote_line, refusal_line}
use Rattle.vend_ports.specs.print.Told.{Outputs, IsTold}
use Rattle.command_line.specs.declared.commands.quote.QuoteWords.{QuoteWords}
use Rattle.vend_ports.specs.declared.command_end.CommandEnd.{CommandEnd}
use Rattle.vend_ports.specs.declared.command_end.CommandEnd.TheVariants.{Done, Refused}

abbrev pub quote_text : Option Buy → Text
quote_text None = []
quote_text (Some b) = quote_line b

abbrev pub quote_errors : Option Buy → Text
quote_errors None = refusal_line TooLittle
quote_errors (Some b) = []

abbrev pub quote_end : Option Buy → CommandEnd
quote_end None = Refused
quote_end (Some b) = Done

-- what the tender buys is told
abbrev pub PrintsQuote : QuoteWords → Outputs → CommandEnd → Type 0
PrintsQuote words o end =
    let bought = purchase_of words.steps words.prior words.tender in
    IsTold o (quote_text bought) (quote_errors bought) (quote_end bought) end
