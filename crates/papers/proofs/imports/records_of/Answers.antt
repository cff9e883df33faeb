use Rattle.std.proofs.Common.{◌∙◌, inr, refl, sym}
use Rattle.csv.specs.Reading.{Reached, strip_bom}
use Rattle.papers.proofs.imports.records_of.Goals as goal

pub returns : goal.returns
unfolding Reached
returns c =
    let from = c.from_reader.ensures in
    let set = c.flexible.ensures in
    let plain = c.has_headers.ensures in
    let reader = c.into_byte_records.ensures.rdr in
    record {
      plain = rw reader (rw (set, plain) at from.trim ∙ c.new.ensures.trim);
      ready = rw reader (inr (inr (rw (set, plain) at from.has_headers, from.headers)));
      left = c.into_byte_records.ensures.left;
      usual = rw reader (rw (set, plain) at from.config ∙ c.new.ensures.config);
      rest = strip_bom c.args.bytes.now;
      source = rw reader from.source;
      reached = rw reader (sym from.state, refl);
    }
