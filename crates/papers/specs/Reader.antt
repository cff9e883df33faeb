-- Where the reader of a file stands.
use Rattle.std.specs.Prelude.{◌≡◌, ℕ, ◌<◌, List, Option, Some}
use Rattle.std.specs.Borrow.{Bor}
use Rattle.csv.specs.Reading.{Reached, Ready, default_config, owned_rows_left, owned_rows_reader}
use Rattle.csv.specs.Reading.{reader_config, reader_state, reader_trim, source_of, strip_bom}
use Rattle.csv.specs.declared.iter.ByteRecordsIntoIter.{ByteRecordsIntoIter}
use Rattle.csv.specs.declared.parser.State.TheVariants.{StartRecord}
use Rattle.csv.specs.declared.reader.Trim.TheVariants as trims
use Rattle.papers.specs.File.{Fields}

-- of bytes in memory all are there to be read
abbrev pub whole : Bor (List ℕ) → Option (List ℕ)
whole bytes = Some bytes.now

-- what reads a file, with CSV's usual comma and quote and nothing trimmed, has given these records,
-- the first ones of the file, and can go on
pub record HasGiven (bytes : List ℕ) (reader : ByteRecordsIntoIter (Bor (List ℕ)))
    (records : List Fields) : Type 0 where
  pub plain : reader_trim (owned_rows_reader reader) ≡ trims.None
  pub ready : Ready (owned_rows_reader reader)
  pub left : 0 < owned_rows_left reader
  pub usual : reader_config (owned_rows_reader reader) ≡ default_config
  pub rest : List ℕ
  pub source : source_of whole (owned_rows_reader reader) ≡ Some rest
  pub reached :
      Reached default_config StartRecord (strip_bom bytes) records
      (reader_state (owned_rows_reader reader)) rest
