-- The records that the reader of a file gives.
use Rattle.std.proofs.Common.{Bor, List, ℕ, ◌≡◌, ◌∙◌, ◌<◌, true, false, inl, ◌∷◌, [], ◌++◌}
use Rattle.csv.proofs.ReadFacts.{rows-end, rows-more}
use Rattle.csv.specs.Reading.{ReadRecord, default_config, strip_bom}
use Rattle.csv.specs.declared.iter.ByteRecordsIntoIter.{ByteRecordsIntoIter}
use Rattle.csv.specs.declared.parser.State.TheVariants as st
use Rattle.papers.proofs.RecordLemmas.{AreRecords-append, records-exist}
use Rattle.papers.specs.File.{AreFileRecords, Fields}
use Rattle.papers.specs.Reader.{HasGiven, whole}

-- it gives one more
pub given-more : (bytes : List ℕ) (a b : ByteRecordsIntoIter (Bor (List ℕ))) (records : List Fields) (fields : Fields) → HasGiven bytes a records
    → ReadRecord whole a.rdr b.rdr true fields → b.rdr.first ≡ true → 0 < b.left → HasGiven bytes b (records ++ fields ∷ [])
given-more bytes a b records fields given read first left =
    let more = rows-more whole a.rdr b.rdr fields default_config st.StartRecord (strip_bom bytes) given.rest records given.usual
    given.source given.reached read in
    record {
      plain = read.3 ∙ given.plain;
      ready = inl first;
      left = left;
      usual = read.2 ∙ given.usual;
      rest = more.0;
      source = more.1;
      reached = more.2;
    }

-- or there is none left, and these are all
pub given-all : (bytes : List ℕ) (a b : ByteRecordsIntoIter (Bor (List ℕ))) (records : List Fields) → HasGiven bytes a records
    → ReadRecord whole a.rdr b.rdr false [] → AreFileRecords bytes records
given-all bytes a b records given read =
    (a.rdr.state, given.rest, given.reached, rows-end whole a.rdr b.rdr [] default_config given.rest given.usual given.source read)

-- some records stand behind those that were given
pub given-some : (bytes : List ℕ) (reader : ByteRecordsIntoIter (Bor (List ℕ))) (records : List Fields) → HasGiven bytes reader records
    → (after : List Fields) × AreFileRecords bytes (records ++ after)
given-some bytes reader records given =
    let after = records-exist reader.rdr.state given.rest in
    (after.0, AreRecords-append st.StartRecord (strip_bom bytes) reader.rdr.state given.rest records after.0 given.reached after.1)
