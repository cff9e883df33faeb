use Rattle.std.proofs.Common.{arith}
use Rattle.sqlite.specs.Files.{file_state}
use Rattle.sqlite.specs.State.{HasCleanDisk}
use Rattle.books.proofs.PathLemmas.{opens_files, refuses_connection, stands_first}
use Rattle.books.proofs.books.path.Books+FileStore+FileFrom+B+T.open_file.Goals as goal

pub returns-in-Ok-open_from-clause-opened : goal.returns-in-Ok-open_from-clause-opened
returns-in-Ok-open_from-clause-opened g c =
    let told = c.in-Ok-open_from.ensures.opened in
    record {
      books = record {
        opens = λ o stands clean.
            let before : HasCleanDisk (file_state c.in-Ok.conn) = omega (arith, told.survives.clean) in
            let at = stands_first _ c.in-Ok.conn c.in-Ok-open_from.books.conn c.in-Ok.ensures.opened c.in-Ok.ensures.found
            c.found_law.ensures.in_order c.in-Ok.ensures.fresh.unlimited c.found_law.ensures.opens o before stands in
            told.books.opens o at clean;
        tables = told.books.tables;
        running = told.books.running;
        writes = told.books.writes;
      };
      finds = opens_files _ c.in-Ok.conn c.in-Ok-open_from.books.conn c.in-Ok.ensures.opened c.in-Ok.ensures.found
          c.found_law.ensures.in_order c.in-Ok.ensures.fresh.unlimited c.in-Ok.ensures.sums told.finds told.survives;
    }

pub returns-in-Err-open_from-clause-refused : goal.returns-in-Err-open_from-clause-refused
returns-in-Err-open_from-clause-refused g c =
    refuses_connection _ c.in-Ok.conn c.in-Err-open_from.conn c.in-Ok.ensures.opened c.in-Ok.ensures.found
    c.found_law.ensures.in_order c.in-Ok.ensures.fresh.unlimited c.found_law.ensures.opens c.in-Err-open_from.fault c.in-Err-open_from.ensures.refused
