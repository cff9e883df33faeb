use Rattle.std.proofs.Common.{◌∙◌, List, ℕ, refl, subst, sym}
use Rattle.asks.specs.declared.ask.Ask.TheVariants.{Import}
use Rattle.vend_ports.specs.port.Texts.{texts_of}
use Rattle.vend_ports.proofs.TakeLemmas.{takes_none}
use Rattle.desk_commands.specs.AskedOfDesk.{AreRowsFor}
use Rattle.desk_commands.specs.AskedOfDesk.IsAskedOnce.{asked, without_rows}
use Rattle.desk_commands.proofs.at_desk.run.Goals as goal

pub returns-in-Ok : goal.returns-in-Ok
returns-in-Ok g c =
    let texts = texts_of g.F.TextFiles c.args.texts in
    let same = c.new.ensures ∙ c.deref.ensures.value in
    let rows = subst (λ (rows : List ℕ). AreRowsFor texts c.in-Import.path.now rows) (sym same) c.in-Ok.ensures.rows in
    rw c.in-Import.is (asked (Import c.in-Import.kind c.new.result) (c.new.result, rows, refl) c.ask_one.ensures)

pub returns-in-Err : goal.returns-in-Err
returns-in-Err g c =
    rw c.in-Import.is (without_rows c.in-Err.fault c.in-Err.ensures.none c.leave.ensures (takes_none c.args.out.now, c.put_rows_fault.ensures, refl))

pub returns-in-Ask : goal.returns-in-Ask
returns-in-Ask g c = rw c.in-Ask.is (asked c.in-Ask.ask (c.leave-in-Ask.ensures, refl) c.ask_one-in-Ask.ensures)
