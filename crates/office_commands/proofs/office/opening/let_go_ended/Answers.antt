use Rattle.std.proofs.Common.{false, None, IfErr, refl, subst, sym}
use Rattle.sqlite_store.specs.FileStore.{files as store_files}
use Rattle.office_commands.specs.port.Back.{lets_go_giving}
use Rattle.office_commands.proofs.office.opening.let_go_ended.Goals as goal

pub returns-in-Err-clause-unclosed : goal.returns-in-Err-clause-unclosed
returns-in-Err-clause-unclosed g c =
    let LetsGo = lets_go_giving g.H.OfficeFile None false in
    subst (λ ended. IfErr ended (λ e. LetsGo (store_files e.1).0 (store_files e.1).1)) (sym c.in-Err.is)
    (subst (λ pair. LetsGo pair.0 pair.1) c.close-files.ensures (c.let_go-in-Err.ensures.lets_go, refl))
