use Rattle.std.proofs.Common.{◌≡◌, ◌∙◌, ◌+◌, [], length, inl, inr, refl, ap}
use Rattle.std.proofs.Math.Logic.{∥∥₁_elim}
use Rattle.std.proofs.lemmas.Bool.{cases_eq}
use native.Mathlib.Nat.{ℕ_set}
use Rattle.books.specs.Keeps.{seen}
use Rattle.office_rules.specs.Office.{Office, empty_office}
use Rattle.program_laws.specs.runs.Steps.{IsOf}
use Rattle.sqlite_trees.specs.View.{doubt}
use Rattle.sqlite_wal.specs.Recovery.{Image}
use Rattle.law_witnesses.proofs.FileLemmas.{no_bytes, opened_present}
use Rattle.law_witnesses.proofs.computers.opened_on_computer.Goals as goal

pub returns-in-Ok-open_files : goal.returns-in-Ok-open_files
returns-in-Ok-open_files c =
    let image : Image = record { log = []; db = [] } in
    let of : IsOf empty_office [] image = ∣ record {
      office = empty_office;
      stands = c.opening_law.ensures.new image (no_bytes image refl);
      lead = refl;
      begins = λ nothing. refl;
    } ∣₁ in
    let found = (c.computer_law.ensures empty_office [] (record { rt = c.args.rt; start = record {} }) of c.args.path.now 0
    (record { log = c.in-Ok.log; db = c.in-Ok.db }) (inl (c.in-Ok.ensures {u = tt}).finds)).0.0 in
    let books = c.in-Ok-open_files.books in
    let opened = (c.in-Ok-open_files.ensures {u = tt}).opened.books in
    elim (cases_eq (doubt (seen books).state.is_clean) 0) [
      | inl clean ↦ inl (∥∥₁_elim found (ℕ_set _ _) (λ it.
          c.next_number.ensures.exact clean _ (opened.opens it.office it.stands) opened.running
          ∙ ap (λ (o : Office). length o.sales + 1) (opened_present _ it.office ∙ it.lead)))
      | inr lied ↦ inr lied
    ]
