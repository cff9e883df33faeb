-- One run of the program with the ports of a machine.
use Rattle.std.specs.Prelude.{◌⊎◌, ℕ, List, Option}
use Rattle.sqlite.specs.Files.{over_files}
use Rattle.sqlite_disk.specs.declared.Disk as disk
use Rattle.sqlite_disk.specs.declared.Files.{Files}
use Rattle.sqlite_wal.specs.Recovery.{Image}
use Rattle.conversation.specs.declared.clock.Clock as clocks
use Rattle.sts_fields.specs.Text.{Text}
use Rattle.vend_commands.specs.Run.{IsProgramRun}
use Rattle.vend_ports.specs.port.Dial.{dial_of}
use Rattle.vend_ports.specs.port.Texts.{texts_of}
use Rattle.office_commands.specs.port.Back.{is_untouched}
use Rattle.office_commands.specs.port.Places.{places_of}
use Rattle.vend_commands.specs.port.Machines.{Loop, Machine, Way, machine}
use Rattle.vend_ports.specs.print.Told.{Outputs}
use Rattle.program_laws.specs.runs.Files.{AreFoundSo}
use Rattle.program_laws.specs.runs.Uses.{RunUse, use_run, with_file}
use Rattle.vend_ports.specs.declared.command_end.CommandEnd.{CommandEnd}
use Rattle.office_commands.specs.declared.port.ports.OfficeFile as file
use Rattle.office_commands.specs.declared.port.ports.SaltSource as source
use Rattle.vend_ports.specs.declared.port.text_files.TextFiles as texts

-- What the ports of a run tell: the file of an office, on what it is kept and how its salts are
-- drawn; and what else the machine has, to which this was given back.
pub record Here (P D R W : Type 0) : Type 1 where
  pub M : Type 0
  pub S : Type 0
  pub H : Type 0
  pub disk : disk.Ghosts M
  pub salts : source.Ghosts S
  pub of : file.Ghosts H M S
  pub office : P → H
  pub rest : P → (back : Option (M × M)) → Machine D R W

-- what the ports of `run_over` tell
abbrev pub here_of : {H M S F C D R W L : Type 0} → (disk : disk.Ghosts M) → source.Ghosts S
    → file.Ghosts H M S → texts.Ghosts F → clocks.Ghosts C → Way D R W → (L → Loop)
    → Here (H × F × C × D × L) D R W
here_of {H} {M} {S} disk salts of texts clock way loop = record {
  M = M;
  S = S;
  H = H;
  disk = disk;
  salts = salts;
  of = of;
  office = λ p. p.0;
  rest = λ p back. machine (places_of disk salts of p.0 back) (is_untouched of p.0 back)
      (texts_of texts p.1) (dial_of clock p.2) way p.3 (loop p.4);
}

module _ {M S H : Type 0} (disk : disk.Ghosts M) (of : file.Ghosts H M S) (office : H) where
  -- This is so of what is found at each path, and of all that a crash may leave of it as it was
  -- found, and of what the file holds there.
  abbrev pub HoldsSo : (Before : Image → Type 0) → Type 0
  HoldsSo Before = (path : Text) (wait : ℕ) (found : Files M)
      → of.finds office path wait found.log found.db ⊎ of.meets office path wait found.log found.db
      → AreFoundSo disk found Before × Before (of.image office path)

module _ {P D R W : Type 0} (here : Here P D R W) where
  -- A run with the ports of a machine, as it is promised to go. One that was stopped goes as one
  -- whose disk and outputs fail from there on.
  pub record ProgramRun : Type 0 where
    pub ports : P
    pub back : Option (here.M × here.M)
    pub words : List Text
    pub o : Outputs
    pub end : CommandEnd
    pub ran : IsProgramRun (over_files {g = here.disk})
        (with_file here.disk here.salts here.of (here.office ports) back (here.rest ports back))
        words o end

  abbrev pub use_of : ProgramRun → RunUse here.disk
  use_of run = use_run here.disk here.salts here.of (here.office run.ports) run.back
      (here.rest run.ports run.back) run.words run.o run.end run.ran
