-- The files of a machine in memory.
use Rattle.std.proofs.Common.{◌≡◌, ◌∙◌, ◌⊎◌, ap, inl, inr}
use Rattle.sqlite_disk.specs.Memory.{memory_bytes}
use Rattle.sqlite_disk.specs.declared.Files.{Files}
use Rattle.sqlite_disk.specs.declared.memory.Memory.{Memory}
use Rattle.sqlite_wal.specs.Recovery.{Image}

-- two files are those that they are one by one
pub same_files : {M : Type 0} (found files : Files M) → found.log ≡ files.log → found.db ≡ files.db → found ≡ files
same_files {M} found files logs dbs =
    let with_log : M → Files M = λ log. record found { log = log } in
    let with_db : M → Files M = λ db. record files { db = db } in
    ap with_log logs ∙ ap with_db dbs

-- files that are found where there are these are these
pub found_these : {M : Type 0} (log db : M) (found : Files M) → ((found.log ≡ log) × (found.db ≡ db)) ⊎ ((found.log ≡ log) × (found.db ≡ db))
    → found ≡ record { log = log; db = db }
found_these log db found (inl is) = same_files found (record { log = log; db = db }) is.0 is.1
found_these log db found (inr is) = same_files found (record { log = log; db = db }) is.0 is.1

-- what two files in memory hold
abbrev pub held_by : (log db : Memory) → Image
held_by log db = record { log = memory_bytes log; db = memory_bytes db }

-- they hold what those hold that they are
pub same_image : (log db : Memory) (files : Files Memory) → log ≡ files.log → db ≡ files.db → held_by log db ≡ held_by files.log files.db
same_image log db files logs dbs = ap (λ (l : Memory). held_by l db) logs ∙ ap (λ (d : Memory). held_by files.log d) dbs

-- the files that such a machine finds are those that it has
pub these_files : (log db : Memory) (files found : Files Memory) → log ≡ files.log → db ≡ files.db
    → ((found.log ≡ log) × (found.db ≡ db)) ⊎ ((found.log ≡ log) × (found.db ≡ db))
    → (found ≡ files) × (held_by log db ≡ held_by files.log files.db)
these_files log db files found logs dbs (inl is) = (same_files found files (is.0 ∙ logs) (is.1 ∙ dbs), same_image log db files logs dbs)
these_files log db files found logs dbs (inr is) = (same_files found files (is.0 ∙ logs) (is.1 ∙ dbs), same_image log db files logs dbs)
