use Rattle.sim_meter.proofs.store.Store.place_of.Given as goal

-- the count begins as the ledger that was made for it
abbrev pub ghosts-search : goal.ghosts-search
ghosts-search a = record { name = a.blank.name; parts = a.blank.parts }
