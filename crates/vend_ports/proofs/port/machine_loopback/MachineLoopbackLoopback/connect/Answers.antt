use Rattle.vend_ports.proofs.port.machine_loopback.MachineLoopbackLoopback.connect.Goals as goal

pub returns-clause-sent : goal.returns-clause-sent
returns-clause-sent g c = (c.new-near.result, tt, c.in_ok-write_all.ensures.bytes)
