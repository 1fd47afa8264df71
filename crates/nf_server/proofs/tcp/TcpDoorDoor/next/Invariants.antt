use Rattle.std.proofs.Common.{◌≡◌}
use Rattle.nf_server.proofs.tcp.TcpDoorDoor.next.Given as goal

abbrev pub invariant-loop : goal.invariant-loop
invariant-loop g l = l.self.faults ≡ l.fn.self.faults
