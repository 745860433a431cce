use Rattle.std.proofs.Common.{◌≡◌, ◌-◌, take}
use Rattle.fw_sim.specs.Raise.{blocks_in}
use Rattle.fw_sim.proofs.raising.room_left.Given as goal

abbrev pub invariant-loop-port : goal.invariant-loop-port
invariant-loop-port l = l.left ≡ 65536 - blocks_in (take l.port-index l.ports)
