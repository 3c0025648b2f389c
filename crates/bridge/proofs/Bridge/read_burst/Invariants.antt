use Rattle.std.proofs.Common.{◌-◌}
use Rattle.bridge.specs.State.{state_of}
use Rattle.bridge.proofs.ReadBursts.{Reading}
use Rattle.bridge.proofs.Bridge.read_burst.Given as goal

abbrev pub invariant-loop-moved : goal.invariant-loop-moved
invariant-loop-moved g l = Reading (state_of g.M.Memory.content l.initial.self) l.pci l.count l.initial.buffer (state_of g.M.Memory.content l.self) l.buffer l.moved

abbrev pub decreases-loop-moved : goal.decreases-loop-moved
decreases-loop-moved g l = l.count - l.moved
