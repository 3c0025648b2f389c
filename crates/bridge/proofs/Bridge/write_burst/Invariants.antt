use Rattle.std.proofs.Common.{◌-◌}
use Rattle.bridge.specs.State.{state_of}
use Rattle.bridge.proofs.WriteBursts.{Writing}
use Rattle.bridge.proofs.Bridge.write_burst.Given as goal

abbrev pub invariant-loop-first : goal.invariant-loop-first
invariant-loop-first g l = Writing (state_of g.M.Memory.content l.initial.self) l.pci l.count l.words l.enables (state_of g.M.Memory.content l.self) l.counts

abbrev pub decreases-loop-first : goal.decreases-loop-first
decreases-loop-first g l = l.count - l.counts.taken
