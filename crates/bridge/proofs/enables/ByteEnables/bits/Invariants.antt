use Rattle.std.proofs.Common.{◌≡◌, ◌≤◌, drop, length}
use Rattle.bridge.specs.Longwords.{enable_bits}
use Rattle.bridge.proofs.enables.ByteEnables.bits.Given as goal

-- the bits of the numbers from `left` on
abbrev pub invariant-loop-left : goal.invariant-loop-left
invariant-loop-left l = (l.left ≤ length l.self.numbers.now) × (l.bits ≡ enable_bits (drop l.left l.self.numbers.now))

abbrev pub decreases-loop-left : goal.decreases-loop-left
decreases-loop-left l = l.left
