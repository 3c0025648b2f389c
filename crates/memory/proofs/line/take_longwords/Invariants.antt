use Rattle.std.proofs.Common.{◌≡◌, ℕ, ◌+◌, ◌*◌, ◌<◌, get_or}
use Rattle.memory.specs.Longwords.{longword_at}
use Rattle.memory.proofs.line.take_longwords.Given as goal

abbrev pub invariant-loop-k : goal.invariant-loop-k
invariant-loop-k l = (j : ℕ) → j < l.k → get_or l.place j 0 ≡ longword_at l.bytes (l.offset + 4 * j)
