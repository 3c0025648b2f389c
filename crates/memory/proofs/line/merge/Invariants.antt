use Rattle.std.proofs.Common.{◌*◌}
use Rattle.memory.proofs.LongwordMerges.{MergedBelow}
use Rattle.memory.proofs.line.merge.Given as goal

abbrev pub invariant-loop-k : goal.invariant-loop-k
invariant-loop-k l = MergedBelow l.mask l.initial.line l.new l.line (4 * l.k)
