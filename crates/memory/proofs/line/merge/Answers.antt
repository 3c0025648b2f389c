use Rattle.std.proofs.Common.{arith}
use Rattle.memory.specs.LinesAt.{merged_full, merged_places}
use Rattle.memory.proofs.line.merge.Goals as goal

pub returns-then-mask-eq4294967295 : goal.returns-then-mask-eq4294967295
returns-then-mask-eq4294967295 c = rw (c.copy_from_slice.ensures.after, c.if-mask-eq4294967295.true) (merged_full _ _ c.told-new)

pub returns-after-loop-k : goal.returns-after-loop-k
returns-after-loop-k c = merged_places _ _ _ _ c.loop-k.invariant.long (λ k h. c.loop-k.invariant.front k (omega arith))
