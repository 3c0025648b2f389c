use Rattle.std.proofs.Common.{sym, arith}
use Rattle.std.proofs.lemmas.Bool.{cond-false}
use Rattle.memory.proofs.LongwordMerges.{no_bits}
use Rattle.memory.proofs.line.merge_longword.Goals as goal

pub returns-else-mask-first-ne0-clause-merged : goal.returns-else-mask-first-ne0-clause-merged
returns-else-mask-first-ne0-clause-merged c i h = sym (cond-false _ _ _ (no_bits c.args.mask c.args.first i (omega arith) h))
