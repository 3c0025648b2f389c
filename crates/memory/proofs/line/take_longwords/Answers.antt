use Rattle.std.proofs.Common.{◌+◌, ◌*◌, arith}
use Rattle.std.proofs.lemmas.List.FromFn.{fill_by_all}
use Rattle.memory.specs.Longwords.{longword_at}
use Rattle.memory.proofs.line.take_longwords.Goals as goal

pub returns-after-loop-k : goal.returns-after-loop-k
returns-after-loop-k c = fill_by_all (λ j. longword_at c.args.bytes.now (c.args.offset + 4 * j)) _ _ 0 c.loop-k.auto.place (λ k h. c.loop-k.invariant k (omega arith))
