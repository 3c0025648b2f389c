use Rattle.std.proofs.Common.{suc, ◌/◌, ◌^◌, arith}
use Rattle.std.proofs.lemmas.List.FromFn.{fill_by_all}
use Rattle.seeded.specs.Random.{steps, upper_bytes}
use Rattle.seeded.proofs.Random.line.Goals as goal

pub returns-clause-bytes : goal.returns-clause-bytes
unfolding upper_bytes
returns-clause-bytes c =
    fill_by_all (λ k. steps (suc k) c.args.self.now.state / 2 ^ 56) c.loop-byte.byte-items 32 0 c.loop-byte-test.array_long (λ k h. c.loop-byte.invariant.1 k (omega (arith, c.loop-byte-test.false)))
