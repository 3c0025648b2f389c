use Rattle.std.proofs.Common.{◌≡◌, ℕ, suc, ◌/◌, ◌^◌, ◌<◌, get_or}
use Rattle.seeded.specs.Random.{steps}
use Rattle.seeded.proofs.Random.line.Given as goal

abbrev pub invariant-loop-byte : goal.invariant-loop-byte
invariant-loop-byte l =
    (l.self.state ≡ steps l.byte-index l.initial.self.state)
    × ((j : ℕ) → j < l.byte-index → get_or l.byte-items j 0 ≡ steps (suc j) l.initial.self.state / 2 ^ 56)
