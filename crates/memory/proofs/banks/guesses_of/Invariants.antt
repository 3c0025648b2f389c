use Rattle.std.proofs.Common.{◌≡◌, ℕ, ◌<◌, get_or, length}
use Rattle.memory.specs.Guesses.{guess}
use Rattle.memory.proofs.banks.guesses_of.Given as goal

abbrev pub invariant-loop-k : goal.invariant-loop-k
invariant-loop-k l = (length l.guess-items ≡ 64) × ((k : ℕ) → k < l.k → get_or l.guess-items k 0 ≡ guess l.banks l.shift k)
