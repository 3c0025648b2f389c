use Rattle.std.proofs.Common.{◌≡◌, ℕ, ◌+◌, ◌<◌, ◌≤◌, cond, get_or}
use Rattle.memory.specs.Content.{bit}
use Rattle.memory.proofs.line.merge_longword.Given as goal

-- the bytes below i are merged, the others as they were
abbrev pub invariant-loop-i : goal.invariant-loop-i
invariant-loop-i l =
    ((k : ℕ) → k < l.i → get_or l.part k 0 ≡ cond (bit l.mask (l.first + k)) (get_or l.new (l.first + k) 0) (get_or l.initial.part k 0))
    × ((k : ℕ) → l.i ≤ k → get_or l.part k 0 ≡ get_or l.initial.part k 0)
