use Rattle.std.proofs.Common.{◌≡◌, ℕ, ◌+◌, ◌-◌, ◌*◌, ◌/◌, ◌<◌, ◌≤◌, false}
use Rattle.memory.specs.Layers.{marks_of}
use Rattle.memory.specs.Marked.{marked}
use Rattle.memory.proofs.marks.Marks.unmarked_from.Given as goal

abbrev pub invariant-loop-end : goal.invariant-loop-end
invariant-loop-end g l = (l.first + l.end ≡ 8 * l.next) × ((k : ℕ) → l.first / 8 ≤ k → k < l.next → marked (marks_of l.self) k ≡ false)

abbrev pub decreases-loop-end : goal.decreases-loop-end
decreases-loop-end g l = l.count - l.end
