use Rattle.std.proofs.Common.{◌≡◌, ◌-◌, ◌+◌, ◌*◌, ◌<◌, ◌≤◌, length}
use Rattle.memory.proofs.TakenLongwords.{Taken}
use Rattle.memory.proofs.Memory.read_longwords.Given as goal

abbrev pub invariant-loop-moved : goal.invariant-loop-moved
invariant-loop-moved g l =
    Taken (g.Self.Memory.content l.self) l.first l.fn.place l.place l.moved
    × (l.moved < length l.place → l.first + l.moved ≡ 8 * l.line)
    × (8 * l.line ≤ l.first + l.moved + 8)

abbrev pub decreases-loop-moved : goal.decreases-loop-moved
decreases-loop-moved g l = length l.place - l.moved
