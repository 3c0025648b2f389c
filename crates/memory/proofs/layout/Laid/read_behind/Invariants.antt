use Rattle.std.proofs.Common.{◌≡◌, ◌-◌, ◌+◌, ◌*◌, ◌<◌, length}
use Rattle.memory.specs.Layers.{lines_laid}
use Rattle.memory.proofs.TakenLongwords.{Taken}
use Rattle.memory.proofs.layout.Laid.read_behind.Given as goal

abbrev pub invariant-loop-moved : goal.invariant-loop-moved
invariant-loop-moved g l =
    Taken (lines_laid g.L.Layout.place l.self) (8 * l.first) l.fn.place l.place l.moved × (l.moved < length l.place → 8 * l.first + l.moved ≡ 8 * l.line)

abbrev pub decreases-loop-moved : goal.decreases-loop-moved
decreases-loop-moved g l = length l.place - l.moved
