use Rattle.std.proofs.Common.{◌+◌, ◌*◌}
use Rattle.bridge.proofs.LineBytes.{Filled}
use Rattle.bridge.proofs.writes.line_bytes.Given as goal

abbrev pub invariant-loop-k : goal.invariant-loop-k
invariant-loop-k l = Filled l.offset l.words l.bytes (l.offset + 4 * l.k)
