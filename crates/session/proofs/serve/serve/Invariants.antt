use Rattle.std.specs.Io.Iter.{bytes_remaining}
use Rattle.session.specs.InputLines.{held}
use Rattle.session.proofs.Serving.{Serving}
use Rattle.session.proofs.serve.serve.Given as goal

abbrev pub invariant-loop-byte : goal.invariant-loop-byte
invariant-loop-byte g l =
    Serving l.fn.session (g.R.Read.remaining l.fn.input) (g.W.Write.contents l.fn.output) l.session (held l.cutter) (bytes_remaining g.R.Read.remaining l.byte-iterator) (g.W.Write.contents l.output)
