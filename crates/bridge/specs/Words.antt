-- The words for spaces and directions, as they are printed.
use Rattle.std.specs.Prelude.{ℕ, List, codes}
use Rattle.bridge.specs.declared.decode.Space.{Space}
use Rattle.bridge.specs.declared.decode.Space.TheVariants.{SparseMemory, DenseMemory, SparseIo, Configuration}
use Rattle.bridge.specs.declared.log.Direction.{Direction}
use Rattle.bridge.specs.declared.log.Direction.TheVariants.{Read, Write}

abbrev pub space_text : Space → List ℕ
space_text SparseMemory = codes "mem"
space_text DenseMemory = codes "dense"
space_text SparseIo = codes "io"
space_text Configuration = codes "config"

abbrev pub direction_text : Direction → List ℕ
direction_text Read = codes "read"
direction_text Write = codes "write"
