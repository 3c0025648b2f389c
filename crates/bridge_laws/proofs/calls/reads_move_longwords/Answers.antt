use Rattle.bridge_laws.proofs.ReadFacts.{reads}
use Rattle.bridge_laws.proofs.calls.reads_move_longwords.Goals as goal

pub returns : goal.returns
returns c = reads
