use Rattle.bridge_laws.proofs.WriteFacts.{writes}
use Rattle.bridge_laws.proofs.calls.writes_store_lines.Goals as goal

pub returns : goal.returns
returns c = writes
