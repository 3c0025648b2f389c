use Rattle.bridge_laws.proofs.CutFacts.{cut_at_lines}
use Rattle.bridge_laws.proofs.calls.bursts_are_cut_at_lines.Goals as goal

pub returns : goal.returns
returns c = cut_at_lines
