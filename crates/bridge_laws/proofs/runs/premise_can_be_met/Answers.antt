use Rattle.bridge_laws.proofs.WitnessFacts.{premise_met}
use Rattle.bridge_laws.proofs.runs.premise_can_be_met.Goals as goal

pub returns : goal.returns
returns c = premise_met
