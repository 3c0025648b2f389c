use Rattle.bridge_laws.proofs.RegisterFacts.{register_map}
use Rattle.bridge_laws.proofs.calls.register_map.Goals as goal

pub returns : goal.returns
returns c = register_map
