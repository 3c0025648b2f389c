use Rattle.bridge_laws.proofs.RefusalFacts.{refusals}
use Rattle.bridge_laws.proofs.calls.bursts_are_refused_in_order.Goals as goal

pub returns : goal.returns
returns c = refusals
