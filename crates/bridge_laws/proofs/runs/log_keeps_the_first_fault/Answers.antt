use Rattle.bridge_laws.proofs.LogFacts.{log_keeps_the_first}
use Rattle.bridge_laws.proofs.runs.log_keeps_the_first_fault.Goals as goal

pub returns : goal.returns
returns c = log_keeps_the_first
