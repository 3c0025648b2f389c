use Rattle.bridge_laws.proofs.RowFacts.{rows_in_runs}
use Rattle.bridge_laws.proofs.runs.rows_last_until_refilled.Goals as goal

pub returns : goal.returns
returns c = rows_in_runs
