use Rattle.session.proofs.InputCuts.{cut_at_ends}
use Rattle.session.proofs.input.lines_join_to_the_input.Goals as goal

pub returns : goal.returns
returns c = cut_at_ends
