use Rattle.session.proofs.SpelledOnce.{once}
use Rattle.session.proofs.forms.spelled_once.Goals as goal

pub returns : goal.returns
returns c = once
