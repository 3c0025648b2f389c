use Rattle.session.proofs.FormTexts.{each_spelled}
use Rattle.session.proofs.forms.each_spelled.Goals as goal

pub returns : goal.returns
returns c = each_spelled
