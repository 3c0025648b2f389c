use Rattle.session.proofs.HexText.{no_leading_zero, reads_back}
use Rattle.session.proofs.replies.reads_back.Goals as goal

pub returns : goal.returns
returns c = record { back = reads_back; short = no_leading_zero }
