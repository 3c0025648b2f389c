use Rattle.session.proofs.Serving.{line_printed}
use Rattle.session.proofs.serve.serve_line.Goals as goal

pub returns : goal.returns
returns g c = line_printed _ _ _ _ _ _ _ c.in_ok-reply.ensures.answered c.print_reply.ensures
