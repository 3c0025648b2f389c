use Rattle.session.proofs.LineAnswers.{comes_by_form, unread_answered}
use Rattle.session.proofs.session.Session.perform_line.Goals as goal

pub returns-in_err-form : goal.returns-in_err-form
returns-in_err-form c = unread_answered c.args.self.now c.args.line.now _ _ c.from_residual.ensures.1 c.in_err-form.ensures

pub returns : goal.returns
returns c = comes_by_form c.args.self.now c.args.line.now c.in_ok-form.form c.perform.result c.perform.new.self c.in_ok-form.ensures c.perform.ensures
