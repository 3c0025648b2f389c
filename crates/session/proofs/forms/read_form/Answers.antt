use Rattle.std.proofs.Common.{vec_items, subst, arith}
use Rattle.session.specs.Tokens.{lexemes}
use Rattle.session.specs.Forms.{Parsed, Means, asked}
use Rattle.session.proofs.Lines.{line_parsed}
use Rattle.session.proofs.forms.read_form.Goals as goal

pub returns : goal.returns
returns c =
    line_parsed c.args.line.now (lexemes (vec_items c.in_ok-all.all)) c.form_of.result (omega arith) c.in_ok-all.ensures.0
    (subst (λ l. Parsed asked c.form_of.result (Means (lexemes l))) c.as_slice.ensures.value c.form_of.ensures)
