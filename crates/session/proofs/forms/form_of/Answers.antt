use Rattle.std.proofs.Common.{rules, ◌≡◌, ◌-◌, ◌∷◌, length, take, drop}
use Rattle.session.specs.Tokens.{lexemes, opening, word_of}
use Rattle.session.specs.Forms.{name_bytes}
use Rattle.session.proofs.Arguments.{name_ahead}
use Rattle.session.proofs.Lines.{form_parsed}
use Rattle.session.proofs.forms.form_of.Goals as goal

pub returns : goal.returns
returns c =
    let ts = c.args.tokens.now in
    let rest = lexemes (take (length ts - 2) (drop 2 ts)) in
    let e : lexemes ts ≡ opening ∷ word_of c.in-Open.word.now ∷ rest = search (rules, name_ahead) in
    let n = c.in_ok-name.ensures in
    let f : lexemes ts ≡ opening ∷ word_of (name_bytes c.in_ok-name.name) ∷ rest = cc in
    form_parsed (lexemes ts) rest c.in_ok-name.name c.read_arguments.result f c.read_arguments.ensures
