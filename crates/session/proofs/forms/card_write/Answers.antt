use Rattle.std.proofs.Common.{rules, ◌≡◌, ◌-◌, ◌∷◌, length, take, drop, map, vec_items, refl}
use Rattle.session.specs.Tokens.{lexemes, word_of}
use Rattle.session.specs.Forms.{pair_of}
use Rattle.session.proofs.Arguments.{word_ahead}
use Rattle.session.proofs.forms.card_write.Goals as goal

pub returns : goal.returns
returns c =
    let ts = c.args.arguments.now in
    let rest = lexemes (take (length ts - 1) (drop 1 ts)) in
    let e : lexemes ts ≡ word_of c.in-Word.pci.now ∷ rest = search (rules, word_ahead) in
    ((c.in_ok-pci.pci, map pair_of (vec_items c.in_ok-pairs.pairs)), refl, (c.in-Word.pci.now, rest, e, c.in_ok-pci.ensures, c.in_ok-pairs.ensures))
