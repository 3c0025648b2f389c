use Rattle.std.proofs.Common.{length, vec_items}
use Rattle.session.specs.Tokens.{lexemes}
use Rattle.session.proofs.PairLists.{PairsSoFar}
use Rattle.session.proofs.forms.read_pairs.Given as goal

abbrev pub invariant-loop-rest : goal.invariant-loop-rest
invariant-loop-rest l = PairsSoFar (lexemes l.tokens) (lexemes l.rest) (vec_items l.pairs)

abbrev pub decreases-loop-rest : goal.decreases-loop-rest
decreases-loop-rest l = length l.rest
