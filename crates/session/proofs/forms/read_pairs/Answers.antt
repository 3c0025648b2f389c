use Rattle.std.proofs.Common.{rules, arith, ◌≡◌, ◌-◌, ◌∷◌, length, take, drop}
use Rattle.std.proofs.lemmas.Grind.{common_steps}
use Rattle.session.specs.Tokens.{lexemes, opening, closing, word_of}
use Rattle.session.specs.Forms.{pair_of}
use Rattle.session.specs.Hex.{Reads}
use Rattle.session.proofs.Arguments.{pair_ahead, parsed_break}
use Rattle.session.proofs.PairLists.{pairs_all, pairs_fail, pairs_more, pairs_numbers}
use Rattle.session.proofs.forms.read_pairs.Goals.{in_default, in_default-2, in_default-3, in_default-4, in_default-5, in_default-rest-via-then-rest-lt1, in_default-rest-via-else-rest-lt1+then-rest-lt2+in-Open-1, in_default-rest-via-else-rest-lt1+else-rest-lt2}
use Rattle.session.proofs.forms.read_pairs.Goals as goal

pub returns-in_err-read_pair : goal.returns-in_err-read_pair
returns-in_err-read_pair c =
    let ts = c.loop-rest.rest.now in
    let a = c.in-Open.longword.now in
    let b = c.in-Open.enables.now in
    let e : lexemes ts ≡ opening ∷ word_of a ∷ word_of b ∷ closing ∷ lexemes (take (length ts - 4) (drop 4 ts)) = search (rules, pair_ahead) in
    parsed_break pair_of _ (λ p. Reads 32 a p.0 × Reads 64 b p.1) _ c.from_residual.result c.in_err-read_pair.field-0.0 c.from_residual.ensures.1 c.in_err-read_pair.ensures
    (pairs_numbers _ (lexemes ts) _ a b _ c.loop-rest.invariant e)

pub loop-rest-preserved : goal.loop-rest-preserved
loop-rest-preserved c =
    let ts = c.loop-rest.rest.now in
    let a = c.in-Open.longword.now in
    let b = c.in-Open.enables.now in
    let next = lexemes (take (length ts - 4) (drop 4 ts)) in
    let e : lexemes ts ≡ opening ∷ word_of a ∷ word_of b ∷ closing ∷ next = search (rules, pair_ahead) in
    pairs_more _ (lexemes ts) next _ _ _ c.loop-rest.invariant (a, b, e, c.in_ok-read_pair.ensures.0, c.in_ok-read_pair.ensures.1) c.in_ok-push.ensures.items

pub returns-in-Close : goal.returns-in-Close
returns-in-Close c = pairs_all _ (lexemes c.loop-rest.rest.now) _ c.loop-rest.invariant (grind (arith, common_steps))

pub returns-in_default-rest : goal.returns-in_default-rest
returns-in_default-rest c = pairs_fail _ (lexemes c.loop-rest.rest.now) _ c.loop-rest.invariant
    (λ h. elim c.in_default-rest.branch [
      | in_default-rest-via-then-rest-lt1 w ↦ grind (arith, common_steps)
      | in_default-rest-via-else-rest-lt1+then-rest-lt2+in-Open-1 w ↦ grind (arith, common_steps)
      | in_default-rest-via-else-rest-lt1+else-rest-lt2 w ↦ grind (arith, common_steps)
    ])
    (λ p us h. elim c.if-rest-lt4.branch [
      | in_default w ↦ grind (arith, common_steps)
      | in_default-2 w ↦ grind (arith, common_steps)
      | in_default-3 w ↦ grind (arith, common_steps)
      | in_default-4 w ↦ grind (arith, common_steps)
      | in_default-5 w ↦ grind (arith, common_steps)
    ])
