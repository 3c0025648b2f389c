use Rattle.std.proofs.Common.{◌≡◌, vec_items, Err, sym, ap, ◌∙◌, subst, arith, length-drop}
use Rattle.std.specs.Option.{ok_or}
use Rattle.std.proofs.lemmas.Result.{err_from_is_err_and}
use Rattle.session.specs.declared.lexer.LineError.TheVariants.{Malformed}
use Rattle.session.specs.Steps.{Cuts, Taken}
use Rattle.std.proofs.lemmas.List.{drop_all}
use Rattle.session.proofs.Lexing.{goes_on, done, fails}
use Rattle.session.proofs.lexer.tokens.Goals as goal

pub returns-in_err-token : goal.returns-in_err-token
returns-in_err-token c =
    let line = c.args.line.now in
    let p = err_from_is_err_and c.from_residual.result c.from_residual.ensures.1 in
    let none = c.in_err-token.ensures.ok_part in
    let z = c.in_err-token.ensures.value ∙ ap (λ o. ok_or o Malformed) none in
    let m : c.in_err-token.field-0.0 ≡ Malformed = cc in
    subst (Cuts line) (sym (p.1 ∙ ap Err (p.2 ∙ m)))
    (fails line _ c.loop-at.at _ c.loop-at.invariant.1 (simp length-drop (omega arith)) (subst (Taken line c.loop-at.at c.loop-at.first) none c.token_at.ensures))

pub loop-at-preserved : goal.loop-at-preserved
loop-at-preserved c =
    let took = subst (Taken c.args.line.now c.loop-at.at c.loop-at.first) c.in_ok-token.ensures.ok_part c.token_at.ensures in
    (took.3, goes_on c.args.line.now (vec_items c.loop-at.out) (vec_items c.push.new.self) c.loop-at.at c.loop-at.first c.is_open-first.result c.in_ok-token.token c.in_ok-token.end c.loop-at.invariant.1 took.0 took.1 took.2 c.in_ok-push.ensures.items c.is_open-first.ensures)

pub returns : goal.returns
returns c =
    (done c.args.line.now _ c.loop-at.at _ c.loop-at.invariant.1 (drop_all c.loop-at.at c.args.line.now (omega arith)), c.loop-at.invariant.1.placed)
