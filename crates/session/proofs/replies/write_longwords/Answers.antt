use Rattle.std.proofs.Common.{get_or, Some, Ok, codes, sym, refl, arith}
use Rattle.std.specs.Fmt.{◌++?◌}
use Rattle.std.proofs.Output.{has_written_of_eq, has_written_append}
use Rattle.session.proofs.HexText.{hex_place}
use Rattle.session.proofs.ReplyTexts.{displayed, spaced_more}
use Rattle.session.proofs.replies.write_longwords.Goals as goal

pub loop-word-preserved : goal.loop-word-preserved
loop-word-preserved g c plain =
    let took = g.W.Write.write_str_gives in
    let ns = c.args.words.now in
    let i = c.loop-word.word-index in
    let x = c.loop-word.invariant plain in
    let n = hex_place (get_or ns i 0) c.in_radix.ensures (omega arith) in
    let y = displayed took _ _ (Ok c.in_ok-write.field-0) _ _ (λ j. Some (codes " ") ++? n j) c.in_ok-write.ensures.writes x.plain refl in
    has_written_of_eq took _ _ _ _ (sym (spaced_more ns i c.loop-word-test.true)) (has_written_append took _ _ _ _ _ x y)
