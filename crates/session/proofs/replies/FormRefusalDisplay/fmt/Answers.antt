use Rattle.std.proofs.Common.{◌≡◌, ℕ, ◌++◌, Some, Ok, codes, refl, ap, ◌∙◌, arith}
use Rattle.std.specs.Fmt.{◌++?◌}
use Rattle.std.proofs.Output.{has_written_of_eq, has_written_append}
use Rattle.memory.specs.Answers.{Cause}
use Rattle.session.specs.Replies.{Labels, cause_text, form_cause, form_labels, hex, labelled_values, returned_text}
use Rattle.session.proofs.HexText.{hex_place}
use Rattle.session.proofs.ReplyTexts.{displayed, spaced_parts}
use Rattle.session.proofs.replies.FormRefusalDisplay.fmt.Goals as goal

pieces : (labels : Labels) (cause : Cause) (number : ℕ) → number ≡ cause.number → (codes "(no " ++ hex number) ++ (returned_text labels cause ++ codes ")") ≡ cause_text labels cause
pieces labels cause number is =
    ap (λ n. (codes "(no " ++ hex n) ++ (returned_text labels cause ++ codes ")")) is
    ∙ ap (λ l. codes "(no " ++ (hex cause.number ++ l)) (spaced_parts (labelled_values labels cause.values))

pub returns-clause-writes : goal.returns-clause-writes
returns-clause-writes g c plain ok =
    let took = g.W.Write.write_str_gives in
    let refusal = c.args.self.now in
    let number = hex_place c.number-number.result c.in_radix.ensures (omega arith) in
    let x = displayed took _ _ (Ok c.in_ok-write.field-0) _ _ (λ i. Some (codes "(no ") ++? number i) c.in_ok-write.ensures.writes plain refl in
    let y = c.in_ok-write_returned.ensures x.plain refl in
    let z = c.write_str.ensures.writes y.plain ok in
    has_written_of_eq took _ _ _ _ (pieces (form_labels refusal) (form_cause refusal) c.number-number.result c.number-number.ensures) (has_written_append took _ _ _ _ _ x (has_written_append took _ _ _ _ _ y z))
