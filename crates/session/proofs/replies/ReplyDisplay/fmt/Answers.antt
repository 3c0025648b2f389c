use Rattle.std.proofs.Common.{sym, refl, ap, ◌∙◌}
use Rattle.std.proofs.Output.{has_written_of_eq, has_written_append}
use Rattle.session.specs.Replies.{ok_text, reply_text}
use Rattle.session.proofs.ReplyTexts.{longwords_text}
use Rattle.session.proofs.replies.ReplyDisplay.fmt.Goals as goal

pub returns-in_ok-write_longwords-in-Longwords-clause-writes : goal.returns-in_ok-write_longwords-in-Longwords-clause-writes
returns-in_ok-write_longwords-in-Longwords-clause-writes g c plain ok =
    let took = g.W.Write.write_str_gives in
    let x = c.in_ok-write_str-in-Longwords.ensures.writes plain refl in
    let y = c.in_ok-write_longwords-in-Longwords.ensures x.plain refl in
    let z = c.write_str-in-Longwords-2.ensures.writes y.plain ok in
    has_written_of_eq took _ _ _ _ (longwords_text _ ∙ ap ok_text c.as_slice.ensures.value ∙ ap reply_text (sym c.in-Longwords.is)) (has_written_append took _ _ _ _ _ x (has_written_append took _ _ _ _ _ y z))
