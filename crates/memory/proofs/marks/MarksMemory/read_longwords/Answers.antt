use Rattle.std.proofs.Common.{◌≡◌, ◌++◌, sym, ap, ◌∙◌, length, take, drop, arith}
use Rattle.std.proofs.lemmas.List.{length-append, length-drop, length-take-le}
use Rattle.memory.specs.Layers.{lines_under, marks_of}
use Rattle.memory.specs.Longwords.{buffer_filled, longwords_answer, longwords_on}
use Rattle.memory.proofs.TakenLongwords.{put_front}
use Rattle.memory.proofs.MarkedReads.{unmarked_answer, unmarked_read}
use Rattle.memory.proofs.marks.MarksMemory.read_longwords.Given
use Rattle.memory.proofs.marks.MarksMemory.read_longwords.Goals as goal

pub returns-clause-answer : goal.returns-clause-answer
returns-clause-answer g c =
    let n = c.unmarked_from-count in
    c.read_longwords.ensures.answer
    ∙ ap (λ k. longwords_answer k c.args.first (g.M.Memory.content c.args.self.now.below)) (length-take-le n.result c.args.place.now n.ensures.most)
    ∙ unmarked_answer (marks_of c.args.self.now) (g.M.Memory.content c.args.self.now.below) (length c.args.place.now) n.result c.args.first n.ensures.most n.ensures.before n.ensures.next (sym c.is_marked.ensures ∙ c.if-is_marked.false)

-- what was read below is what is read here
same_words : (g : Given.Over) (c : goal.After-slice_known-2-1 g)
    → longwords_on (length (take c.unmarked_from-count.result c.args.place.now)) c.args.first (g.M.Memory.content c.args.self.now.below) ≡ longwords_on (length c.args.place.now) c.args.first (lines_under g.M.Memory.content c.args.self.now)
same_words g c =
    let n = c.unmarked_from-count in
    ap (λ k. longwords_on k c.args.first (g.M.Memory.content c.args.self.now.below)) (length-take-le n.result c.args.place.now n.ensures.most)
    ∙ unmarked_read (marks_of c.args.self.now) (g.M.Memory.content c.args.self.now.below) (length c.args.place.now) n.result c.args.first n.ensures.most n.ensures.before n.ensures.next

pub returns-clause-place : goal.returns-clause-place
returns-clause-place g c =
    let n = c.unmarked_from-count.result in
    let place = c.args.place.now in
    let words = longwords_on (length (take n place)) c.args.first (g.M.Memory.content c.args.self.now.below) in
    ap (λ l. l ++ drop n place) c.read_longwords.ensures.place
    ∙ put_front 0 n place words
    (omega (arith, c.read_longwords.auto.place, ap length c.read_longwords.ensures.place, length-append words (drop (length words) (take n place)), length-drop (length words) (take n place)))
    ∙ ap (λ l. buffer_filled l place) (same_words g c)
