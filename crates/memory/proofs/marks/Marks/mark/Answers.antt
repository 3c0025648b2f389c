use Rattle.std.proofs.Common.{rules, arith, ◌≡◌, [], sym, ◌∙◌}
use Rattle.memory.specs.Answers.{refusal, success}
use Rattle.memory.specs.Marked.{mark_answer}
use Rattle.memory.proofs.MarkCounts.{answer_of_lines}
use Rattle.memory.proofs.MarkLists.{distinct_push, each_push, hinted_push}
use Rattle.memory.proofs.MarkedLines.{mark_after}
use Rattle.memory.proofs.marks.Marks.mark.Goals as goal

pub invariant_of-self-clause-apart : goal.invariant_of-self-clause-apart
invariant_of-self-clause-apart g c =
    rw c.push_reserved.ensures.items
    (distinct_push _ (record { line = c.args.line }) c.args.self.now.apart (sym c.if-is_marked.ensures))

pub invariant_of-self-clause-there : goal.invariant_of-self-clause-there
invariant_of-self-clause-there g c =
    rw c.push_reserved.ensures.items
    (each_push _ (record { line = c.args.line }) _ c.args.self.now.there (sym c.if-not-present.ensures))

pub invariant_of-self-clause-hinted : goal.invariant_of-self-clause-hinted
invariant_of-self-clause-hinted g c =
    rw c.push_reserved.ensures.items (hinted_push _ (record { line = c.args.line }) _ (omega arith) c.args.self.now.hinted)

pub returns-clause-after : goal.returns-clause-after
returns-clause-after g c =
    mark_after _ _ (record { line = c.args.line }) _ c.push_reserved.ensures.items (sym c.if-not-present.ensures)

pub returns-then-len-ge-MOST-clause-by_lines : goal.returns-then-len-ge-MOST-clause-by_lines
returns-then-len-ge-MOST-clause-by_lines g c never =
    let m = c.args.self.now in
    let e : refusal 17 [] ≡ mark_answer m.marks.items (g.M.Memory.content m.below) c.args.line = search rules in
    e ∙ answer_of_lines _ _ _ m.there m.apart (g.met.M.Memory.beyond m.below) never

pub returns-clause-by_lines : goal.returns-clause-by_lines
returns-clause-by_lines g c never =
    let m = c.args.self.now in
    let e : success [] ≡ mark_answer m.marks.items (g.M.Memory.content m.below) c.args.line = search rules in
    e ∙ answer_of_lines _ _ _ m.there m.apart (g.met.M.Memory.beyond m.below) never
