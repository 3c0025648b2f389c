use Rattle.std.proofs.Common.{ap, ◌∙◌}
use Rattle.memory.specs.Marked.{marked}
use Rattle.memory.proofs.MarkLists.{unmarked}
use Rattle.memory.proofs.MarkedLines.{full_write}
use Rattle.memory.proofs.marks.MarksMemory.write.Goals as goal

pub returns-then-mask-eq4294967295-clause-after : goal.returns-then-mask-eq4294967295-clause-after
returns-then-mask-eq4294967295-clause-after g c =
    let marks = c.args.self.now.marks.items in
    full_write marks _ (g.M.Memory.content c.args.self.now.below) _ _ _ _ c.told-bytes c.if-mask-eq4294967295.true
    (ap g.M.Memory.content c.unmark.ensures.below ∙ c.write.ensures.after)
    (λ k. ap (λ xs. marked xs k) c.unmark.ensures.marks ∙ unmarked marks c.args.line c.args.self.now.apart k)
