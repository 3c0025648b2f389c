use Rattle.std.proofs.Common.{◌∙◌}
use Rattle.memory.proofs.MarkLists.{marked_is}
use Rattle.memory.proofs.marks.Marks.is_marked.Goals as goal

pub returns-then-may_be_marked : goal.returns-then-may_be_marked
returns-then-may_be_marked g c = rw (← c.deref.ensures.value) (c.is_some.ensures ∙ marked_is _ _ _ c.find.ensures)
