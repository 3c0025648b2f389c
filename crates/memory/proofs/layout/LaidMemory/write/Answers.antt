use Rattle.std.proofs.Common.{sym, ◌∙◌, arith}
use Rattle.std.proofs.lemmas.List.{with_items_is}
use Rattle.memory.specs.LinesAt.{written_laid_out}
use Rattle.memory.proofs.layout.LaidMemory.write.Goals as goal

pub returns-clause-after : goal.returns-clause-after
returns-clause-after g c =
    written_laid_out _ _ _ _ _ _ _ _ (g.met.L.Layout.apart c.args.self.now.layout) (omega arith)
    (sym c.offset_of.ensures ∙ c.in_ok-at.ensures.ok_part)
    (with_items_is c.args.self.now.bytes c.put.new.bytes (omega arith) ∙ simp c.deref_mut.ensures.value at c.put.ensures)
