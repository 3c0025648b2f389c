use Rattle.std.proofs.Common.{◌<◌, ◌≢◌, ◌∙◌, length, arith}
use Rattle.std.proofs.lemmas.List.Quantifiers.{all_pairs_remove}
use Rattle.memory.proofs.MarkLists.{each_without, removed_is, without_none}
use Rattle.memory.proofs.marks.Marks.unmark.Goals as goal

pub invariant_of-self-clause-apart : goal.invariant_of-self-clause-apart
invariant_of-self-clause-apart g c =
    let within : c.in-Some.i < length c.args.self.now.marks.items = omega (arith, c.in-Some.ensures.0) in
    rw c.remove.ensures.items (all_pairs_remove (λ a b. a.line ≢ b.line) _ c.in-Some.i within c.args.self.now.apart)

pub invariant_of-self-clause-there : goal.invariant_of-self-clause-there
invariant_of-self-clause-there g c =
    rw (c.remove.ensures.items ∙ removed_is _ c.in-Some.i c.args.line (simp c.deref.ensures.value at c.in-Some.ensures))
    (each_without _ c.args.line _ c.args.self.now.apart c.args.self.now.there)

pub invariant_of-self-clause-hinted : goal.invariant_of-self-clause-hinted
invariant_of-self-clause-hinted g c =
    rw (c.remove.ensures.items ∙ removed_is _ c.in-Some.i c.args.line (simp c.deref.ensures.value at c.in-Some.ensures))
    (each_without _ c.args.line _ c.args.self.now.apart c.args.self.now.hinted)

pub returns-in-Some-clause-marks : goal.returns-in-Some-clause-marks
returns-in-Some-clause-marks g c =
    c.remove.ensures.items ∙ removed_is _ c.in-Some.i c.args.line (simp c.deref.ensures.value at c.in-Some.ensures)

pub returns-in_default-clause-marks : goal.returns-in_default-clause-marks
returns-in_default-clause-marks g c = without_none _ _ (simp c.deref.ensures.value at c.in_default.ensures)
