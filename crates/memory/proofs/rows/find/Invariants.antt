use Rattle.std.proofs.Common.{◌≡◌, false}
use Rattle.std.specs.List.{AllWithin}
use Rattle.memory.proofs.rows.find.Given as goal

-- no row so far answers
abbrev pub invariant-loop-i : goal.invariant-loop-i
invariant-loop-i g l = AllWithin (λ row. g.R.Row.answers row l.n ≡ false) l.rows 0 l.i
