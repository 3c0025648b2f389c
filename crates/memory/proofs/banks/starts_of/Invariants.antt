use Rattle.std.proofs.Common.{◌≡◌, ℕ, ◌<◌, get_or, length, take}
use Rattle.memory.specs.Banks.{total}
use Rattle.memory.proofs.banks.starts_of.Given as goal

abbrev pub invariant-loop-i : goal.invariant-loop-i
invariant-loop-i l =
    (length l.starts ≡ 8)
    × ((l.start ≡ total (take l.i l.banks))
    × ((k : ℕ) → k < l.i → get_or l.starts k 0 ≡ total (take k l.banks)))
