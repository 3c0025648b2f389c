use Rattle.std.proofs.Common.{◌≡◌, ◌*◌, ◌≤◌, [], take, drop}
use Rattle.memory.specs.Banks.{fault_from, total}
use Rattle.memory.proofs.banks.check.Given as goal

-- no bank so far is at fault, so that the rest of them decides
abbrev pub invariant-loop-i : goal.invariant-loop-i
invariant-loop-i l = record {
  sound : fault_from 0 [] l.banks ≡ fault_from l.i-counter (take l.i-counter l.banks) (drop l.i-counter l.banks);
  small : total (take l.i-counter l.banks) ≤ l.i-counter * 0x4000_0000;
}
