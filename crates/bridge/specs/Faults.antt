-- What stops a piece of a burst: each fault's number, and the line that it names.
use Rattle.std.specs.Prelude.{ℕ}
use Rattle.memory.specs.Content.{memory_line}
use Rattle.memory.specs.declared.MemoryFault.TheVariants.{Absent, Spoiled}
use Rattle.bridge.specs.declared.faults.BurstFault.{BurstFault}
use Rattle.bridge.specs.declared.faults.BurstFault.TheVariants.{Target, Walk}
use Rattle.bridge.specs.declared.faults.WalkFault.{WalkFault}
use Rattle.bridge.specs.declared.faults.WalkFault.TheVariants.{Memory, NotValid}

-- 5: the table's entry is not valid; 6 and 7: the table's line is absent or spoiled
abbrev pub walk_number : WalkFault → ℕ
walk_number (NotValid line) = 5
walk_number (Memory (Absent line)) = 6
walk_number (Memory (Spoiled line)) = 7

abbrev pub walk_line : WalkFault → ℕ
walk_line (NotValid line) = line
walk_line (Memory fault) = memory_line fault

-- 8 and 9: the target's line is absent, or spoiled where it is read
abbrev pub fault_number : BurstFault → ℕ
fault_number (Walk fault) = walk_number fault
fault_number (Target (Absent line)) = 8
fault_number (Target (Spoiled line)) = 9

-- the line of the table for 5 to 7, of the target for 8 and 9
abbrev pub fault_line : BurstFault → ℕ
fault_line (Walk fault) = walk_line fault
fault_line (Target fault) = memory_line fault
