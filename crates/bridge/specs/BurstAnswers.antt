-- What the code answers to a burst, by number and values.
use Rattle.std.specs.Prelude.{ℕ, ◌+◌, Bool, true, false, [], ◌∷◌, Result}
use Rattle.memory.specs.Answers.{Answer, Cause, answered, bare, no_values}
use Rattle.bridge.specs.declared.bursts.BurstRefusal.{BurstRefusal}
use Rattle.bridge.specs.declared.bursts.BurstRefusal.TheVariants.{Alignment, Bounds, Ended, Unclaimed}
use Rattle.bridge.specs.declared.bursts.ReadEnd.{ReadEnd}
use Rattle.bridge.specs.declared.bursts.ReadEnd.TheVariants.{Fault, NoWindow}
use Rattle.bridge.specs.declared.bursts.WriteCounts.{WriteCounts}
use Rattle.bridge.specs.declared.bursts.WriteEnd.{WriteEnd}
use Rattle.bridge.specs.Faults.{fault_line, fault_number}
use Rattle.bridge.specs.Runs.{count_values}

-- the three checks are numbers 1, 2 and 3, and return nothing further
abbrev pub burst_cause : {E : Type 0} → (E → Cause) → BurstRefusal E → Cause
burst_cause end Bounds = bare 1
burst_cause end Alignment = bare 2
burst_cause end Unclaimed = bare 3
burst_cause end (Ended e) = end e

-- 4 returns the longwords that were moved; a fault returns them with its PCI address and its line
abbrev pub read_end_cause : ReadEnd → Cause
read_end_cause (NoWindow moved) = record { number = 4; values = moved ∷ [] }
read_end_cause (Fault moved pci fault) = record { number = fault_number fault; values = moved ∷ pci ∷ fault_line fault ∷ [] }

-- a write's 4 returns its three counts
abbrev pub write_end_cause : WriteEnd → Cause
write_end_cause e = record { number = 4; values = count_values e.counts }

-- a read that succeeds returns nothing but its buffer, a write its three counts
abbrev pub read_answered : Result Unit (BurstRefusal ReadEnd) → Answer
read_answered r = answered no_values (burst_cause read_end_cause) r

abbrev pub write_answered : Result WriteCounts (BurstRefusal WriteEnd) → Answer
write_answered r = answered count_values (burst_cause write_end_cause) r

-- the counts with a line more, stored or dismissed
abbrev pub tallied : WriteCounts → ℕ → Bool → WriteCounts
tallied c longwords true = record { taken = c.taken + longwords; stored = c.stored + 1; dismissed = c.dismissed }
tallied c longwords false = record { taken = c.taken + longwords; stored = c.stored; dismissed = c.dismissed + 1 }
