-- The fault log.
use Rattle.std.specs.Prelude.{ℕ, true, false, List, [], ◌∷◌, Some, None, Ok, Err, Option, Result}
use Rattle.bridge.specs.declared.faults.BurstFault.{BurstFault}
use Rattle.bridge.specs.declared.log.Direction.{Direction}
use Rattle.bridge.specs.declared.log.Direction.TheVariants.{Read, Write}
use Rattle.bridge.specs.declared.log.FaultRecord.{FaultRecord}
use Rattle.bridge.specs.declared.log.FaultLog.{FaultLog}
use Rattle.bridge.specs.declared.log.LogReading.{LogReading}
use Rattle.bridge.specs.Bits.{flag}
use Rattle.bridge.specs.Faults.{fault_line, fault_number}

abbrev pub empty_log : FaultLog
empty_log = record { reading = None }

-- an empty log takes a fault; a filled one keeps its first, and says that it missed others
abbrev pub logged_after : Option LogReading → FaultRecord → LogReading
logged_after None fault = record { first = fault; missed = false }
logged_after (Some r) fault = record { first = r.first; missed = true }

abbrev pub logged : FaultLog → FaultRecord → FaultLog
logged log fault = record { reading = Some (logged_after log.reading fault) }

-- a fault goes into the log, with what the card asked for and the PCI address of the burst's first longword in the line
abbrev pub log_served : FaultLog → Direction → ℕ → Result Unit BurstFault → FaultLog
log_served log direction pci (Ok done) = log
log_served log direction pci (Err fault) = logged log (record { fault = fault; direction = direction; pci = pci })

-- 0 for a read, 1 for a write
abbrev pub direction_number : Direction → ℕ
direction_number Read = 0
direction_number Write = 1

-- what a log says: nothing where it is empty, else number, direction, PCI address, line, and 1 where others were missed
abbrev pub reading_values : Option LogReading → List ℕ
reading_values None = []
reading_values (Some r) = fault_number r.first.fault ∷ direction_number r.first.direction ∷ r.first.pci ∷ fault_line r.first.fault ∷ flag r.missed ∷ []
