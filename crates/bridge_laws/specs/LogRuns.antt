-- What the log says after a run of calls: the first fault since the last clear, and whether others came after it.
use Rattle.std.specs.Prelude.{◌≡◌, ℕ, ◌/◌, true, false, cond, List, [], ◌∷◌, ◌++◌, Some, None, Option}
use Rattle.memory.specs.Content.{Content, Lines, absent, good, spoiled}
use Rattle.memory.specs.declared.MemoryFault.TheVariants.{Absent, Spoiled}
use Rattle.bridge.specs.declared.faults.BurstFault.{BurstFault}
use Rattle.bridge.specs.declared.faults.BurstFault.TheVariants.{Target, Walk}
use Rattle.bridge.specs.declared.log.FaultLog.{FaultLog}
use Rattle.bridge.specs.declared.log.FaultRecord.{FaultRecord}
use Rattle.bridge.specs.Bursts.{Job, Piece, direction, failed_check, pieces, reading, writing}
use Rattle.bridge.specs.Calls.{Call, card, decode, load, log_clear, log_read, performed, processor, register_read, register_write, store}
use Rattle.bridge.specs.Isolation.{after}
use Rattle.bridge.specs.Log.{empty_log}
use Rattle.bridge.specs.Pieces.{after_piece, piece_outcome}
use Rattle.bridge.specs.Runs.{ends}
use Rattle.bridge.specs.State.{State, new_state}
use Rattle.bridge.specs.Translation.{Place, place_of, table_fault, target, unclaimed}

-- a fault as the log has it
abbrev pub recorded : Piece → BurstFault → FaultRecord
recorded p fault = record { fault = fault; direction = direction p.job; pci = p.pci }

-- the fault that a piece meets at its target, if any: its line is absent, or a read finds it spoiled
abbrev pub target_faults : Piece → ℕ → Job → Content → List FaultRecord
target_faults p line job absent = recorded p (Target (Absent line)) ∷ []
target_faults p line reading spoiled = recorded p (Target (Spoiled line)) ∷ []
target_faults p line (writing words enables) spoiled = []
target_faults p line job (good bytes) = []

abbrev pub faults_at : Lines → Piece → Place → List FaultRecord
faults_at lines p unclaimed = []
faults_at lines p (table_fault fault) = recorded p (Walk fault) ∷ []
faults_at lines p (target address) = target_faults p (address / 32) p.job (lines (address / 32))

-- the faults that some pieces meet, in their order, each in the state in which it is served
abbrev pub run_faults : State → List Piece → List FaultRecord
run_faults s [] = []
run_faults s (p ∷ ps) =
    let o = piece_outcome s.control s.lines p in
    faults_at s.lines p (place_of s p.pci) ++ cond (ends o.reply) [] (run_faults (after_piece s o) ps)

abbrev pub burst_faults : State → List Piece → Option ℕ → List FaultRecord
burst_faults s ps (Some number) = []
burst_faults s ps None = run_faults s ps

-- the faults since the last clear, after one more call
abbrev pub faults_then : List FaultRecord → State → Call → List FaultRecord
faults_then met s (processor (register_read n)) = met
faults_then met s (processor (register_write n v)) = met
faults_then met s (processor (load address)) = met
faults_then met s (processor (store address bytes)) = met
faults_then met s (processor (decode cpu)) = met
faults_then met s (processor log_read) = met
faults_then met s (processor log_clear) = []
faults_then met s (card b) = met ++ burst_faults s (pieces b) (failed_check s.control.registers b)

-- and after a list of calls
abbrev pub faults_since : List FaultRecord → State → List Call → List FaultRecord
faults_since met s [] = met
faults_since met s (c ∷ cs) = faults_since (faults_then met s c) (performed s c).state cs

-- the log of some faults: the first of them, and whether there are others
abbrev pub log_of : List FaultRecord → FaultLog
log_of [] = empty_log
log_of (f ∷ []) = record { reading = Some (record { first = f; missed = false }) }
log_of (f ∷ g ∷ faults) = record { reading = Some (record { first = f; missed = true }) }

-- a new bridge's log after any list of calls is that of the faults since the last clear
abbrev pub LogKeepsTheFirst : Type 0
LogKeepsTheFirst = (lines : Lines) (cs : List Call) → (after (new_state lines) cs).control.log ≡ log_of (faults_since [] (new_state lines) cs)
