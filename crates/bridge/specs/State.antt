-- The bridge and its memory as one value.
use Rattle.memory.specs.Content.{Lines}
use Rattle.bridge.specs.declared.Bridge.{Bridge}
use Rattle.bridge.specs.declared.look_aside.LookAside.{LookAside}
use Rattle.bridge.specs.declared.log.FaultLog.{FaultLog}
use Rattle.bridge.specs.declared.registers.Registers.{Registers}
use Rattle.bridge.specs.LookAside.{zero_rows}
use Rattle.bridge.specs.Log.{empty_log}
use Rattle.bridge.specs.Registers.{zero_registers}

-- all of the bridge but its memory
pub record Control : Type 0 where
  pub registers : Registers
  pub look_aside : LookAside
  pub log : FaultLog

-- with what every line of the memory holds
pub record State : Type 0 where
  pub control : Control
  pub lines : Lines

-- the state of a bridge, where `content` is the meaning of its kind of memory
abbrev pub state_of : {M : Type 0} → (M → Lines) → Bridge M → State
state_of content b = record { control = record { registers = b.registers; look_aside = b.look_aside; log = b.log }; lines = content b.memory }

-- a new bridge over a memory: all registers, the rows and their pointer are 0, and the log is empty
abbrev pub new_state : Lines → State
new_state lines = record { control = record { registers = zero_registers; look_aside = zero_rows; log = empty_log }; lines = lines }

-- the state with other look-aside rows, and nothing else changed
abbrev pub with_rows : LookAside → State → State
with_rows t s = record { control = record { registers = s.control.registers; look_aside = t; log = s.control.log }; lines = s.lines }

-- the state with other lines, and nothing else changed
abbrev pub with_lines : (Lines → Lines) → State → State
with_lines change s = record { control = s.control; lines = change s.lines }
