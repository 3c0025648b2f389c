-- One piece of a burst: claim, translation, one memory call.
use Rattle.std.specs.Prelude.{◌≡◌, ℕ, ◌/◌, ◌%◌, Bool, List, length, Ok, Err, Result}
use Rattle.memory.specs.Content.{Content, Lines, absent, spoiled, good, written}
use Rattle.memory.specs.declared.MemoryFault.{MemoryFault}
use Rattle.memory.specs.declared.MemoryFault.TheVariants.{Absent, Spoiled}
use Rattle.memory.specs.Longwords.{buffer_filled, longwords, longwords_answer, longwords_on}
use Rattle.bridge.specs.declared.enables.WritePiece.{WritePiece}
use Rattle.bridge.specs.declared.faults.BurstFault.{BurstFault}
use Rattle.bridge.specs.declared.faults.BurstFault.TheVariants.{Target, Walk}
use Rattle.bridge.specs.declared.log.FaultLog.{FaultLog}
use Rattle.bridge.specs.declared.look_aside.LookAside.{LookAside}
use Rattle.bridge.specs.Bursts.{Job, Piece, direction, piece_to_write, reading, writing}
use Rattle.bridge.specs.Log.{logged}
use Rattle.bridge.specs.Longwords.{line_bytes, line_mask}
use Rattle.bridge.specs.State.{Control, State}
use Rattle.bridge.specs.Translation.{Located, Place, located, located_claimed, table_fault, target, unclaimed}

-- the piece of a write that the code has
abbrev pub piece_of : WritePiece → Piece
piece_of p = piece_to_write p.claimed.pci p.words.now p.enables.numbers.now

-- what is written: nothing, or the masked bytes of one line
pub data Edit : Type 0 where
  no_edit : Edit
  line_edit : ℕ → List ℕ → ℕ → Edit

abbrev pub edited : Edit → Lines → Lines
edited no_edit lines = lines
edited (line_edit line bytes mask) lines = written line bytes mask lines

-- what a card learns of a piece: of a read the longwords, or the fault that ends it with its PCI address; of a write
-- only how many longwords were stored, or dismissed with their line; of both that no window holds it
pub data PieceReply : Type 0 where
  words_moved : List ℕ → PieceReply
  read_ended : ℕ → BurstFault → PieceReply
  words_stored : ℕ → PieceReply
  words_dismissed : ℕ → PieceReply
  no_window : PieceReply

-- all that a piece does: the rows and the log that it leaves, what the card learns, what is written
pub record PieceOutcome : Type 0 where
  pub look_aside : LookAside
  pub log : FaultLog
  pub reply : PieceReply
  pub edit : Edit

-- a fault ends a read, and dismisses the line of a write
abbrev pub fault_reply : Piece → Job → BurstFault → PieceReply
fault_reply p reading fault = read_ended p.pci fault
fault_reply p (writing words enables) fault = words_dismissed p.count

-- a fault goes to the log, with the PCI address of the burst's first longword in the line
abbrev pub outcome_faulted : LookAside → FaultLog → Piece → BurstFault → PieceOutcome
outcome_faulted t log p fault = record {
  look_aside = t;
  log = logged log (record { fault = fault; direction = direction p.job; pci = p.pci });
  reply = fault_reply p p.job fault;
  edit = no_edit;
}

abbrev pub outcome_read : LookAside → FaultLog → Piece → ℕ → List ℕ → PieceOutcome
outcome_read t log p address bytes = record { look_aside = t; log = log; reply = words_moved (longwords p.count (address % 32) bytes); edit = no_edit }

-- the bytes that are enabled are written; where none is, the mask is empty
abbrev pub outcome_written : LookAside → FaultLog → Piece → ℕ → List ℕ → List ℕ → PieceOutcome
outcome_written t log p address words enables = record {
  look_aside = t;
  log = log;
  reply = words_stored p.count;
  edit = line_edit (address / 32) (line_bytes (address % 32) words) (line_mask (address % 32) enables);
}

-- the memory call at the target: 8 where its line is absent, 9 where a read finds it spoiled
abbrev pub outcome_at_content : LookAside → FaultLog → Piece → ℕ → Job → Content → PieceOutcome
outcome_at_content t log p address job absent = outcome_faulted t log p (Target (Absent (address / 32)))
outcome_at_content t log p address reading spoiled = outcome_faulted t log p (Target (Spoiled (address / 32)))
outcome_at_content t log p address reading (good bytes) = outcome_read t log p address bytes
outcome_at_content t log p address (writing words enables) spoiled = outcome_written t log p address words enables
outcome_at_content t log p address (writing words enables) (good bytes) = outcome_written t log p address words enables

abbrev pub outcome_at_place : LookAside → FaultLog → Lines → Piece → Place → PieceOutcome
outcome_at_place t log lines p unclaimed = record { look_aside = t; log = log; reply = no_window; edit = no_edit }
outcome_at_place t log lines p (table_fault fault) = outcome_faulted t log p (Walk fault)
outcome_at_place t log lines p (target address) = outcome_at_content t log p address p.job (lines (address / 32))

abbrev pub outcome_located : FaultLog → Lines → Piece → Located → PieceOutcome
outcome_located log lines p l = outcome_at_place l.look_aside log lines p l.place

-- the same of a piece that a window claims, by its number and whether it is mapped
abbrev pub outcome_claimed : State → Piece → ℕ → Bool → PieceOutcome
outcome_claimed s p number mapped = outcome_located s.control.log s.lines p (located_claimed s p.pci number mapped)

-- what the code's answer for a piece of a write stands for, with the rows that it leaves and the edit that it makes
abbrev pub outcome_by_write : LookAside → FaultLog → Piece → Edit → Result Unit BurstFault → PieceOutcome
outcome_by_write t log p edit (Ok done) = record { look_aside = t; log = log; reply = words_stored p.count; edit = edit }
outcome_by_write t log p edit (Err fault) = outcome_faulted t log p fault

-- What the code's read of longwords in one page comes to, by where the first one leads: how many were read, up to the first line
-- that is not good. A fault leaves the place for them.
abbrev pub target_answer : Result ℕ MemoryFault → Result ℕ BurstFault
target_answer (Ok count) = Ok count
target_answer (Err fault) = Err (Target fault)

abbrev pub ReadFrom : Place → Lines → List ℕ → List ℕ → Result ℕ BurstFault → Type 0
ReadFrom unclaimed lines old new answer = ⊥
ReadFrom (table_fault fault) lines old new answer = (answer ≡ Err (Walk fault)) × (new ≡ old)
ReadFrom (target address) lines old new answer =
    (answer ≡ target_answer (longwords_answer (length old) (address / 4) lines)) × (new ≡ buffer_filled (longwords_on (length old) (address / 4) lines) old)

-- what holds of a target's address
abbrev pub OfTarget : Place → (ℕ → Type 0) → Type 0
OfTarget unclaimed P = Unit {0}
OfTarget (table_fault fault) P = Unit {0}
OfTarget (target address) P = P address

abbrev pub piece_outcome : Control → Lines → Piece → PieceOutcome
piece_outcome k lines p = outcome_located k.log lines p (located k.registers k.look_aside lines p.pci)

abbrev pub after_piece : State → PieceOutcome → State
after_piece s o = record {
  control = record { registers = s.control.registers; look_aside = o.look_aside; log = o.log };
  lines = edited o.edit s.lines;
}
