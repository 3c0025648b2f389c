-- The nine calls, seven of the processor and two of the cards: what each answers and what it leaves.
use Rattle.std.specs.Prelude.{ℕ, Bool, true, false, List, [], Some, None, Option, Result}
use Rattle.memory.specs.Answers.{Answer, success, refusal}
use Rattle.memory.specs.Content.{Lines}
use Rattle.bridge.specs.declared.bursts.BurstRefusal.{BurstRefusal}
use Rattle.bridge.specs.declared.bursts.ReadEnd.{ReadEnd}
use Rattle.bridge.specs.declared.bursts.WriteCounts.{WriteCounts}
use Rattle.bridge.specs.declared.bursts.WriteEnd.{WriteEnd}
use Rattle.bridge.specs.BurstAnswers.{read_answered, write_answered}
use Rattle.bridge.specs.Bursts.{Burst, failed_check, pieces}
use Rattle.bridge.specs.Log.{empty_log, reading_values}
use Rattle.bridge.specs.Processor.{decode_answer, lines_stored, load_answer, store_answer}
use Rattle.bridge.specs.declared.registers.Register.{Register}
use Rattle.bridge.specs.Registers.{register_named, register_read_answer, register_write_answer, registers_written, rows_written}
use Rattle.bridge.specs.Runs.{Run, burst_answer, burst_buffer, lent_buffer, run}
use Rattle.bridge.specs.State.{Control, State}

-- what the processor asks: a register's number, and the value to write; an address, and the bytes to store
pub data Request : Type 0 where
  register_read : ℕ → Request
  register_write : ℕ → ℕ → Request
  load : ℕ → Request
  store : ℕ → List ℕ → Request
  decode : ℕ → Request
  log_read : Request
  log_clear : Request

pub data Call : Type 0 where
  processor : Request → Call
  card : Burst → Call

abbrev pub is_burst : Call → Bool
is_burst (processor q) = false
is_burst (card b) = true

-- all that a call comes to: the state that it leaves, what it answers, and the buffer that a card read was lent
pub record Outcome : Type 0 where
  pub state : State
  pub answer : Answer
  pub buffer : List ℕ

-- a register write changes the bridge's own record and no memory; one that names no register, or one that can only be
-- read, changes nothing
abbrev pub control_written : Control → Option Register → ℕ → Control
control_written k None v = k
control_written k (Some r) v = record { registers = registers_written k.registers r v; look_aside = rows_written k.look_aside r; log = k.log }

abbrev pub control_after : Request → Control → Control
control_after (register_read n) k = k
control_after (register_write n v) k = control_written k (register_named n) v
control_after (load address) k = k
control_after (store address bytes) k = k
control_after (decode cpu) k = k
control_after log_read k = k
control_after log_clear k = record { registers = k.registers; look_aside = k.look_aside; log = empty_log }

-- a store changes the memory, and no other request does
abbrev pub lines_after : Request → Lines → Lines
lines_after (register_read n) lines = lines
lines_after (register_write n v) lines = lines
lines_after (load address) lines = lines
lines_after (store address bytes) lines = lines_stored lines address bytes
lines_after (decode cpu) lines = lines
lines_after log_read lines = lines
lines_after log_clear lines = lines

abbrev pub request_answer : State → Request → Answer
request_answer s (register_read n) = register_read_answer s.control.registers s.control.look_aside (register_named n)
request_answer s (register_write n v) = register_write_answer (register_named n)
request_answer s (load address) = load_answer s.lines address
request_answer s (store address bytes) = store_answer s.lines address
request_answer s (decode cpu) = decode_answer s.control.registers cpu
request_answer s log_read = success (reading_values s.control.log.reading)
request_answer s log_clear = success []

abbrev pub burst_served : Burst → Run → Outcome
burst_served b r = record { state = r.state; answer = burst_answer b r.replies; buffer = burst_buffer b r.replies }

-- a burst that fails a check changes nothing, and returns the number of the check alone
abbrev pub burst_outcome : State → Burst → Option ℕ → Outcome
burst_outcome s b (Some number) = record { state = s; answer = refusal number []; buffer = lent_buffer b }
burst_outcome s b None = burst_served b (run s (pieces b))

-- what the code leaves and answers, as an outcome
abbrev pub read_outcome : State → List ℕ → Result Unit (BurstRefusal ReadEnd) → Outcome
read_outcome s buffer r = record { state = s; answer = read_answered r; buffer = buffer }

abbrev pub write_outcome : State → Result WriteCounts (BurstRefusal WriteEnd) → Outcome
write_outcome s r = record { state = s; answer = write_answered r; buffer = [] }

abbrev pub performed : State → Call → Outcome
performed s (processor q) = record { state = record { control = control_after q s.control; lines = lines_after q s.lines }; answer = request_answer s q; buffer = [] }
performed s (card b) = burst_outcome s b (failed_check s.control.registers b)
