-- A session: its bridge, and what each form answers and leaves.
use Rattle.std.specs.Prelude.{◌≡◌, ℕ, ◌/◌, min, Bool, true, false, cond, List, [], ◌∷◌, map, length, replicate, Ok, Err, Result, ◌==◌, slice_index}
use Rattle.memory.specs.Answers.{Answer, success, refusal}
use Rattle.memory.specs.Layers.{lines_laid, lines_under}
use Rattle.memory.specs.Layouts.{from_zero}
use Rattle.memory.specs.Marked.{lines_marked, mark_answer_of_lines}
use Rattle.bridge.specs.declared.decode.Space.{Space}
use Rattle.bridge.specs.declared.decode.Space.TheVariants.{SparseMemory, DenseMemory, SparseIo, Configuration}
use Rattle.bridge.specs.declared.registers.RegisterRefusal.TheVariants.{NotListed}
use Rattle.bridge.specs.Bursts.{Burst, card_read, card_write}
use Rattle.bridge.specs.Calls.{Outcome, Request, card, decode, log_clear, log_read, performed, processor, register_read, register_write}
use Rattle.bridge.specs.Processor.{OfLine}
use Rattle.bridge.specs.Registers.{register_named, write_refusal}
use Rattle.bridge.specs.State.{State, state_of, with_lines}
use Rattle.bridge.specs.Words.{space_text}
use Rattle.session.specs.declared.forms.Name.{Name}
use Rattle.session.specs.declared.forms.Name.TheVariants as N
use Rattle.session.specs.declared.replies.Reply.{Reply}
use Rattle.session.specs.declared.replies.FormRefusal.{FormRefusal}
use Rattle.session.specs.declared.replies.FormRefusal.TheVariants as F
use Rattle.session.specs.declared.replies.Reply.TheVariants.{Done, Value, Decoded, Log, Longwords, Counts, Refused}
use Rattle.session.specs.declared.lexer.LineError.{LineError}
use Rattle.session.specs.declared.lexer.LineError.TheVariants as L
use Rattle.session.specs.declared.session.FormError.{FormError}
use Rattle.session.specs.declared.session.FormError.TheVariants as E
use Rattle.session.specs.declared.session.Session.{Session}
use Rattle.session.specs.Forms.{Asked, Spells}
use Rattle.session.specs.InputLines.{Cut, kept, too_long}
use Rattle.session.specs.Quadwords.{cpu_load, cpu_store, outcome_of}
use Rattle.session.specs.Replies.{Labels, hex, log_text, ok_text, parenthesized, read_labels, refusal_text, reply_answer, reply_text, write_labels}

abbrev pub session_state : Session → State
session_state s = state_of (lines_under (lines_laid (λ _. from_zero))) s.bridge

-- what marking a line answers: in a session only marks spoil a line, so that the spoiled lines are the marked ones
abbrev pub session_mark : State → ℕ → Answer
session_mark s line = mark_answer_of_lines s.lines line

-- what a processor's call comes to, and what a card's burst comes to
abbrev pub requested : State → Request → Outcome
requested s request = performed s (processor request)

abbrev pub served : State → Burst → Outcome
served s burst = performed s (card burst)

-- the burst of a card-read: its buffer has a zero longword for each that is asked for, up to 64
abbrev pub read_burst : ℕ → ℕ → Burst
read_burst pci count = card_read pci count (replicate (min count 64) 0)

-- the burst of a card-write: the longwords of its pairs, under the numbers that stand beside them
abbrev pub write_burst : ℕ → List (ℕ × ℕ) → Burst
write_burst pci pairs = card_write pci (length pairs) (map (λ p. p.0) pairs) (map (λ p. p.1) pairs)

-- what a form comes to
abbrev pub form_outcome : State → Asked → Outcome
form_outcome s (N.CpuStore, (address, value)) = cpu_store s address value
form_outcome s (N.CpuLoad, address) = outcome_of (cpu_load s address) s
form_outcome s (N.Mark, line) = outcome_of (session_mark s line) (with_lines (lines_marked (session_mark s line) line) s)
form_outcome s (N.RegRead, register) = requested s (register_read register)
form_outcome s (N.RegWrite, (register, value)) = requested s (register_write register value)
form_outcome s (N.Pci, address) = requested s (decode address)
form_outcome s (N.Log, _) = requested s log_read
form_outcome s (N.LogClear, _) = requested s log_clear
form_outcome s (N.CardRead, (pci, count)) = served s (read_burst pci count)
form_outcome s (N.CardWrite, (pci, pairs)) = served s (write_burst pci pairs)

-- what is printed of an answer, given the text of its values and the labels of what a refusal returns
abbrev pub answer_text : (List ℕ → List ℕ) → Labels → Answer → List ℕ
answer_text text labels (success values) = text values
answer_text text labels (refusal number values) = refusal_text labels number values

-- a decoded cycle, by its values: space, PCI address and lanes
abbrev pub space_numbered : ℕ → Space
space_numbered n = cond (n == 0) SparseMemory (cond (n == 1) DenseMemory (cond (n == 2) SparseIo Configuration))

abbrev pub cycle_text : List ℕ → List ℕ
cycle_text values = parenthesized "ok" (space_text (space_numbered (slice_index values 0)) ∷ hex (slice_index values 1) ∷ hex (slice_index values 2) ∷ [])

-- a card read that succeeds prints its buffer, and any other form the values of its answer; a refusal of a card's burst
-- prints what it returns, and any other its number alone
abbrev pub read_text : Outcome → List ℕ
read_text o = answer_text (λ _. ok_text o.buffer) read_labels o.answer

abbrev pub write_text : Outcome → List ℕ
write_text o = answer_text ok_text write_labels o.answer

-- what is printed of what a form of each name comes to
abbrev pub outcome_text : Name → Outcome → List ℕ
outcome_text N.CpuStore o = answer_text ok_text [] o.answer
outcome_text N.CpuLoad o = answer_text ok_text [] o.answer
outcome_text N.Mark o = answer_text ok_text [] o.answer
outcome_text N.RegRead o = answer_text ok_text [] o.answer
outcome_text N.RegWrite o = answer_text ok_text [] o.answer
outcome_text N.Pci o = answer_text cycle_text [] o.answer
outcome_text N.Log o = answer_text log_text [] o.answer
outcome_text N.LogClear o = answer_text ok_text [] o.answer
outcome_text N.CardRead o = read_text o
outcome_text N.CardWrite o = write_text o

-- what a form came to, as a reply
abbrev pub reply_of : Result Reply FormRefusal → Reply
reply_of (Ok reply) = reply
reply_of (Err e) = Refused e

-- what a form comes to that may need memory: its reply does this, or the refusal that is its reply, and where there is no
-- memory the session stays as it was
abbrev pub Comes : (Reply → Session → Type 0) → Session → Result Reply FormError → Session → Type 0
Comes P before (Ok reply) after = P reply after
Comes P before (Err (E.Refused e)) after = P (Refused e) after
Comes P before (Err E.NoMemory) after = after ≡ before

-- what a line comes to of which nothing is read
abbrev pub unread : LineError → FormError
unread L.Malformed = E.Refused F.Malformed
unread L.NoMemory = E.NoMemory

-- which refusals a form of each name has
abbrev pub refuses_by : Name → FormRefusal → Bool
refuses_by N.CpuStore (F.Access e) = true
refuses_by N.CpuLoad (F.Access e) = true
refuses_by N.Mark (F.Mark e) = true
refuses_by N.RegRead (F.Register e) = true
refuses_by N.RegWrite (F.Register e) = true
refuses_by N.Pci (F.Decode e) = true
refuses_by N.CardRead (F.Read e) = true
refuses_by N.CardWrite (F.Write e) = true
refuses_by name e = false

-- whether a reply is of the kind that a form of each name has: one of its refusals, or what it returns
abbrev pub is_kind : Name → Reply → Bool
is_kind name (Refused e) = refuses_by name e
is_kind N.CpuStore Done = true
is_kind N.CpuLoad (Value n) = true
is_kind N.Mark Done = true
is_kind N.RegRead (Value n) = true
is_kind N.RegWrite Done = true
is_kind N.Pci (Decoded c) = true
is_kind N.Log (Log reading) = true
is_kind N.LogClear Done = true
is_kind N.CardRead (Longwords words) = true
is_kind N.CardWrite (Counts c) = true
is_kind name reply = false

-- which refusal it is where number and values do not tell: a memory's fault is that of the line at the address, and a register
-- call is refused for the number, or because the register can only be read
abbrev pub RefusedFor : Asked → Reply → Type 0
RefusedFor (N.CpuStore, (address, value)) (Refused (F.Access e)) = OfLine (address / 32) e
RefusedFor (N.CpuLoad, address) (Refused (F.Access e)) = OfLine (address / 32) e
RefusedFor (N.RegRead, register) (Refused (F.Register e)) = e ≡ NotListed
RefusedFor (N.RegWrite, (register, value)) (Refused (F.Register e)) = e ≡ write_refusal (register_named register)
RefusedFor asked reply = Unit {0}

-- what a form does: its reply is of its kind, has its answer and prints its text, and that state is left
pub record Does (before : Session) (asked : Asked) (reply : Reply) (after : Session) : Type 0 where
  pub kind : is_kind asked.0 reply ≡ true
  pub answer : reply_answer reply ≡ (form_outcome (session_state before) asked).answer
  pub text : reply_text reply ≡ outcome_text asked.0 (form_outcome (session_state before) asked)
  pub refused : RefusedFor asked reply
  pub state : session_state after ≡ (form_outcome (session_state before) asked).state

-- a line is answered as the form that it spells, or with 18, and nothing changes then
pub record Answered (before : Session) (line : List ℕ) (reply : Reply) (after : Session) : Type 0 where
  pub by_form : (asked : Asked) → Spells line asked → Does before asked reply after
  pub malformed : ((asked : Asked) → Spells line asked → ⊥) → (reply ≡ Refused F.Malformed) × (after ≡ before)

-- a line of the input is answered by its bytes; one that is too long is answered 18, and nothing changes
abbrev pub InputAnswered : Session → Cut → Reply → Session → Type 0
InputAnswered before (kept bytes) reply after = Answered before bytes reply after
InputAnswered before too_long reply after = (reply ≡ Refused F.Malformed) × (after ≡ before)
