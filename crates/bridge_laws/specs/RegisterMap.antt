-- The register map: what each register reads, what reads back after a write, what a write leaves, and which numbers are refused.
use Rattle.std.specs.Prelude.{◌≡◌, ℕ, ◌+◌, ◌-◌, ◌<◌, ◌≤◌, Bool, true, false, cond, ◌&&◌, ◌||◌, ◌⊎◌, [], ◌∷◌, Some, None, Option, ◌==◌, ◌≢◌}
use Rattle.memory.specs.Answers.{Answer, success, refusal}
use Rattle.memory.specs.Content.{bit}
use Rattle.bridge.specs.declared.look_aside.LookAsideRow.{LookAsideRow}
use Rattle.bridge.specs.Bits.{in_range}
use Rattle.bridge.specs.Calls.{Call, performed, processor, register_read, register_write}
use Rattle.bridge.specs.LookAside.{row, zero_rows}
use Rattle.bridge.specs.State.{State}

-- the numbers of registers: 6 to 14 can be written, 16 to 31 belong to the rows and can only be read, and a write of 32
-- invalidates all rows
abbrev pub FromTo : ℕ → ℕ → ℕ → Type 0
FromTo low high n = (low ≤ n) × (n ≤ high)

abbrev pub Listed : ℕ → Type 0
Listed n = FromTo 6 14 n ⊎ FromTo 16 32 n

abbrev pub RowRegister : ℕ → Type 0
RowRegister n = FromTo 16 31 n

abbrev pub Writable : ℕ → Type 0
Writable n = Listed n × (RowRegister n → ⊥)

-- whether register n keeps bit i of a written value
abbrev pub kept_bit : ℕ → ℕ → Bool
kept_bit n i =
    cond (in_range 6 7 n) (in_range 9 31 i)
    (cond (in_range 8 9 n) (in_range 18 31 i)
    (cond (in_range 10 11 n) (in_range 20 31 i)
    (cond (n == 13) (in_range 27 31 i)
    (cond (n == 14) (in_range 24 31 i || in_range 0 1 i)
    false))))

-- what a read of register n answers, and the state after a write of v to it
abbrev pub read_of : State → ℕ → Answer
read_of s n = (performed s (processor (register_read n))).answer

abbrev pub after_write : State → ℕ → ℕ → State
after_write s n v = (performed s (processor (register_write n v))).state

-- a write succeeds, and a read then answers one value: a bit that is kept is the written one, any other is 0
pub record ReadsBack (s : State) (n v : ℕ) : Type 0 where
  pub succeeds : (performed s (processor (register_write n v))).answer ≡ success []
  pub value : ℕ
  pub read : read_of (after_write s n v) n ≡ success (value ∷ [])
  pub bits : (i : ℕ) → bit value i ≡ (kept_bit n i && bit v i)

-- a write leaves what every other register reads, and log and memory; one of 32 zeroes all rows and the pointer, any other
-- leaves them
pub record Leaves (s : State) (n v : ℕ) : Type 0 where
  pub others : (m : ℕ) → (m ≢ n) → (n ≡ 32 → RowRegister m → ⊥) → read_of (after_write s n v) m ≡ read_of s m
  pub zeroed : n ≡ 32 → (m : ℕ) → RowRegister m → read_of (after_write s n v) m ≡ success (0 ∷ [])
  pub rows_zero : n ≡ 32 → (after_write s n v).control.look_aside ≡ zero_rows
  pub rows : (n ≢ 32) → (after_write s n v).control.look_aside ≡ s.control.look_aside
  pub log : (after_write s n v).control.log ≡ s.control.log
  pub lines : (after_write s n v).lines ≡ s.lines

-- a call is refused with 10, and changes nothing, exactly if this holds
pub record RefusedWith10 (s : State) (c : Call) (P : Type 0) : Type 0 where
  pub refused : P → performed s c ≡ record { state = s; answer = refusal 10 []; buffer = [] }
  pub only : (performed s c).answer ≡ refusal 10 [] → P

-- a read answers one value with these bits
pub record ReadsOne (s : State) (n : ℕ) (has_bit : ℕ → Bool) : Type 0 where
  pub value : ℕ
  pub read : read_of s n ≡ success (value ∷ [])
  pub bits : (i : ℕ) → bit value i ≡ has_bit i

-- of a valid row's tag, bits 31:13 are the PCI page and 12 is 1; of its data, 20:1 are the page number; a row that is not valid
-- has no bit set in either
abbrev pub tag_bit : Option LookAsideRow → ℕ → Bool
tag_bit None i = false
tag_bit (Some r) i = cond (i == 12) true (in_range 13 31 i && bit r.pci_page (i - 13))

abbrev pub data_bit : Option LookAsideRow → ℕ → Bool
data_bit None i = false
data_bit (Some r) i = in_range 1 20 i && bit r.page (i - 1)

-- which part of the bridge's own record each register reads
pub record Parts (s : State) : Type 0 where
  pub translated_1 : read_of s 6 ≡ success (s.control.registers.first.translated ∷ [])
  pub translated_2 : read_of s 7 ≡ success (s.control.registers.second.translated ∷ [])
  pub base_1 : read_of s 8 ≡ success (s.control.registers.first.base ∷ [])
  pub base_2 : read_of s 9 ≡ success (s.control.registers.second.base ∷ [])
  pub mask_1 : read_of s 10 ≡ success (s.control.registers.first.mask ∷ [])
  pub mask_2 : read_of s 11 ≡ success (s.control.registers.second.mask ∷ [])
  pub haxr1 : read_of s 13 ≡ success (s.control.registers.haxr1 ∷ [])
  pub haxr2 : read_of s 14 ≡ success (s.control.registers.haxr2 ∷ [])
  pub tag : (k : ℕ) → k < 8 → ReadsOne s (16 + k) (tag_bit (row s.control.look_aside k))
  pub page_number : (k : ℕ) → k < 8 → ReadsOne s (24 + k) (data_bit (row s.control.look_aside k))

pub record RegisterMap : Type 0 where
  pub reads_back : (s : State) (n v : ℕ) → Writable n → ReadsBack s n v
  pub leaves : (s : State) (n v : ℕ) → Leaves s n v
  pub parts : (s : State) → Parts s
  pub read_refused : (s : State) (n : ℕ) → RefusedWith10 s (processor (register_read n)) (Listed n → ⊥)
  pub write_refused : (s : State) (n v : ℕ) → RefusedWith10 s (processor (register_write n v)) (Writable n → ⊥)
