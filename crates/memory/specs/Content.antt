-- What a memory means: the content of each line number, and what present, read and write make of it.
use Rattle.std.specs.Prelude.{◌≡◌, ℕ, ◌/◌, ◌%◌, ◌^◌, ◌≤◌, Bool, true, false, cond, List, map, length, Ok, Err, Result, ◌==◌, slice_index}
use Rattle.std.specs.List.{range_with_len}
use Rattle.memory.specs.declared.MemoryFault.{MemoryFault}
use Rattle.memory.specs.declared.MemoryFault.TheVariants.{Absent, Spoiled}

-- a line is absent, spoiled (present, but not readable), or good with its 32 bytes
pub data Content : Type 0 where
  absent : Content
  spoiled : Content
  good : List ℕ → Content

-- the content of every line number
abbrev pub Lines : Type 0
Lines = ℕ → Content

-- line C000000h begins at address 1_8000_0000h: from there up every line is absent
abbrev pub Bounded : Lines → Type 0
Bounded lines = (line : ℕ) → 0xC000000 ≤ line → lines line ≡ absent

abbrev pub Has32Bytes : Content → Type 0
Has32Bytes absent = Unit {0}
Has32Bytes spoiled = Unit {0}
Has32Bytes (good bytes) = length bytes ≡ 32

abbrev pub Whole : Lines → Type 0
Whole lines = (line : ℕ) → Has32Bytes (lines line)

-- the laws of every memory
pub record Lawful (lines : Lines) : Type 0 where
  pub beyond : Bounded lines
  pub whole : Whole lines

abbrev pub is_present : Content → Bool
is_present absent = false
is_present spoiled = true
is_present (good bytes) = true

abbrev pub is_spoiled : Content → Bool
is_spoiled absent = false
is_spoiled spoiled = true
is_spoiled (good bytes) = false

-- the line that a memory refuses
abbrev pub memory_line : MemoryFault → ℕ
memory_line (Absent line) = line
memory_line (Spoiled line) = line

-- a read refuses absent and spoiled lines, by those names; the place is filled by a good line alone
abbrev pub read_answer : ℕ → Content → Result Unit MemoryFault
read_answer line absent = Err (Absent line)
read_answer line spoiled = Err (Spoiled line)
read_answer line (good bytes) = Ok tt

abbrev pub read_place : Content → List ℕ → List ℕ
read_place absent place = place
read_place spoiled place = place
read_place (good bytes) place = bytes

-- a write refuses absent lines alone
abbrev pub write_answer : ℕ → Content → Result Unit MemoryFault
write_answer line absent = Err (Absent line)
write_answer line spoiled = Ok tt
write_answer line (good bytes) = Ok tt

-- bit i of n
abbrev pub bit : ℕ → ℕ → Bool
bit n i = n / 2 ^ i % 2 == 1

abbrev pub all_ones : ℕ
all_ones = 0xffff_ffff

-- the 32 bytes after a masked write: byte i is the new one where bit i of the mask is set, else the old one
unfoldable pub merged : ℕ → List ℕ → List ℕ → List ℕ
merged mask old new = map (λ i. cond (bit mask i) (slice_index new i) (slice_index old i)) (range_with_len 0 32)

-- a good line takes the masked bytes; a spoiled line becomes good under a mask of all ones, and stays spoiled under any other
abbrev pub overwritten : List ℕ → ℕ → Content → Content
overwritten bytes mask absent = absent
overwritten bytes mask spoiled = cond (mask == all_ones) (good bytes) spoiled
overwritten bytes mask (good old) = good (merged mask old bytes)

-- every line after a write to one of them
abbrev pub written : ℕ → List ℕ → ℕ → Lines → Lines
written line bytes mask lines k = cond (k == line) (overwritten bytes mask (lines k)) (lines k)
