-- Longwords: numbers of 32 bits in the bytes of a line, eight to a line, low end first.
use Rattle.std.specs.Prelude.{◌≡◌, ◌<◌, ◌≤◌, true, is_err, slice_index, ℕ, zero, suc, ◌+◌, ◌*◌, ◌/◌, ◌%◌, List, [], ◌∷◌, ◌++◌, length, map, take, drop, Ok, Err, Result}
use Rattle.std.specs.List.{range_with_len}
use Rattle.memory.specs.Bytes.{joined}
use Rattle.memory.specs.Content.{Content, Lines, absent, spoiled, good, read_answer}
use Rattle.memory.specs.declared.MemoryFault.{MemoryFault}

-- the longword at an offset of some bytes, and `count` longwords from an offset on
abbrev pub longword_at : List ℕ → ℕ → ℕ
longword_at bytes offset = joined (take 4 (drop offset bytes))

abbrev pub longwords : ℕ → ℕ → List ℕ → List ℕ
longwords count offset bytes = map (λ k. longword_at bytes (offset + 4 * k)) (range_with_len 0 count)

-- a longword of a good line, by its index there, and later ones; a line that is not good ends them
abbrev pub longword_then : Content → ℕ → List ℕ → List ℕ
longword_then absent index later = []
longword_then spoiled index later = []
longword_then (good bytes) index later = longword_at bytes (4 * index) ∷ later

-- `count` longwords of a memory from number `first` on, as far as their lines are good: longword n is longword n % 8 of line n / 8
abbrev pub longwords_on : ℕ → ℕ → Lines → List ℕ
longwords_on zero first lines = []
longwords_on (suc count) first lines = longword_then (lines (first / 8)) (first % 8) (longwords_on count (first + 1) lines)

-- they fill a buffer from its first place on; the rest of it stays
abbrev pub buffer_filled : List ℕ → List ℕ → List ℕ
buffer_filled words buffer = words ++ drop (length words) buffer

-- what such a read answers: how many longwords it read, or that the line of the first one is refused
abbrev pub longwords_answered : ℕ → Result Unit MemoryFault → Result ℕ MemoryFault
longwords_answered count (Ok done) = Ok count
longwords_answered count (Err fault) = Err fault

abbrev pub longwords_answer : ℕ → ℕ → Lines → Result ℕ MemoryFault
longwords_answer count first lines = longwords_answered (length (longwords_on count first lines)) (read_answer (first / 8) (lines (first / 8)))

-- The rule. A longword is read of its line, which is good.
abbrev pub IsLongwordOf : Content → ℕ → ℕ → Type 0
IsLongwordOf absent index word = ⊥
IsLongwordOf spoiled index word = ⊥
IsLongwordOf (good bytes) index word = word ≡ longword_at bytes (4 * index)

-- of those asked for, each that is read is that of its line, and where fewer are read, a read of the next one's line is refused
pub record ReadByTheRule (count first : ℕ) (lines : Lines) (words : List ℕ) : Type 0 where
  pub most : length words ≤ count
  pub each : (k : ℕ) → k < length words → IsLongwordOf (lines ((first + k) / 8)) ((first + k) % 8) (slice_index words k)
  pub ends : length words < count → is_err (read_answer ((first + length words) / 8) (lines ((first + length words) / 8))) ≡ true

abbrev pub LongwordsByTheRule : Type 0
LongwordsByTheRule = (count first : ℕ) (lines : Lines) → ReadByTheRule count first lines (longwords_on count first lines)
