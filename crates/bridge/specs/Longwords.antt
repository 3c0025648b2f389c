-- Quadwords and longwords in a line: what an entry or a load takes out of its bytes, and what a write of longwords puts there, under which mask.
use Rattle.std.specs.Prelude.{ℕ, ◌+◌, ◌-◌, ◌*◌, ◌/◌, ◌%◌, ◌^◌, cond, List, [], ◌∷◌, map, take, drop, nat_lt, slice_index}
use Rattle.std.specs.List.{range_with_len}
use Rattle.memory.specs.Bytes.{joined}

-- the quadword at an offset of some bytes
abbrev pub quadword_at : List ℕ → ℕ → ℕ
quadword_at bytes offset = joined (take 8 (drop offset bytes))

-- the four bytes of a longword, low end first
abbrev pub word_bytes : ℕ → List ℕ
word_bytes w = w % 256 ∷ w / 256 % 256 ∷ w / 2 ^ 16 % 256 ∷ w / 2 ^ 24 % 256 ∷ []

-- byte j of some longwords
abbrev pub byte_of : List ℕ → ℕ → ℕ
byte_of words j = slice_index (word_bytes (slice_index words (j / 4))) (j % 4)

-- 32 bytes with the longwords from an offset on, zeros elsewhere
abbrev pub line_byte : ℕ → List ℕ → ℕ → ℕ
line_byte offset words i = cond (nat_lt i offset) 0 (byte_of words (i - offset))

unfoldable pub line_bytes : ℕ → List ℕ → List ℕ
line_bytes offset words = map (line_byte offset words) (range_with_len 0 32)

-- four bits for each longword, those of the first lowest: bit j of an enable is for byte j of its longword
abbrev pub enable_bits : List ℕ → ℕ
enable_bits [] = 0
enable_bits (e ∷ enables) = e + 16 * enable_bits enables

-- the mask of a line with the longwords from an offset on
abbrev pub line_mask : ℕ → List ℕ → ℕ
line_mask offset enables = enable_bits enables * 2 ^ offset
