-- Which bank of a list is guessed to hold an address, before the banks are searched.
use Rattle.std.specs.Prelude.{◌≡◌, ℕ, ◌/◌, ◌%◌, ◌^◌, ◌<◌, ◌≤◌, Bool, true, false, All, List, length, slice_index, ◌==◌}
use Rattle.std.specs.Int.{trailing_zeros, w64}
use Rattle.std.specs.List.{list_any, range_with_len}
use Rattle.std.specs.Option.{unwrap_or}
use Rattle.memory.specs.declared.banks.Bank.{Bank}
use Rattle.memory.specs.Banks.{holds, nth}
use Rattle.memory.specs.Rows.{first_index}

-- how many bits an address has within a bank, whose size is a power of two
abbrev pub bits_within : Bank → ℕ
bits_within b = trailing_zeros w64 b.size

-- how many it has within the smallest bank, or 0 where there is no bank
pub record SmallestBits (banks : List Bank) (bits : ℕ) : Type 0 where
  pub none : length banks ≡ 0 → bits ≡ 0
  pub one : 0 < length banks → list_any (λ b. bits_within b == bits) banks ≡ true
  pub least : All (λ b. bits ≤ bits_within b) banks

-- whether a bank, cut into blocks of 2 ^ bits bytes, has one whose number ends in the six bits of k
abbrev pub has_block : ℕ → ℕ → Bank → Bool
has_block bits k b = list_any (λ block. block % 64 == k) (range_with_len (b.base / 2 ^ bits) (b.size / 2 ^ bits))

-- the first bank that has such a block, or bank 0 where none has
abbrev pub guess : List Bank → ℕ → ℕ → ℕ
guess banks bits k = unwrap_or (first_index (has_block bits k) banks) 0

-- what a table of guesses has for an address that a bank holds is that bank, if no bank before it has a block with the same six bits
abbrev pub GuessesRight : List Bank → ℕ → List ℕ → Type 0
GuessesRight banks bits guesses = (i address : ℕ) → i < length banks → holds (nth banks i) address ≡ true
    → ((j : ℕ) → j < i → has_block bits (address / 2 ^ bits % 64) (nth banks j) ≡ false)
    → slice_index guesses (address / 2 ^ bits % 64) ≡ i
