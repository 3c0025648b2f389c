-- Marsaglia's xorshift of 64 bits.
use Rattle.std.specs.Prelude.{ℕ, zero, suc, ◌*◌, ◌/◌, ◌%◌, ◌^◌, List, map, bit_xor}
use Rattle.std.specs.List.{range_with_len}

-- a number of 64 bits with itself, shifted by k bits up or down
abbrev pub with_up : ℕ → ℕ → ℕ
with_up k x = bit_xor x (x * 2 ^ k % 2 ^ 64)

abbrev pub with_down : ℕ → ℕ → ℕ
with_down k x = bit_xor x (x / 2 ^ k)

abbrev pub stepped : ℕ → ℕ
stepped x = with_up 17 (with_down 7 (with_up 13 x))

abbrev pub steps : ℕ → ℕ → ℕ
steps zero x = x
steps (suc n) x = stepped (steps n x)

-- the upper bytes of the next n numbers
unfoldable pub upper_bytes : ℕ → ℕ → List ℕ
upper_bytes n x = map (λ k. steps (suc k) x / 2 ^ 56) (range_with_len 0 n)
