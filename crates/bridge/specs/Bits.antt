-- Bit fields of numbers.
use Rattle.std.specs.Prelude.{ℕ, ◌+◌, ◌-◌, ◌*◌, ◌/◌, ◌%◌, ◌^◌, Bool, true, false, ◌&&◌, nat_le}

-- bits high:low of n, as a number
abbrev pub bits : ℕ → ℕ → ℕ → ℕ
bits high low n = n / 2 ^ low % 2 ^ (high + 1 - low)

-- bits high:low of n at their place, every other bit 0
abbrev pub bits_kept : ℕ → ℕ → ℕ → ℕ
bits_kept high low n = bits high low n * 2 ^ low

-- a truth value as a bit
abbrev pub flag : Bool → ℕ
flag true = 1
flag false = 0

-- whether n lies from low to high
abbrev pub in_range : ℕ → ℕ → ℕ → Bool
in_range low high n = nat_le low n && nat_le n high
