-- Numbers as bytes, low end first.
use Rattle.std.specs.Prelude.{ℕ, zero, suc, ◌+◌, ◌*◌, ◌/◌, ◌%◌, List, [], ◌∷◌}

-- the number that some bytes make
abbrev pub joined : List ℕ → ℕ
joined [] = 0
joined (b ∷ bytes) = b + 256 * joined bytes

-- the low k bytes of a number
abbrev pub low_bytes : ℕ → ℕ → List ℕ
low_bytes zero n = []
low_bytes (suc k) n = n % 256 ∷ low_bytes k (n / 256)
