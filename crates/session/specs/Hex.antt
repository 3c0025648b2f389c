-- The numbers of a form: 1 to 16 hexadecimal digits of either case.
use Rattle.std.specs.Prelude.{◌≡◌, ℕ, ◌^◌, ◌<◌, ◌≤◌, List, length}
use Rattle.std.specs.Str.Parse.{IsNumeral, digits_value}

-- one digit or more and nothing else, at most 16 in all; `digits_value 16 w` is the number that they write
abbrev pub HexWord : List ℕ → Type 0
HexWord w = IsNumeral 16 w × (length w ≤ 16)

-- the word writes n, which is below 2 ^ bits
abbrev pub Reads : ℕ → List ℕ → ℕ → Type 0
Reads bits w n = HexWord w × (digits_value 16 w < 2 ^ bits) × (n ≡ digits_value 16 w)
