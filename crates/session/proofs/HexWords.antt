-- What holds while a hexadecimal word is read.
use Rattle.std.proofs.Common.{◌≡◌, ℕ, zero, suc, ◌^◌, ◌<◌, ◌≤◌, List, [], ◌∷◌, length, get_or, take, arith, lit<}
use native.Mathlib.Nat.{pow-le-pow_right}
use Rattle.std.specs.Str.Parse.{AllDigits, digits_value}
use Rattle.std.specs.Char.{digit_value}
use Rattle.std.proofs.lemmas.Int.Digits.{digits_value-lt}
use Rattle.std.proofs.lemmas.List.{length-take-le}

pub digits_at : (w : List ℕ) (i : ℕ) → AllDigits 16 w → i < length w → digit_value (get_or w i 0) < 16
digits_at [] i d l = absurd (omega arith)
digits_at (c ∷ w) zero d l = d.0
digits_at (c ∷ w) (suc i) d l = digits_at w i d.1 (omega arith)

-- fewer than 16 digits are below 2 ^ 60
pub room : (w : List ℕ) (i : ℕ) → i < length w → length w ≤ 16 → AllDigits 16 (take i w) → digits_value 16 (take i w) < 1152921504606846976
room w i l m d =
    let long : length (take i w) ≡ i = length-take-le i w (omega arith) in
    let low = digits_value-lt 16 (take i w) d in
    let high : 16 ^ length (take i w) ≤ 16 ^ 15 = (let le : length (take i w) ≤ 15 = omega arith in pow-le-pow_right (lit< tt) le) in
    omega arith
