-- Single bits of sums of fields, of bit fields, and of the bitwise operations.
use Rattle.std.proofs.Common.{◌≡◌, ℕ, zero, suc, ◌+◌, ◌-◌, ◌*◌, ◌/◌, ◌%◌, ◌^◌, ◌<◌, ◌≤◌, Bool, true, false, not, ◌&&◌, ◌||◌, eqb, leb, min, max, sym, refl, ap, ◌∙◌, ⊎_elim, add-zero, arith}
use lib.Bits.{bit_and, bit_or, bit_xor}
use Rattle.std.proofs.Math.Nat.{two-pow-succ}
use Rattle.std.proofs.lemmas.Nat.{mod_below, pow_pos, shr-shr, shr_split}
use Rattle.std.proofs.lemmas.Nat.Bits.{bit_at_above, bit_at_and, bit_at_cat_high, bit_at_cat_low, bit_at-lt, bit_at_lowest, bit_at_or, bit_at-suc, bit_at-trailing_ones, bit_at_xor, bit_at-zero}
use Rattle.std.proofs.lemmas.Bool.{and_left, cases_lt, le-leb, lt-leb}
use Rattle.std.specs.Int.{bit_at, trailing_ones, w32}
use Rattle.memory.specs.Content.{bit}
use Rattle.bridge.specs.Bits.{bits}

-- of a number shifted down
bit_shifted : (n k i : ℕ) → bit (n / 2 ^ k) i ≡ bit n (k + i)
bit_shifted n k i = ap (λ m. eqb (m % 2) 1) (shr-shr n k i)

-- a sum of two fields: below k the bits of the low one, from k on those of the high one
pub bit_low : (i k hi lo : ℕ) → i < k → bit (hi * 2 ^ k + lo) i ≡ bit lo i
bit_low i k hi lo h = ap (λ b. eqb b 1) (bit_at_cat_low hi k lo i h)

pub bit_high : (i k hi lo : ℕ) → lo < 2 ^ k → k ≤ i → bit (hi * 2 ^ k + lo) i ≡ bit hi (i - k)
bit_high i k hi lo l h = ap (λ b. eqb b 1) (bit_at_cat_high hi k lo i l h)

pub bit_of_zero : (i : ℕ) → bit 0 i ≡ false
bit_of_zero i = ap (λ b. eqb b 1) (bit_at-zero i)

-- a number shifted up by k has its own bits from k on, and none below
pub bit_up : (k n i : ℕ) → bit (n * 2 ^ k) i ≡ (leb k i && bit n (i - k))
bit_up k n i =
    ap (λ m. bit m i) (sym (add-zero (n * 2 ^ k)))
    ∙ ⊎_elim (λ l. bit_low i k n 0 l ∙ bit_of_zero i ∙ sym (and_left _ _ (lt-leb k i l)))
    (λ g. bit_high i k n 0 (pow_pos k) g ∙ ap (λ b. b && bit n (i - k)) (sym (le-leb k i g)))
    (cases_lt i k)

-- a number below 2 ^ k has no bit from k on
pub bit_beyond : (i k n : ℕ) → n < 2 ^ k → k ≤ i → bit n i ≡ false
bit_beyond i k n l h = ap (λ b. eqb b 1) (bit_at_above n k i l h)

-- the bits of a field
pub bit_field : (high low n i : ℕ) → i < high + 1 - low → bit (bits high low n) i ≡ bit n (low + i)
bit_field high low n i h =
    let w = high + 1 - low in
    sym (bit_low i w (n / 2 ^ low / 2 ^ w) (bits high low n) h) ∙ ap (λ m. bit m i) (shr_split (n / 2 ^ low) w) ∙ bit_shifted n low i

pub field_below : (high low n : ℕ) → bits high low n < 2 ^ (high + 1 - low)
field_below high low n = mod_below _ (2 ^ (high + 1 - low)) (pow_pos (high + 1 - low))

-- the operations, bit by bit
digit : (P : ℕ → Type 0) → P 0 → P 1 → (x : ℕ) → x < 2 → P x
digit P p q zero h = p
digit P p q (suc zero) h = q
digit P p q (suc (suc x)) h = absurd (omega arith)

digits : (P : ℕ → ℕ → Type 0) → P 0 0 → P 0 1 → P 1 0 → P 1 1 → (m n i : ℕ) → P (bit_at m i) (bit_at n i)
digits P a b c d m n i = digit (λ x. P x (bit_at n i)) (digit (P 0) a b _ (bit_at-lt n i)) (digit (P 1) c d _ (bit_at-lt n i)) _ (bit_at-lt m i)

pub bit_of_and : (a b i : ℕ) → bit (bit_and a b) i ≡ (bit a i && bit b i)
bit_of_and a b i = ap (λ d. eqb d 1) (bit_at_and a b i) ∙ digits (λ x y. eqb (min x y) 1 ≡ (eqb x 1 && eqb y 1)) refl refl refl refl a b i

pub bit_of_or : (a b i : ℕ) → bit (bit_or a b) i ≡ (bit a i || bit b i)
bit_of_or a b i = ap (λ d. eqb d 1) (bit_at_or a b i) ∙ digits (λ x y. eqb (max x y) 1 ≡ (eqb x 1 || eqb y 1)) refl refl refl refl a b i

-- whether two bits differ
abbrev pub differs : Bool → Bool → Bool
differs true b = not b
differs false b = b

pub bit_of_xor : (a b i : ℕ) → bit (bit_xor a b) i ≡ differs (bit a i) (bit b i)
bit_of_xor a b i = ap (λ d. eqb d 1) (bit_at_xor a b i) ∙ digits (λ x y. eqb ((x + y) % 2) 1 ≡ differs (eqb x 1) (eqb y 1)) refl refl refl refl a b i

-- the complement at w bits
complement_odd : (p m : ℕ) → m < p + p → (p + p - 1 - m) % 2 ≡ 1 - m % 2
complement_odd p m l = omega arith

pub bit_complement : (w m i : ℕ) → m < 2 ^ w → i < w → bit (2 ^ w - 1 - m) i ≡ not (bit m i)
bit_complement zero m i l h = absurd (omega arith)
bit_complement (suc w) m zero l h =
    let p = two-pow-succ w in
    let e : (2 ^ suc w - 1 - m) % 2 ≡ 1 - m % 2 = ap (λ q. (q - 1 - m) % 2) p ∙ complement_odd (2 ^ w) m (omega arith) in
    ap (λ d. eqb d 1) (bit_at_lowest (2 ^ suc w - 1 - m) ∙ e)
    ∙ digit (λ x. eqb (1 - x) 1 ≡ not (eqb x 1)) refl refl (m % 2) (mod_below m 2 (omega arith)) ∙ ap (λ d. not (eqb d 1)) (sym (bit_at_lowest m))
bit_complement (suc w) m (suc i) l h =
    let p = two-pow-succ w in
    let e : (2 ^ suc w - 1 - m) / 2 ≡ 2 ^ w - 1 - m / 2 = omega arith in
    ap (λ d. eqb d 1) (bit_at-suc (2 ^ suc w - 1 - m) i) ∙ ap (λ n. bit n i) e ∙ bit_complement w (m / 2) i (omega arith) (omega arith) ∙ ap (λ d. not (eqb d 1)) (sym (bit_at-suc m i))

-- a number of 32 bits that are not all set lacks one
pub lacks_bit : (n : ℕ) → n < 2 ^ 32 → (n ≡ 2 ^ 32 - 1 → ⊥) → (i : ℕ) × (i < 32) × (bit n i ≡ false)
lacks_bit n l ne =
    let first = bit_at-trailing_ones w32 n (omega arith) in
    (trailing_ones w32 n, first.0, ap (λ b. eqb b 1) first.1)
