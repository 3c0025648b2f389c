-- A number with one bit set is a power of two, and the sizes of banks are 2 ^ 13 to 2 ^ 30.
use Rattle.std.specs.Prelude.{◌≡◌, ℕ, zero, suc, ◌/◌, ◌%◌, ◌^◌, ◌<◌, ◌≤◌, true}
use Rattle.std.specs.Int.{IsPowerOfTwo}
use Rattle.std.specs.Int.Count.{ones, ones_step, ones-ones}
use Rattle.std.proofs.Common.{lit<, ap, add-zero, one-mul, ◌∙◌, ⊎_elim, pow-suc, arith}
use Rattle.std.proofs.Math.Nat.{pow-le-pow_right}
use Rattle.std.proofs.lemmas.Nat.{ones_cat, ones_le_self, pow_below, pow_pos, zero_from_ones}
use Rattle.std.proofs.lemmas.Bool.{and_from, cases_eq, cases_lt, eq-eqb, le-leb}
use Rattle.std.proofs.lemmas.Bool.Decides.{nat_tests}
use Rattle.memory.specs.Banks.{PowerSize, size_fits}

one_bit : (d n : ℕ) → n < 2 ^ d → ones n ≡ 1 → IsPowerOfTwo n
one_bit zero n h e = absurd (omega (arith, ones_le_self n))
one_bit (suc d) n h e =
    let s = ones_step n in
    ⊎_elim
    (λ even. let rest = one_bit d (n / 2) (omega (arith, pow-suc 2 d)) (omega arith) in
    (suc rest.0, omega (arith, pow-suc 2 rest.0, rest.1)))
    (λ odd. (0, omega (arith, zero_from_ones (n / 2) (omega arith))))
    (cases_eq (n % 2) 0)

ones_power : (k : ℕ) → ones (2 ^ k) ≡ 1
ones_power k = let cut = simp (add-zero, one-mul) at (ones_cat k 1 0 (pow_pos k)) in omega (arith, ones-ones 0, ones-ones 1)

exponent_bounds : (k : ℕ) → 0x2000 ≤ 2 ^ k → 2 ^ k ≤ 0x4000_0000 → (13 ≤ k) × (k ≤ 30)
exponent_bounds k low high = (
  ⊎_elim (λ (small : k < 13). absurd (omega (arith, pow_below k 13 small))) (λ h. h) (cases_lt k 13),
  ⊎_elim (λ (big : 30 < k). absurd (omega (arith, pow_below 30 k big))) (λ h. h) (cases_lt 30 k),
)

pub size_power : (size : ℕ) → size_fits size ≡ true → PowerSize size
size_power size h =
    let one : ones size ≡ 1 = grind (arith, nat_tests) in
    let low : 0x2000 ≤ size = grind (arith, nat_tests) in
    let high : size ≤ 0x4000_0000 = grind (arith, nat_tests) in
    let p = one_bit 31 size (omega arith) one in
    let bounds = exponent_bounds p.0 (omega (arith, p.1)) (omega (arith, p.1)) in
    record { exponent = p.0; least = bounds.0; most = bounds.1; is = p.1 }

pub power_fits : (size : ℕ) → PowerSize size → size_fits size ≡ true
power_fits size p =
    let one : ones size ≡ 1 = ap ones p.is ∙ ones_power p.exponent in
    let low : 2 ^ 13 ≤ 2 ^ p.exponent = pow-le-pow_right (lit< tt) p.least in
    let high : 2 ^ p.exponent ≤ 2 ^ 30 = pow-le-pow_right (lit< tt) p.most in
    let e = p.is in
    and_from _ _ (eq-eqb _ _ one) (and_from _ _ (le-leb 0x2000 size (omega arith)) (le-leb size 0x4000_0000 (omega arith)))
