-- Bit fields by shifts.
use Rattle.std.proofs.Common.{◌≡◌, ℕ, ◌+◌, ◌-◌, ◌*◌, ◌/◌, ◌%◌, ◌^◌, ◌<◌, ◌≤◌, sym, ap, ◌∙◌, subst, arith, pow_mono}
use Rattle.std.proofs.Math.Nat.{mod-eq_of_lt}
use Rattle.std.proofs.lemmas.Nat.{shr_below, shr_split}
use Rattle.bridge.specs.Bits.{bits_kept}

-- a number of high + 1 bits, shifted down and up again in a type that has as many, keeps its bits high:low
pub shifted : (n low high width : ℕ) → low ≤ high + 1 → high < width → n < 2 ^ (high + 1) → n / 2 ^ low * 2 ^ low % 2 ^ width ≡ bits_kept high low n
shifted n low high width l w h =
    let whole : high + 1 ≡ high + 1 - low + low = omega (arith, l) in
    let small : n / 2 ^ low < 2 ^ (high + 1 - low) = shr_below n (high + 1 - low) low (subst (λ k. n < 2 ^ k) whole h) in
    let wide : high + 1 ≤ width = omega (arith, w) in
    let fits : n / 2 ^ low * 2 ^ low < 2 ^ width = omega (arith, shr_split n low, h, pow_mono wide) in
    mod-eq_of_lt fits ∙ ap (λ k. k * 2 ^ low) (sym (mod-eq_of_lt small))
